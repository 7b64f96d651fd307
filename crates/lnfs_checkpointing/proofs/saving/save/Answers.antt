use Rattle.std.proofs.Common.{rules, ◌∙◌, subst}
use Rattle.lnfs_checkpoint.specs.Takes.{AreBytes}
use Rattle.lnfs_checkpointing.proofs.Served.{on_ok}
use Rattle.lnfs_checkpointing.proofs.Written.{save_stop, save_short, save_all, again}
use Rattle.lnfs_checkpointing.proofs.saving.save.Goals as goal

pub returns-in_err-serve_all-clause-does : goal.returns-in_err-serve_all-clause-does
returns-in_err-serve_all-clause-does g c = save_stop c.args.server.now c.args.traffic.now c.requires _ (search rules) c.in_err-serve_all.ensures.does

pub returns-in_err-bytes-clause-does : goal.returns-in_err-bytes-clause-does
returns-in_err-bytes-clause-does g c = save_short c.args.server.now c.args.traffic.now c.requires _ (search rules) c.in_ok-serve_all.ensures.does

pub returns-clause-does : goal.returns-clause-does
returns-clause-does g c = save_all c.args.server.now c.args.traffic.now c.requires _ c.serve_all.new.server _ c.in_ok-serve_all.ensures.does c.in_ok-serve_all.ensures.behind (c.deref.ensures.value ∙ c.in_ok-bytes.ensures.text) c.put_checkpoint.ensures.does

pub returns-clause-again : goal.returns-clause-again
returns-clause-again g c =
    let w = c.in_ok-bytes.ensures in
    on_ok c.put_checkpoint.result (again c.args.server.now c.serve_all.new.server _ c.requires c.in_ok-serve_all.ensures.behind _ w.text (subst AreBytes c.deref.ensures.value c.put_checkpoint.ensures.bytes) (w.again, w.fit))
