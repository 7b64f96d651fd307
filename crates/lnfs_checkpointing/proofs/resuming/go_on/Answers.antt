use Rattle.std.proofs.Common.{rules, [], List, ℕ}
use Rattle.lnfs_stage.specs.Contents.{Contents}
use Rattle.lnfs_stage.proofs.Reading.{reads_stop, reads_then, follows_does}
use Rattle.lnfs_checkpoint.specs.Takes.{told_of}
use Rattle.lnfs_checkpointing.specs.Checkpoints.{resumed}
use Rattle.lnfs_checkpointing.proofs.resuming.go_on.Goals as goal

pub returns-in_err-traffic : goal.returns-in_err-traffic
returns-in_err-traffic g c = reads_stop c.args.traffic.now [] (λ (text : List ℕ) (files : Contents). resumed c.args.server.now.policy (told_of c.args.server.now) text) _ (search rules) c.in_err-traffic.ensures

pub returns : goal.returns
returns g c =
    reads_then c.args.traffic.now [] (λ (text : List ℕ) (files : Contents). resumed c.args.server.now.policy (told_of c.args.server.now) text) _ c.in_ok-traffic.ensures
    (follows_does (rw c.deref.ensures.value at c.serve_all.ensures.does))
