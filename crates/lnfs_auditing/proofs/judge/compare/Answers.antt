use Rattle.std.proofs.Common.{rules, ◌∷◌, [], sym}
use Rattle.lnfs_stage.proofs.Reading.{reads_stop, reads_then, follows_does}
use Rattle.lnfs_auditing.specs.Audits.{found_due}
use Rattle.lnfs_auditing.proofs.judge.compare.Goals as goal

pub returns-in_err-records : goal.returns-in_err-records
returns-in_err-records g c = reads_stop c.args.replies.now [] (λ text files. found_due c.args.policy c.args.events.now text) _ (search rules) c.in_err-records.ensures

pub returns : goal.returns
returns g c =
    reads_then c.args.replies.now [] (λ text files. found_due c.args.policy c.args.events.now text) _ c.in_ok-records.ensures
    (follows_does (rw c.deref.ensures.value at c.show.ensures))
