use Rattle.std.proofs.Common.{rules, ◌∷◌, [], sym, List}
use Rattle.lnfs_types.specs.declared.event.Event.{Event}
use Rattle.lnfs_stage.specs.Contents.{Contents}
use Rattle.lnfs_stage.specs.Due.{Due}
use Rattle.lnfs_stage.proofs.Reading.{reads_stop, reads_then}
use Rattle.lnfs_auditing.specs.Audits.{compared, events_in}
use Rattle.lnfs_auditing.proofs.Auditing.{events_are, follows_as, stops_at_events}
use Rattle.lnfs_auditing.proofs.judge.under.Goals as goal

pub returns-in_err-traffic : goal.returns-in_err-traffic
returns-in_err-traffic g c =
    let replies = c.args.asked.now.replies.now in
    let next = λ (files : Contents) (events : List Event). compared c.args.policy events replies files in
    reads_stop c.args.asked.now.traffic.now (replies ∷ []) (λ text files. events_in text (next files)) _ (search rules) c.in_err-traffic.ensures

pub returns-in_err-events : goal.returns-in_err-events
returns-in_err-events g c =
    let replies = c.args.asked.now.replies.now in
    let next = λ (files : Contents) (events : List Event). compared c.args.policy events replies files in
    reads_then c.args.asked.now.traffic.now (replies ∷ []) (λ text files. events_in text (next files)) _ c.in_ok-traffic.ensures
    (stops_at_events _ _ _ (replies ∷ []) next (search rules) (rw c.deref.ensures.value at c.in_err-events.ensures))

pub returns : goal.returns
returns g c =
    let replies = c.args.asked.now.replies.now in
    let next = λ (files : Contents) (events : List Event). compared c.args.policy events replies files in
    reads_then c.args.asked.now.traffic.now (replies ∷ []) (λ text files. events_in text (next files)) _ c.in_ok-traffic.ensures
    (follows_as _ _ (λ files. sym (events_are c.in_ok-events.events c.in_ok-traffic.traffic.items (rw c.deref.ensures.value at c.in_ok-events.ensures) (next files))) (rw c.deref-2.ensures.value at c.compare.ensures))
