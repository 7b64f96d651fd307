use Rattle.std.proofs.Common.{◌≡◌, ◌+◌, ◌∷◌, ◌++◌, [], take, arith}
use Rattle.std.proofs.lemmas.Grind.{common_steps}
use Rattle.lnfs_traffic.proofs.Whole.{recording_more}
use Rattle.lnfs_traffic.proofs.writing.write_traffic.Goals as goal

pub loop-event-preserved : goal.loop-event-preserved
loop-event-preserved c =
    let e = c.in_ok-add_event.ensures in
    let t : take (c.loop-event.event-index + 1) c.args.events.now ≡ take c.loop-event.event-index c.args.events.now ++ c.event-item.result ∷ [] = grind (arith, common_steps, c.event-item.is) in
    (grind (arith, common_steps), rw (t, e.text) (recording_more _ _ _ _ c.loop-event.invariant.1 e.spelled))
