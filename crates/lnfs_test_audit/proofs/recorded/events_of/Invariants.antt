use Rattle.std.specs.Prelude.{All}
use Rattle.lnfs_types.specs.Moments.{Fits}
use Rattle.lnfs_test_audit.proofs.recorded.events_of.Given as goal

abbrev pub invariant-loop-event : goal.invariant-loop-event
invariant-loop-event l = All Fits l.events.items
