use Rattle.std.proofs.Common.{◌-◌, ◌≤◌, length}
use Rattle.lnfs_audit.proofs.filling.places.Given as goal

abbrev pub invariant-loop-places : goal.invariant-loop-places
invariant-loop-places l = length l.places.items ≤ l.count

abbrev pub decreases-loop-places : goal.decreases-loop-places
decreases-loop-places l = l.count - length l.places.items
