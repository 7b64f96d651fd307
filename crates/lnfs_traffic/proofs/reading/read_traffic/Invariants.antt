use Rattle.std.proofs.Common.{◌≡◌, ◌≤◌, ◌++◌, length}
use Rattle.lnfs_traffic.specs.Parts.{parts_of}
use Rattle.lnfs_traffic.proofs.reading.read_traffic.Given as goal

-- what is read of the body is what was read so far, and what is read of the rest
abbrev pub invariant-loop-events : goal.invariant-loop-events
invariant-loop-events l =
    ((parts_of l.initial.rest).events ≡ l.events.items ++ (parts_of l.rest).events)
    × ((parts_of l.initial.rest).rest ≡ (parts_of l.rest).rest)
    × (length l.rest ≤ length l.initial.rest)

abbrev pub decreases-loop-events : goal.decreases-loop-events
decreases-loop-events l = length l.rest
