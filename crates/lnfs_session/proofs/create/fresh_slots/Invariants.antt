use Rattle.std.proofs.Common.{◌≡◌, map, replicate}
use Rattle.lnfs_operations.specs.CreateSession.{fresh_slot}
use Rattle.lnfs_session.specs.Listed.{slot_of}
use Rattle.lnfs_session.proofs.create.fresh_slots.Given as goal

abbrev pub invariant-loop-slot : goal.invariant-loop-slot
invariant-loop-slot l = map slot_of l.slots.items ≡ replicate l._slot fresh_slot
