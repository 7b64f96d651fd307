use Rattle.std.proofs.Common.{◌≡◌, map, take}
use Rattle.lnfs_rows.specs.Told as told
use Rattle.lnfs_session.specs.Listed.{slot_of}
use Rattle.lnfs_session.proofs.telling.slot_rows.Given as goal

-- the rows so far
abbrev pub invariant-loop-slot : goal.invariant-loop-slot
invariant-loop-slot l = map told.slot_of l.rows.items ≡ map slot_of (take l.slot-index l.slots)
