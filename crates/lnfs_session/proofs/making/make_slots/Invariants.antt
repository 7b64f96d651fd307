use Rattle.std.proofs.Common.{◌≡◌, map, take}
use Rattle.lnfs_rows.specs.Told as told
use Rattle.lnfs_session.specs.Listed.{slot_of}
use Rattle.lnfs_session.proofs.making.make_slots.Given as goal

-- the rows so far
abbrev pub invariant-loop-row : goal.invariant-loop-row
invariant-loop-row l = map slot_of l.slots.items ≡ map told.slot_of (take l.row-index l.rows)
