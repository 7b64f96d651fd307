use Rattle.std.proofs.Common.{◌≡◌, ◌++◌, length, map, take}
use Rattle.std.specs.List.{flat_map, AllByRecursion}
use Rattle.lnfs_xdr.specs.Canon.{long}
use Rattle.lnfs_rows.specs.Told.{slot_of}
use Rattle.lnfs_layout.specs.Texts.{slot_text}
use Rattle.lnfs_layout.specs.Fits.{SlotFits}
use Rattle.lnfs_layout.proofs.put_people.put_slots.Given as goal

abbrev pub invariant-loop-row : goal.invariant-loop-row
invariant-loop-row l = record {
  text : l.out ≡ l.fn.out ++ (long (length l.rows) ++ flat_map slot_text (map slot_of (take l.row-index l.rows)));
  fit : AllByRecursion SlotFits (map slot_of (take l.row-index l.rows));
}
