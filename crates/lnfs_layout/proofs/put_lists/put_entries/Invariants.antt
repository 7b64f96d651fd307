use Rattle.std.proofs.Common.{◌≡◌, ◌++◌, length, map, take}
use Rattle.std.specs.List.{flat_map, AllByRecursion}
use Rattle.lnfs_xdr.specs.Canon.{long}
use Rattle.lnfs_rows.specs.Told.{entry_of}
use Rattle.lnfs_layout.specs.Texts.{entry_text}
use Rattle.lnfs_layout.specs.Fits.{EntryFits}
use Rattle.lnfs_layout.proofs.put_lists.put_entries.Given as goal

abbrev pub invariant-loop-row : goal.invariant-loop-row
invariant-loop-row l = record {
  text : l.out ≡ l.fn.out ++ (long (length l.rows) ++ flat_map entry_text (map entry_of (take l.row-index l.rows)));
  fit : AllByRecursion EntryFits (map entry_of (take l.row-index l.rows));
}
