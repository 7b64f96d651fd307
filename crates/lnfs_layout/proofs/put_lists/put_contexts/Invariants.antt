use Rattle.std.proofs.Common.{◌≡◌, ◌++◌, length, map, take}
use Rattle.std.specs.List.{flat_map, AllByRecursion}
use Rattle.lnfs_xdr.specs.Canon.{long}
use Rattle.lnfs_rows.specs.Told.{context_of}
use Rattle.lnfs_layout.specs.Texts.{context_text}
use Rattle.lnfs_layout.specs.Fits.{ContextFits}
use Rattle.lnfs_layout.proofs.put_lists.put_contexts.Given as goal

abbrev pub invariant-loop-row : goal.invariant-loop-row
invariant-loop-row l = record {
  text : l.out ≡ l.fn.out ++ (long (length l.rows) ++ flat_map context_text (map context_of (take l.row-index l.rows)));
  fit : AllByRecursion ContextFits (map context_of (take l.row-index l.rows));
}
