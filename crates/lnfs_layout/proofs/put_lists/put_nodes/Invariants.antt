use Rattle.std.proofs.Common.{◌≡◌, ◌++◌, length, map, take}
use Rattle.std.specs.List.{flat_map, AllByRecursion}
use Rattle.lnfs_xdr.specs.Canon.{long}
use Rattle.lnfs_rows.specs.Told.{node_of}
use Rattle.lnfs_layout.specs.Texts.{node_text}
use Rattle.lnfs_layout.specs.Fits.{NodeFits}
use Rattle.lnfs_layout.proofs.put_lists.put_nodes.Given as goal

abbrev pub invariant-loop-row : goal.invariant-loop-row
invariant-loop-row l = record {
  text : l.out ≡ l.fn.out ++ (long (length l.rows) ++ flat_map node_text (map node_of (take l.row-index l.rows)));
  fit : AllByRecursion NodeFits (map node_of (take l.row-index l.rows));
}
