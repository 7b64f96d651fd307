use Rattle.std.proofs.Common.{◌≡◌, ◌++◌, length, map, take}
use Rattle.std.specs.List.{flat_map, AllByRecursion}
use Rattle.lnfs_xdr.specs.Canon.{long}
use Rattle.lnfs_rows.specs.Told.{client_of}
use Rattle.lnfs_layout.specs.Texts.{client_text}
use Rattle.lnfs_layout.specs.Fits.{ClientFits}
use Rattle.lnfs_layout.proofs.put_lists.put_clients.Given as goal

abbrev pub invariant-loop-row : goal.invariant-loop-row
invariant-loop-row l = record {
  text : l.out ≡ l.fn.out ++ (long (length l.rows) ++ flat_map client_text (map client_of (take l.row-index l.rows)));
  fit : AllByRecursion ClientFits (map client_of (take l.row-index l.rows));
}
