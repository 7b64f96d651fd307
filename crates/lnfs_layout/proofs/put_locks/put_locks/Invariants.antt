use Rattle.std.proofs.Common.{◌≡◌, ◌++◌, length, map, take}
use Rattle.std.specs.List.{flat_map, AllByRecursion}
use Rattle.lnfs_xdr.specs.Canon.{long}
use Rattle.lnfs_lock_rows.specs.Told.{lock_of}
use Rattle.lnfs_layout.specs.Texts.{lock_text}
use Rattle.lnfs_layout.specs.Fits.{LockFits}
use Rattle.lnfs_layout.proofs.put_locks.put_locks.Given as goal

abbrev pub invariant-loop-row : goal.invariant-loop-row
invariant-loop-row l = record {
  text : l.out ≡ l.fn.out ++ (long (length l.rows) ++ flat_map lock_text (map lock_of (take l.row-index l.rows)));
  fit : AllByRecursion LockFits (map lock_of (take l.row-index l.rows));
}
