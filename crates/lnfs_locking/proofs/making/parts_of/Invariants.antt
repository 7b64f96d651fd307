use Rattle.std.proofs.Common.{◌≡◌, ◌++◌, map, drop}
use Rattle.lnfs_lock_rows.specs.Told as told
use Rattle.lnfs_locking.specs.Rows.{entry_of}
use Rattle.lnfs_locking.specs.Indexed.{AreIndexed}
use Rattle.lnfs_locking.proofs.making.parts_of.Given as goal

-- the locks so far, and the rows that are left
abbrev pub invariant-loop-row : goal.invariant-loop-row
invariant-loop-row l = record {
  rest : map entry_of l.parts.rows.entries ++ map told.lock_of (drop l.row-index l.rows) ≡ map told.lock_of l.rows;
  indexed : AreIndexed l.parts.rows.entries l.parts.nodes;
}
