use Rattle.std.proofs.Common.{◌≡◌, ◌++◌, map}
use Rattle.lnfs_lock_rows.specs.Told as told
use Rattle.lnfs_locking.specs.Rows.{entry_of}
use Rattle.lnfs_locking.proofs.told.rows_of.Given as goal

-- the rows so far, and the locks that are left
abbrev pub invariant-loop-id : goal.invariant-loop-id
invariant-loop-id l = map told.lock_of l.rows.items ++ map entry_of l.id-iterator ≡ map entry_of l.locks.entries
