-- The locks that rows stand for, and one of them by its place.
use Rattle.std.specs.Prelude.{ℕ, List, [], map}
use Rattle.std.specs.List.{slice_index_or}
use Rattle.lnfs_world.specs.Tree.{root}
use Rattle.lnfs_locks.specs.Locks.{Lock}
use Rattle.lnfs_lock_rows.specs.declared.LockRow.{LockRow}
use Rattle.lnfs_lock_rows.specs.Told.{lock_of}

abbrev pub locks_of : List LockRow → List Lock
locks_of rows = map lock_of rows

-- what stands behind the last row
abbrev pub no_lock : Lock
no_lock = record { id = root; client = 0; opening = 0; owner = []; node = root; sequence = 0; ranges = [] }

abbrev pub nth_lock : List Lock → ℕ → Lock
nth_lock xs k = slice_index_or xs k no_lock
