-- What the program's servers serve beside the table of operations.
use Rattle.std.specs.Prelude.{List, []}
use Rattle.lnfs_operations.specs.Extra.{Extra}
use Rattle.lnfs_beside.specs.Sides.{beside, both_rows, lefts}
use Rattle.lnfs_locks.specs.Locks.{Locks, rows_of, locks_of}
use Rattle.lnfs_locks.specs.Outcome.{locking}
use Rattle.lnfs_sparse_ops.specs.Outcome.{sparse}

-- Byte-range locks: LOCK, LOCKT and LOCKU (RFC 8881 sections 18.10 to 18.12). Beside them sparse files and clones: ALLOCATE,
-- DEALLOCATE, SEEK and CLONE (RFC 7862 sections 15.1, 15.4, 15.11 and 15.13).
abbrev pub further : Extra
further = beside locking sparse

-- ---- their rows: those of the locks, since sparse files have none of their own

abbrev pub further_rows : Locks → List (further).Row
further_rows own = both_rows (rows_of own) []

abbrev pub locks_in : List (further).Row → Locks
locks_in rows = locks_of (lefts rows)
