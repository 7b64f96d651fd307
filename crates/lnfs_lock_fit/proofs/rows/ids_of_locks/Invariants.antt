use Rattle.std.proofs.Common.{◌≡◌, take, map}
use Rattle.lnfs_fit.specs.RowsOf.{ids_of}
use Rattle.lnfs_lock_fit.specs.RowsOf.{locks_of}
use Rattle.lnfs_lock_fit.proofs.rows.ids_of_locks.Given as goal

abbrev pub invariant-loop-place : goal.invariant-loop-place
invariant-loop-place l = ids_of l.ids.items ≡ take l.place (map (λ x. x.id) (locks_of l.rows))
