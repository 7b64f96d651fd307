use Rattle.std.proofs.Common.{◌≡◌, take, map}
use Rattle.lnfs_fit.specs.RowsOf.{ids_of}
use Rattle.lnfs_sound.specs.RowsOf.{opens_of}
use Rattle.lnfs_lock_fit.proofs.openings.ids_of_opens.Given as goal

abbrev pub invariant-loop-place : goal.invariant-loop-place
invariant-loop-place l = ids_of l.ids.items ≡ take l.place (map (λ x. x.id) (opens_of l.rows))
