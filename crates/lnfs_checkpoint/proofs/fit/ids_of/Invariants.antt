use Rattle.std.proofs.Common.{◌≡◌, take, map}
use Rattle.lnfs_fit.specs.RowsOf.{ids_of}
use Rattle.lnfs_sound.specs.RowsOf.{contexts_of}
use Rattle.lnfs_checkpoint.proofs.fit.ids_of.Given as goal

abbrev pub invariant-loop-place : goal.invariant-loop-place
invariant-loop-place l = ids_of l.ids.items ≡ take l.place (map (λ x. x.id) (contexts_of l.rows))
