use Rattle.std.proofs.Common.{◌≡◌, take, map}
use Rattle.lnfs_fit.specs.RowsOf.{ids_of}
use Rattle.lnfs_sound.specs.RowsOf.{clients_of}
use Rattle.lnfs_sound.proofs.clients.ids_of_clients.Given as goal

abbrev pub invariant-loop-place : goal.invariant-loop-place
invariant-loop-place l = ids_of l.ids.items ≡ take l.place (map (λ x. x.id) (clients_of l.rows))
