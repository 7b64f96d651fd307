use Rattle.std.proofs.Common.{◌≡◌, take, map}
use Rattle.lnfs_fit.specs.RowsOf.{ids_of, nodes_of}
use Rattle.lnfs_sound.proofs.nodes.ids_of_nodes.Given as goal

abbrev pub invariant-loop-place : goal.invariant-loop-place
invariant-loop-place l = ids_of l.ids.items ≡ take l.place (map (λ x. x.id) (nodes_of l.rows))
