use Rattle.std.proofs.Common.{◌≡◌, map, take}
use Rattle.lnfs_rows.specs.Told.{node_of}
use Rattle.lnfs_tree.specs.Flat.{row_of}
use Rattle.lnfs_tree.proofs.tree.Tree.node_rows.Given as goal

-- those of the nodes so far
abbrev pub invariant-loop-node : goal.invariant-loop-node
invariant-loop-node l = map node_of l.rows.items ≡ map (λ n. row_of n.now) (take l.node-index l.node-items)
