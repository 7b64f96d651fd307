use Rattle.std.proofs.Common.{◌≡◌, map, take}
use Rattle.lnfs_rows.specs.Told.{entry_of}
use Rattle.lnfs_tree.specs.Flat.{entries_in}
use Rattle.lnfs_tree.proofs.tree.Tree.entry_rows.Given as goal

-- those of the nodes so far
abbrev pub invariant-loop-node : goal.invariant-loop-node
invariant-loop-node l = map entry_of l.rows.items ≡ entries_in (map (λ n. n.now) (take l.node-index l.node-items))
