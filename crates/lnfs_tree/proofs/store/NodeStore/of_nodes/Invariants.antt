use Rattle.std.proofs.Common.{◌≡◌, map, take}
use Rattle.std.specs.List.{AllByRecursion}
use Rattle.lnfs_rows.specs.Told.{node_of}
use Rattle.lnfs_tree.specs.Flat.{row_of}
use Rattle.lnfs_tree.specs.Makes.{IsBare}
use Rattle.lnfs_tree.proofs.store.NodeStore.of_nodes.Given as goal

-- the nodes of the rows so far, none of them with a name
abbrev pub invariant-loop-row : goal.invariant-loop-row
invariant-loop-row l = (map row_of l.store ≡ map node_of (take l.row-index l.nodes)) × AllByRecursion IsBare l.store
