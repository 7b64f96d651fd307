use Rattle.std.proofs.Common.{map, take}
use Rattle.lnfs_rows.specs.Told.{node_of, entry_of}
use Rattle.lnfs_tree.proofs.Restored.{Named}
use Rattle.lnfs_tree.proofs.store.NodeStore.of_rows.Given as goal

-- the nodes, with the names so far
abbrev pub invariant-loop-entry : goal.invariant-loop-entry
invariant-loop-entry l = Named (map node_of l.nodes) (map entry_of (take l.entry-index l.entries)) l.store
