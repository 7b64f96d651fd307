use Rattle.std.proofs.Common.{◌+◌, ◌≤◌, length}
use Rattle.lnfs_xdr.specs.Written.{Extends}
use Rattle.lnfs_site.specs.Site.{site_of}
use Rattle.lnfs_world.specs.World.{World, node_at}
use Rattle.lnfs_world.specs.Names.{entries_above}
use Rattle.lnfs_world.specs.Outcome.{Place}
use Rattle.lnfs_operations.specs.ReadDir.{shown_entry}
use Rattle.lnfs_tree.specs.Rows.{id_of}
use Rattle.lnfs_nodes.specs.Trees.{with_tree}
use Rattle.lnfs_nodes.specs.Walks.{IsListable}
use Rattle.lnfs_nodes.proofs.Walking.{SoFar}
use Rattle.lnfs_nodes.proofs.entries.put_entries.Given as goal

abbrev pub invariant-loop-entry : goal.invariant-loop-entry
invariant-loop-entry l = record {
  begun : length l.fn.out ≤ length l.out;
  within : length l.out ≤ length l.fn.out + l.room;
  extends : Extends l.fn.out l.out;
  so_far : (p : Place) (rest : World) → IsListable l.tree (id_of l.dir) →
      SoFar (λ e. shown_entry (site_of l.lister.site.now) (record p { subject = l.lister.viewer.subject.0 }) (with_tree rest l.tree) l.lister.asking.asked.now e (node_at l.tree.nodes e.node))
      l.tree.entries (id_of l.dir) l.fn.cookie l.cookie l.room l.fn.out l.out;
}

abbrev pub decreases-loop-entry : goal.decreases-loop-entry
decreases-loop-entry l = length (entries_above l.tree.entries (id_of l.dir) l.cookie)
