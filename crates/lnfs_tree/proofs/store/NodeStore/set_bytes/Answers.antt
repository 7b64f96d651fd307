use Rattle.std.proofs.Common.{◌∙◌, ap, refl}
use Rattle.lnfs_world.specs.Rows.{updated}
use Rattle.lnfs_tree.specs.Rows.{id_of}
use Rattle.lnfs_tree.specs.Held.{with_bytes, is_node}
use Rattle.lnfs_tree.proofs.Slots.{left}
use Rattle.lnfs_tree.proofs.store.NodeStore.set_bytes.Goals as goal

pub returns-in_default : goal.returns-in_default
returns-in_default c = left (with_bytes c.args.bytes) c.args.id c.self.inside.slots c.node_mut.follows.lender-at-none c.self.inside.by_id.entries _ c.self.view_is c.node_mut.follows.holds-at-none c.in_default.ensures.value

pub invariant_of-self-2 : goal.invariant_of-self-2
invariant_of-self-2 c = ((rw c.in-Some.is at c.node_mut.follows.holds _) (with_bytes c.args.bytes) refl refl).1

pub returns : goal.returns
returns c = ((rw c.in-Some.is at c.node_mut.follows.holds _) (with_bytes c.args.bytes) refl refl).0 ∙ ap (updated (is_node (id_of c.args.id)) (with_bytes c.args.bytes)) c.self.view_is
