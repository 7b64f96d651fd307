use Rattle.std.proofs.Common.{List, subst}
use Rattle.lnfs_world.specs.Rows.{Rising}
use Rattle.lnfs_tree.specs.declared.store.Node.{Node}
use Rattle.lnfs_tree.specs.Held.{node_order}
use Rattle.lnfs_tree.proofs.Slots.{held_rise}
use Rattle.lnfs_tree.proofs.store.NodeStore.law_order.Goals as goal

pub returns : goal.returns
returns c = subst (λ (n : List Node). Rising node_order n) c.self.view_is (held_rise c.self.inside.slots _ c.self.invariant c.len-count.ensures.ordered)
