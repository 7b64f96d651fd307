use Rattle.std.proofs.Common.{subst}
use Rattle.lnfs_world.specs.Rows.{Rising}
use Rattle.lnfs_world.specs.World.{node_order}
use Rattle.lnfs_tree.specs.Rows.{Rows}
use Rattle.lnfs_tree.proofs.Restored.{rising_rows}
use Rattle.lnfs_tree.proofs.tree.Tree.law_order.Goals as goal

pub returns : goal.returns
returns c = subst (λ (t : Rows). Rising node_order t.nodes) c.self.view_is (rising_rows c.self.inside.store c.law_order.ensures)
