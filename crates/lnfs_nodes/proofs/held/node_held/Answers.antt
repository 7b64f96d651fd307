use Rattle.lnfs_nodes.proofs.Found.{told_held}
use Rattle.lnfs_nodes.proofs.held.node_held.Goals as goal

pub returns-in-Some-node : goal.returns-in-Some-node
returns-in-Some-node c = rw c.in-Some.is (told_held c.args.tree.now c.in-Some.id c.in-Some-node.facts c.in-Some-node.ensures)
