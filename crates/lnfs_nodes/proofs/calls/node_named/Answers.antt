use Rattle.lnfs_nodes.proofs.NamedHeld.{named_held}
use Rattle.lnfs_nodes.proofs.calls.node_named.Goals as goal

pub returns-in-Some : goal.returns-in-Some
returns-in-Some c = λ d holds dir. named_held c.args.tree.now d c.args.dir.now holds dir c.args.name.now c.in-Ok.id c.in-Some.facts c.in-Ok.ensures c.in-Some.ensures
