use Rattle.lnfs_nodes.proofs.Entering.{fewer_in}
use Rattle.lnfs_nodes.proofs.entries.entry_above.Goals as goal

pub returns-in-Ok-clause-fewer : goal.returns-in-Ok-clause-fewer
returns-in-Ok-clause-fewer c = fewer_in c.args.tree.now c.args.dir c.args.cookie c.in-Ok.entry c.in-Ok.ensures
