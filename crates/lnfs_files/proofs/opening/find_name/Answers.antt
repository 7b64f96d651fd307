use Rattle.lnfs_files.proofs.Leads.{named}
use Rattle.lnfs_files.proofs.opening.find_name.Goals as goal

pub returns-in-Some : goal.returns-in-Some
returns-in-Some c = λ p d holds dir. named p c.args.tree.now d c.args.dir.now holds dir c.args.name.now c.in-Ok.id c.in-Some.facts c.in-Ok.ensures c.in-Some.ensures
