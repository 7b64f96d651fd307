use Rattle.lnfs_counts.proofs.Named.{name_updated}
use Rattle.lnfs_session.proofs.levels.LevelRecords.put.Goals as goal

pub returns-clause-places : goal.returns-clause-places
returns-clause-places c = λ o. name_updated c.args.self.now.owners (c.get_mut.follows.lender c.args.numbers) c.args.owner.now _ ((c.get_mut.follows.holds c.args.numbers).3 c.requires) o
