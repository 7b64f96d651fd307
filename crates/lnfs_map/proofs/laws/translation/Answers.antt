use Rattle.lnfs_map.proofs.Keeping.{keeps_level, keeps_dominance}
use Rattle.lnfs_map.proofs.laws.translation.Goals as goal

pub returns-clause-level : goal.returns-clause-level
returns-clause-level c = keeps_level c.formats.ensures.read_back

pub returns-clause-dominance : goal.returns-clause-dominance
returns-clause-dominance c = keeps_dominance c.formats.ensures.read_back
