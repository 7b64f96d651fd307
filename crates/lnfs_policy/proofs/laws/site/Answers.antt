use Rattle.lnfs_policy.proofs.Site.{bounded, site}
use Rattle.lnfs_policy.proofs.laws.site.Goals as goal

pub returns-clause-labels : goal.returns-clause-labels
returns-clause-labels c = λ text p e. (site c.compartments.ensures.written_back bounded text p e).0

pub returns-clause-formats : goal.returns-clause-formats
returns-clause-formats c = λ text p e. (site c.compartments.ensures.written_back bounded text p e).1
