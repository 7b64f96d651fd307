use Rattle.lnfs_calipso.proofs.Lattices.{of_labels}
use Rattle.lnfs_policy.proofs.FirstVersion.{of_first}
use Rattle.lnfs_policy.proofs.Site.{bounded, site, apart_in}
use Rattle.lnfs_policy.proofs.laws.first_version.Goals as goal

pub returns-clause-above : goal.returns-clause-above
returns-clause-above c = λ text p e v. (of_first text p e v).above

pub returns-clause-compartments : goal.returns-clause-compartments
returns-clause-compartments c = λ text p e v. (of_first text p e v).narrow

pub returns-clause-dominance : goal.returns-clause-dominance
returns-clause-dominance c = λ text p e v.
    of_labels p.labels (apart_in text p e) (site c.compartments.ensures.written_back bounded text p e).0 (of_first text p e v).above
