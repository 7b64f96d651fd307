use Rattle.lnfs_calipso.proofs.Orders.{dominates-reflexive, dominates-transitive, dominates-antisymmetric}
use Rattle.lnfs_calipso.proofs.laws.dominance.Goals as goal

pub returns-clause-reflexive : goal.returns-clause-reflexive
returns-clause-reflexive c = dominates-reflexive

pub returns-clause-transitive : goal.returns-clause-transitive
returns-clause-transitive c = dominates-transitive

pub returns-clause-antisymmetric : goal.returns-clause-antisymmetric
returns-clause-antisymmetric c = dominates-antisymmetric
