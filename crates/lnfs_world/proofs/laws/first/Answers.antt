use Rattle.lnfs_world.proofs.FirstTrees.{first_facts, first_empty}
use Rattle.lnfs_world.proofs.laws.first.Goals as goal

pub returns : goal.returns
returns c = record { facts = λ dom lattice stored dirs. first_facts dom lattice stored dirs; empty = λ dom stored dirs. first_empty dom stored dirs }
