use Rattle.lnfs_calipso.specs.Levels.{AllAbove}
use Rattle.lnfs_calipso.proofs.lattice.first_not_above.Given as goal

abbrev pub invariant-loop-index : goal.invariant-loop-index
invariant-loop-index l = AllAbove l.labels l.index
