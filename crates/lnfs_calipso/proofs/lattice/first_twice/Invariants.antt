use Rattle.lnfs_calipso.specs.Levels.{Apart}
use Rattle.lnfs_calipso.proofs.lattice.first_twice.Given as goal

abbrev pub invariant-loop-index : goal.invariant-loop-index
invariant-loop-index l = Apart l.labels l.index
