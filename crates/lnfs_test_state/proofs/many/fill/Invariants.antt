use Rattle.lnfs_calipso.specs.Label.{dom_of}
use Rattle.lnfs_tree.specs.Changed.{FactsFor}
use Rattle.lnfs_test_state.proofs.many.fill.Given as goal

abbrev pub invariant-loop-number : goal.invariant-loop-number
invariant-loop-number l = FactsFor (dom_of l.lattice) l.tree
