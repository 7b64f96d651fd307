use Rattle.std.proofs.lemmas.Result.{IfOk-weaker}
use Rattle.lnfs_calipso.specs.Label.{dom_of}
use Rattle.lnfs_tree.specs.Changed.{HasFacts}
use Rattle.lnfs_test_state.proofs.many.root_alone.Goals as goal

pub returns : goal.returns
returns c = IfOk-weaker c.root_of.result _ HasFacts (λ tree facts. (dom_of c.in_ok-lattice.lattice, facts)) c.root_of.ensures
