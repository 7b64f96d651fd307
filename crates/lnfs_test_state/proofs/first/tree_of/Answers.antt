use Rattle.std.proofs.lemmas.Result.{IfOk-weaker}
use Rattle.lnfs_calipso.specs.Label.{dom_of}
use Rattle.lnfs_tree.specs.Changed.{HasFacts}
use Rattle.lnfs_test_state.proofs.first.tree_of.Goals as goal

pub returns : goal.returns
returns c = IfOk-weaker c.new.result _ HasFacts (λ tree facts. (dom_of c.args.lattice.now, facts)) c.new.ensures.facts
