use Rattle.std.proofs.Common.{arith}
use Rattle.lnfs_format.proofs.RangeLemmas.{some_comp, no_comp}
use Rattle.lnfs_format.proofs.runs.has_comps.Goals as goal

pub returns-in-Some : goal.returns-in-Some
returns-in-Some c = some_comp c.args.label.now.comps c.in-Some._comp c.in-Some.ensures.member

pub returns-in-None : goal.returns-in-None
returns-in-None c = no_comp c.args.label.now.comps c.law_label.ensures.comps (λ k l. c.in-None.ensures k (omega arith) l)
