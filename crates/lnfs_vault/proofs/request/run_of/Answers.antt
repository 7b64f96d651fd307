use Rattle.lnfs_step.proofs.Compounds.{compound_few}
use Rattle.lnfs_vault.proofs.request.run_of.Goals as goal

pub returns-in-Ok-clause-few : goal.returns-in-Ok-clause-few
returns-in-Ok-clause-few g c = compound_few g.E.ExtraGrammar.grammar c.args.arguments.now c.in-Ok.compound c.in-Ok.ensures.reads
