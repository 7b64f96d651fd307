use Rattle.std.proofs.Common.{◌∙◌, sym}
use Rattle.lnfs_nodes.proofs.AttributeSizes.{attr_sized}
use Rattle.lnfs_nodes.proofs.units.attr_units.Goals as goal

pub returns-clause-units : goal.returns-clause-units
returns-clause-units c = λ v fits. attr_sized c.args.sized.now v c.args.number c.value_units.result c.requires (sym c.has.ensures ∙ c.if-not-has.false) fits c.value_units.ensures.units
