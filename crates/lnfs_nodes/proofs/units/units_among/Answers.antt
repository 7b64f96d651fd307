use Rattle.std.proofs.Common.{true, arith}
use Rattle.lnfs_attrs.specs.Attributes.{attr_text}
use Rattle.lnfs_nodes.proofs.AttributeSizes.{units_more}
use Rattle.lnfs_nodes.proofs.units.units_among.Goals as goal

pub loop-number-preserved : goal.loop-number-preserved
loop-number-preserved c = (
  λ v fits. units_more (attr_text c.args.sized.now v true) c.args.numbers.now c.loop-number.number-index c.loop-number.units c.attr_units-units.result c.loop-number-test.true
      (c.loop-number.invariant.0 v fits) (c.attr_units-units.ensures.units v fits),
  omega (arith, c.loop-number.invariant.1, c.attr_units-units.ensures.most),
)
