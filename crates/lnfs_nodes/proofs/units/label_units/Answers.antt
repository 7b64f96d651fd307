use Rattle.lnfs_world.specs.Given.{stored_of}
use Rattle.lnfs_operations.specs.Shown.{label_value}
use Rattle.lnfs_nodes.proofs.AttributeSizes.{label_long}
use Rattle.lnfs_nodes.proofs.units.label_units.Goals as goal

pub returns-clause-units : goal.returns-clause-units
returns-clause-units c = label_long (label_value (stored_of c.args.label.now)) c.len.result c.div_ceil.result c.len.ensures c.div_ceil.ensures
