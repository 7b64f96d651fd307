use Rattle.std.proofs.Common.{true, arith}
use Rattle.lnfs_attrs.proofs.Sizes.{values_short}
use Rattle.lnfs_operations.specs.Shown.{label_value}
use Rattle.lnfs_world.specs.Given.{stored_of}
use Rattle.lnfs_nodes.proofs.AnsweredLists.{list_long}
use Rattle.lnfs_nodes.proofs.answers.list_length.Goals as goal

pub overflow_add-result : goal.overflow_add-result
overflow_add-result c =
    omega (arith, c.args.answered.now.units_is c.args.node.now.view c.requires.0, values_short c.args.answered.now.sized c.args.node.now.view true c.requires.0, c.label_units_asked.ensures.most)

pub overflow_mul-result : goal.overflow_mul-result
overflow_mul-result c =
    omega (arith, c.args.answered.now.units_is c.args.node.now.view c.requires.0, values_short c.args.answered.now.sized c.args.node.now.view true c.requires.0, c.label_units_asked.ensures.most)

pub returns-clause-bytes : goal.returns-clause-bytes
returns-clause-bytes c =
    list_long c.args.answered.now.mask c.args.answered.now.sized c.args.node.now.view (label_value (stored_of c.args.node.now.label.now)) c.args.answered.now.sized_is
    c.args.answered.now.units c.label_units_asked.result
    (c.args.answered.now.units_is c.args.node.now.view c.requires.0) c.label_units_asked.ensures.units
