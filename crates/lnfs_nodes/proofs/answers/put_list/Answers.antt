use Rattle.std.proofs.lemmas.Result.{on_ok_weaker}
use Rattle.lnfs_operations.specs.Shown.{label_value}
use Rattle.lnfs_world.specs.Given.{stored_of}
use Rattle.lnfs_nodes.proofs.AnsweredLists.{list_put}
use Rattle.lnfs_nodes.proofs.answers.put_list.Goals as goal

pub returns-clause-ok : goal.returns-clause-ok
returns-clause-ok c =
    on_ok_weaker c.put_label_asked.result
    (list_put c.args.answered.now.mask c.args.answered.now.sized c.args.node.now.view (label_value (stored_of c.args.node.now.label.now)) c.args.answered.now.sized_is
    c.args.out.now c.write_attrs.new.out c.put_label_asked.new.out c.in_ok-write_attrs.ensures.ok)
    c.put_label_asked.ensures.ok
