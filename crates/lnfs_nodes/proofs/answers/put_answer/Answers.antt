use Rattle.std.proofs.Common.{true}
use Rattle.std.proofs.lemmas.Result.{on_ok_weaker}
use Rattle.lnfs_attrs.specs.declared.raw.RawAttrs.{RawAttrs}
use Rattle.lnfs_attrs.specs.Attributes.{list_text}
use Rattle.lnfs_nodes.specs.Shows.{view_of}
use Rattle.lnfs_nodes.proofs.AnsweredLists.{answer_put}
use Rattle.lnfs_nodes.proofs.answers.put_answer.Goals as goal

pub returns-clause-ok : goal.returns-clause-ok
returns-clause-ok c =
    let answer : RawAttrs = record { mask = c.args.answered.now.mask; list = list_text c.args.answered.now.mask (view_of c.args.node.now) true } in
    on_ok_weaker c.put_list.result
    (answer_put answer c.list_length.result c.args.out.now c.write_bitmap.new.out c.u32.new.self c.put_list.new.out
    c.list_length.ensures.bytes c.list_length.ensures.whole c.in_ok-write_bitmap.ensures.ok c.in_ok-u32.ensures.ok)
    c.put_list.ensures.ok
