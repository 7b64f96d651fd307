use Rattle.std.proofs.Common.{List, ℕ, ◌++◌, ◌∙◌, ap, refl}
use Rattle.std.proofs.lemmas.Result.{on_ok_weaker}
use Rattle.lnfs_xdr.specs.Canon.{opaque}
use Rattle.lnfs_attrs.specs.declared.raw.RawAttrs.{RawAttrs}
use Rattle.lnfs_arguments.specs.SharedTexts.{attrs_text}
use Rattle.lnfs_nodes.specs.Shows.{view_of}
use Rattle.lnfs_nodes.specs.Walks.{entry_as}
use Rattle.lnfs_nodes.proofs.AnsweredLists.{answer_is}
use Rattle.lnfs_nodes.proofs.Entering.{entry_put}
use Rattle.lnfs_nodes.proofs.entries.put_seen.Goals as goal

pub returns : goal.returns
returns c =
    let asked = c.args.lister.now.asking.asked.now in
    let entry = entry_as asked c.args.entry.now.cookie c.args.entry.now.name c.args.seen.now.inner (view_of c.args.seen.now.view) in
    on_ok_weaker c.put_answer.result
    (λ wrote. entry_put c.args.out.now c.boolean.new.self c.u64.new.self c.opaque.new.self c.put_answer.new.out entry
    c.in_ok-boolean.ensures.ok c.in_ok-u64.ensures.ok (c.in_ok-opaque.ensures.ok ∙ ap (λ (name : List ℕ). c.u64.new.self ++ opaque name) c.as_slice.ensures)
    (wrote ∙ ap (λ (answer : RawAttrs). c.opaque.new.self ++ attrs_text answer)
    (answer_is asked c.answered.result.now.mask c.args.seen.now.inner (view_of c.args.seen.now.view) _ c.answered.ensures refl)))
    c.put_answer.ensures.ok
