use Rattle.std.proofs.Common.{◌++◌, ◌∙◌, ap, refl, sym, true, []}
use Rattle.lnfs_attrs.specs.declared.view.View.{View}
use Rattle.lnfs_attrs.specs.declared.raw.RawAttrs.{RawAttrs}
use Rattle.lnfs_arguments.specs.SharedTexts.{attrs_text}
use Rattle.lnfs_results.specs.declared.types.OpResult.TheVariants as results
use Rattle.lnfs_site.specs.Site.{site_of}
use Rattle.lnfs_world.specs.Outcome.{Place}
use Rattle.lnfs_operations.specs.Chain.{done}
use Rattle.lnfs_operations.specs.Shown.{answer_to}
use Rattle.lnfs_tree.specs.Rows.{id_of}
use Rattle.std.specs.Option.{option_map}
use Rattle.lnfs_nodes.specs.Shows.{view_of}
use Rattle.lnfs_nodes.specs.Trees.{with_tree}
use Rattle.lnfs_nodes.proofs.AnsweredLists.{answer_is}
use Rattle.lnfs_nodes.proofs.Asking.{inner_refused, inner_shown, attrs_fields}
use Rattle.lnfs_nodes.proofs.Written.{refused_writes, done_writes, result_written}
use Rattle.lnfs_nodes.proofs.attributes.get_attr.Goals as goal

pub returns-in-Some : goal.returns-in-Some
returns-in-Some c = λ p rest.
    let at : Place = record p { subject = c.args.viewer.subject.0; current = option_map id_of c.args.current } in
    refused_writes _ _ _ at (with_tree rest c.args.tree.now) _ c.in-Some.why
    (inner_refused (site_of c.args.site.now) at rest c.args.tree.now c.args.asked.now c.in-Ok.held c.in-Ok.ensures _ c.in-Some.why c.in-Some.ensures) refl

pub returns : goal.returns
returns c = λ p rest.
    let at : Place = record p { subject = c.args.viewer.subject.0; current = option_map id_of c.args.current } in
    done_writes _ _ _ at (with_tree rest c.args.tree.now) (with_tree rest c.args.tree.now) _ (answer_to c.args.asked.now true (view_of c.in_ok-node.node)) []
    (inner_shown (site_of c.args.site.now) at rest c.args.tree.now c.args.asked.now c.in-Ok.held c.in-Ok.ensures _ _ c.in_default.ensures
    (λ n holds. ap (λ (v : View). done at (answer_to c.args.asked.now true v) []) (sym (c.in_ok-node.ensures.view n at rest holds))))
    refl
    (result_written (results.GetAttr (answer_to c.args.asked.now true (view_of c.in_ok-node.node))) c.args.out.now c.u32.new.self c.u32-2.new.self c.put_answer.new.out
    c.in_ok-u32.ensures.ok c.in_ok-u32-2.ensures.ok (attrs_fields _ _ _ (c.in_ok-put_answer.ensures.ok
    ∙ ap (λ (answer : RawAttrs). c.u32-2.new.self ++ attrs_text answer) (answer_is c.args.asked.now c.answered_to.result.mask true (view_of c.in_ok-node.node) _ c.answered_to.ensures refl))) refl)
