use Rattle.std.proofs.Common.{◌≡◌, ◌∙◌, ◌++◌, List, ℕ, ap, sym, true}
use Rattle.std.specs.Option.{option_map}
use Rattle.std.specs.Str.{bytes_eq}
use Rattle.lnfs_attrs.specs.declared.bitmap.Bitmap.{Bitmap}
use Rattle.lnfs_attrs.specs.declared.view.View.{View}
use Rattle.lnfs_attrs.specs.Attributes.{list_text}
use Rattle.lnfs_site.specs.Site.{site_of}
use Rattle.lnfs_world.specs.Outcome.{Place}
use Rattle.lnfs_tree.specs.Rows.{id_of}
use Rattle.lnfs_nodes.specs.Shows.{view_of}
use Rattle.lnfs_nodes.specs.Trees.{with_tree}
use Rattle.lnfs_nodes.proofs.AnsweredLists.{list_of_mask}
use Rattle.lnfs_nodes.proofs.Refusing.{not_held}
use Rattle.lnfs_nodes.proofs.Asking.{inner_refused, inner_shown}
use Rattle.lnfs_nodes.proofs.Comparisons.{given_refused, given_taken}
use Rattle.lnfs_nodes.proofs.comparing.is_same.Goals as goal

pub returns-in-Some : goal.returns-in-Some
returns-in-Some c = λ p rest same.
    let at : Place = record p { subject = c.args.viewer.subject.0; current = option_map id_of c.args.current } in
    given_refused (site_of c.args.site.now) c.args.given.now at (with_tree rest c.args.tree.now) same c.in-Some.why c.in-Some.ensures

pub returns-in-Err : goal.returns-in-Err
returns-in-Err c = λ p rest same.
    let at : Place = record p { subject = c.args.viewer.subject.0; current = option_map id_of c.args.current } in
    given_taken (site_of c.args.site.now) c.args.given.now at (with_tree rest c.args.tree.now) same _ c.in_default.ensures
    (not_held at rest c.args.tree.now _ c.in-Err.why c.in-Err.ensures)

pub returns-in-Some-inner_denied : goal.returns-in-Some-inner_denied
returns-in-Some-inner_denied c = λ p rest same.
    let at : Place = record p { subject = c.args.viewer.subject.0; current = option_map id_of c.args.current } in
    given_taken (site_of c.args.site.now) c.args.given.now at (with_tree rest c.args.tree.now) same _ c.in_default.ensures
    (inner_refused (site_of c.args.site.now) at rest c.args.tree.now c.args.given.now.mask c.in-Ok.held c.in-Ok.ensures _ c.in-Some-inner_denied.why c.in-Some-inner_denied.ensures)

pub returns : goal.returns
returns c = λ p rest same.
    let at : Place = record p { subject = c.args.viewer.subject.0; current = option_map id_of c.args.current } in
    let mask = c.args.given.now.mask in
    let view : View = view_of c.in_ok-node.node in
    let list : c.as_slice-2.result.now ≡ list_text mask view true =
    c.as_slice-2.ensures.value ∙ c.into_bytes-list.ensures ∙ c.in_ok-put_list.ensures.ok ∙ ap (λ (b : List ℕ). b ++ list_text c.answered_to.result.mask view true) c.new-list.ensures
    ∙ ap (λ (m : Bitmap). list_text m view true) c.answered_to.ensures ∙ list_of_mask mask true view in
    given_taken (site_of c.args.site.now) c.args.given.now at (with_tree rest c.args.tree.now) same _ c.in_default.ensures
    (inner_shown (site_of c.args.site.now) at rest c.args.tree.now mask c.in-Ok.held c.in-Ok.ensures _ _ c.in_default-inner_denied.ensures
    (λ n holds. ap same (
    ap (λ (v : View). bytes_eq c.args.given.now.list (list_text mask v true)) (sym (c.in_ok-node.ensures.view n at rest holds))
    ∙ ap (λ (l : List ℕ). bytes_eq c.args.given.now.list l) (sym list)
    ∙ ap (λ (l : List ℕ). bytes_eq l c.as_slice-2.result.now) (sym c.as_slice.ensures) ∙ sym c.eq.ensures)))
