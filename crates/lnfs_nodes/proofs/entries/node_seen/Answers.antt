use Rattle.std.proofs.Common.{◌≡◌, ◌∙◌, ap, ℕ, Bool, false, not, Option, Some}
use Rattle.std.specs.Prelude.{◌&&◌}
use Rattle.lnfs_attrs.specs.declared.numbers.TheConstants.{RDATTR_ERROR}
use Rattle.lnfs_attrs.specs.Bitmaps.{has_attr}
use Rattle.lnfs_monitor.specs.Rules.{Read, allows}
use Rattle.lnfs_site.specs.Site.{site_of}
use Rattle.lnfs_world.specs.World.{Node, World}
use Rattle.lnfs_world.specs.Outcome.{Site, Place}
use Rattle.lnfs_operations.specs.ReadDir.{shown_entry}
use Rattle.lnfs_nodes.specs.Trees.{with_tree}
use Rattle.lnfs_nodes.specs.Shows.{view_of}
use Rattle.lnfs_nodes.specs.Walks.{entry_as}
use Rattle.lnfs_nodes.proofs.Entering.{about_told, no_bar, seen_as}
use Rattle.lnfs_nodes.proofs.entries.node_seen.Goals.{else-hidden-via-then-hidden+else-not-has, else-hidden-via-else-hidden}
use Rattle.lnfs_nodes.proofs.entries.node_seen.Goals as goal

open_to : (c : goal.In_ok-view) → (c.is_hidden-hidden.result && not (has_attr c.args.lister.now.asking.asked.now RDATTR_ERROR)) ≡ false
open_to c =
    elim c.else-hidden.branch [
      | else-hidden-via-then-hidden+else-not-has w ↦ no_bar c.is_hidden-hidden.result (has_attr c.args.lister.now.asking.asked.now RDATTR_ERROR) cc
      | else-hidden-via-else-hidden w ↦ ap (λ (b : Bool). b && not (has_attr c.args.lister.now.asking.asked.now RDATTR_ERROR)) w.if-hidden.false
    ]

pub returns-clause-shown : goal.returns-clause-shown
returns-clause-shown c = λ p rest e.
    let site : Site = site_of c.args.lister.now.site.now in
    let at : Place = record p { subject = c.args.lister.now.viewer.subject.0 } in
    let w : World = with_tree rest c.args.tree.now in
    let asked = c.args.lister.now.asking.asked.now in
    about_told (λ (o : Option Node). shown_entry site at w asked e o ≡ Some (entry_as asked e.cookie e.name c.may_read-inner.result (view_of c.in_ok-view.view)))
    c.args.tree.now c.args.node c.in-Some.facts c.in-Some.ensures (λ n holds.
    seen_as site at w asked e n c.may_read-inner.result c.is_hidden-hidden.result
    (c.may_read-inner.ensures ∙ ap (λ (l : ℕ). allows site.dom c.args.lister.now.viewer.subject.0 (Read l)) holds.tells.label) c.is_hidden-hidden.ensures
    c.error_of-error.result (view_of c.in_ok-view.view) (open_to c) c.error_of-error.ensures (c.in_ok-view.ensures.view n at rest holds))
