use Rattle.std.proofs.Common.{◌≡◌, ◌∙◌, ap, sym, cond, Bool, true, Option, Some, None}
use Rattle.std.specs.Option.{option_map}
use Rattle.lnfs_world.specs.World.{Stored, Node}
use Rattle.lnfs_world.specs.Outcome.{Site, Place}
use Rattle.lnfs_site.specs.Site.{site_of}
use Rattle.lnfs_operations.specs.Given.{kept_label}
use Rattle.lnfs_operations.specs.Shown.{label_shown}
use Rattle.lnfs_nodes.specs.GivenValues.{given_of}
use Rattle.lnfs_nodes.proofs.creating.kept_label.Goals as goal

-- where labels are carried alone, and none was given
ungiven : (site : Site) (p : Place) (d : Node) (s : Stored) → site.limited ≡ true → s ≡ label_shown site p d → Some s ≡ kept_label site p d None
ungiven site p d s limited e = ap (λ (s : Stored). let x : Option Stored = Some s in x) e ∙ sym (ap (λ (b : Bool). cond b (Some (label_shown site p d)) None) limited)

pub returns-in_ok-copied_of-in-None : goal.returns-in_ok-copied_of-in-None
returns-in_ok-copied_of-in-None c = λ d p holds.
    let site = site_of c.args.site.now in
    let at : Place = record p { subject = c.args.subject.0 } in
    ungiven site at d _ (sym c.is_limited.ensures ∙ c.if-not-is_limited.false) (c.in_ok-copied_of-in-None.ensures d p holds)
    ∙ ap (λ g. kept_label site at d (option_map given_of g)) (sym c.in-None.is)
