use Rattle.std.proofs.Common.{ℕ, ◌-◌, refl, ap, ◌∙◌}
use Rattle.lnfs_world.specs.declared.stored.Stored.{Stored}
use Rattle.lnfs_world.specs.Given.{stored_of}
use Rattle.lnfs_site.specs.Site.{site_of}
use Rattle.lnfs_operations.specs.Handles.{handle_of, file_id}
use Rattle.lnfs_operations.specs.Shown.{time_of, type_of, label_value}
use Rattle.lnfs_nodes.proofs.Views.{same_view}
use Rattle.lnfs_nodes.proofs.showing.shown.Goals as goal

pub returns-clause-view : goal.returns-clause-view
returns-clause-view c n p rest h =
    same_view _ _
    (c.type_of.ensures ∙ ap type_of h.tells.kind) h.tells.change h.tells.size
    (c.handle_of.ensures ∙ ap handle_of h.id) (c.file_id.ensures ∙ ap file_id h.id)
    h.tells.mode h.tells.links
    (c.saturating_sub.ensures ∙ ap (λ (limit : ℕ). limit - c.args.viewer.used) c.bytes_limit.ensures ∙ ap (λ (used : ℕ). (site_of c.args.site.now).bytes c.args.viewer.subject.0 - used) c.requires.used)
    c.requires.used
    (c.time_of.ensures ∙ ap time_of h.tells.accessed) (c.time_of-2.ensures ∙ ap time_of h.tells.metadata) (c.time_of-3.ensures ∙ ap time_of h.tells.modified)
    (ap (λ (s : Stored). label_value (stored_of s)) c.in_ok-label.ensures.same ∙ ap label_value (c.label_shown.ensures n p h)) refl
