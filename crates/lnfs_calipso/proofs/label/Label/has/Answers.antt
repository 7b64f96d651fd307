use Rattle.std.proofs.Common.{List, ℕ, sym, ap, ◌∙◌}
use Rattle.lnfs_calipso.specs.Label.{Label, has_comp}
use Rattle.lnfs_calipso.specs.Bitmap.{is_marked}
use Rattle.lnfs_calipso.proofs.Among.{has_comp-members}
use Rattle.lnfs_calipso.proofs.label.Label.has.Goals as goal

pub returns : goal.returns
returns c =
    c.has.ensures ∙ ap (λ (words : List ℕ). is_marked words c.args.comp) c.deref.ensures.value
    ∙ sym (has_comp-members c.self.inside.words.items c.self.invariant.few c.args.comp)
    ∙ ap (λ (l : Label). has_comp l.comps c.args.comp) c.self.view_is
