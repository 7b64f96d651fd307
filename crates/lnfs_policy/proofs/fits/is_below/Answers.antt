use Rattle.std.proofs.Common.{ℕ, true, sym, ap, ◌∙◌, inl, inr, arith}
use Rattle.std.proofs.lemmas.Bool.{cases_lt, false≢true}
use Rattle.lnfs_calipso.specs.Label.{has_comp}
use Rattle.lnfs_calipso.proofs.Members.{has_comp-below}
use Rattle.lnfs_policy.proofs.Sound.{all_below, not_below}
use Rattle.lnfs_policy.proofs.fits.is_below.Goals as goal

pub returns-then-has : goal.returns-then-has
returns-then-has c = sym (not_below c.args.label.now.comps c.args.bound c.loop-comp.comp (sym c.has.ensures ∙ c.if-has.true) (omega arith))

pub returns : goal.returns
returns c =
    sym (all_below c.args.label.now.comps c.args.bound (λ k h.
    elim (cases_lt k c.args.bound) [
      | inl l ↦ l
      | inr high ↦
          (let below = has_comp-below (has_comp c.args.label.now.comps) k (ap (λ xs. has_comp xs k) (sym c.law_label.ensures.comps) ∙ h) in
          absurd (false≢true (sym (c.loop-comp.invariant k high (omega arith)) ∙ h)))
    ]))
