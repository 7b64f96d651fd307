use Rattle.std.proofs.Common.{◌≡◌, ℕ, List, [], ◌∷◌, length, refl, sym, ap, ◌∙◌}
use Rattle.std.proofs.lemmas.Bool.{eq-eqb, ne_eqb}
use Rattle.lnfs_words.specs.Paths.{before_last}
use Rattle.lnfs_words.proofs.Fronts.{before_last_is, before_last_isnt}
use Rattle.lnfs_words.proofs.paths.before_last.Goals as goal

pub returns-then-last-separator : goal.returns-then-last-separator
returns-then-last-separator c =
    sym (c.loop-last.invariant ∙ ap (before_last c.args.separator) c.in-Some.ensures.cases.0
    ∙ before_last_is c.args.separator c.in-Some.last.now c.in-Some.rest.now (eq-eqb _ _ c.if-last-separator.true))

pub loop-last-preserved : goal.loop-last-preserved
loop-last-preserved c =
    c.loop-last.invariant ∙ ap (before_last c.args.separator) c.in-Some.ensures.cases.0
    ∙ before_last_isnt c.args.separator c.in-Some.last.now c.in-Some.rest.now (ne_eqb _ _ c.if-last-separator.false)

nothing_left : (s : ℕ) (front : List ℕ) → length front ≡ 0 → front ≡ before_last s front
unfolding before_last
nothing_left s [] e = refl
nothing_left s (b ∷ front) e = cc

pub returns : goal.returns
returns c = nothing_left c.args.separator c.loop-last.front.now c.in_default.ensures.cases ∙ sym c.loop-last.invariant
