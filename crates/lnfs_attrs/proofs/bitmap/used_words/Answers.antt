use Rattle.std.proofs.Common.{List, ℕ, take, refl, ap, ◌∙◌, sym, arith}
use Rattle.lnfs_attrs.specs.Bitmaps.{trimmed}
use Rattle.lnfs_attrs.proofs.Words.{used_here, used_before}
use Rattle.lnfs_attrs.proofs.bitmap.used_words.Goals.{then-word-ne0, else-word-ne0}
use Rattle.lnfs_attrs.proofs.bitmap.used_words.Goals as goal

pub loop-place-init : goal.loop-place-init
unfolding trimmed
loop-place-init c = (omega arith, refl)

pub loop-place-preserved : goal.loop-place-preserved
loop-place-preserved c =
    let xs : List ℕ = c.args.words.now in
    let i = c.loop-place.place in
    elim c.if-word-ne0.branch [
      | then-word-ne0 w ↦ (omega arith, used_here xs i c.loop-place-test.true w.if-word-ne0.true ∙ ap (λ (n : ℕ). take n xs) (sym w.used-is))
      | else-word-ne0 w ↦ (omega arith, used_before xs i c.loop-place-test.true w.if-word-ne0.false ∙ c.loop-place.invariant.1 ∙ ap (λ (n : ℕ). take n xs) (sym w.used-is))
    ]
