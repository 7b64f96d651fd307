use Rattle.std.proofs.Common.{◌≡◌, ap, ◌∙◌, ℕ, Bool, true, false, arith}
use Rattle.std.specs.Prelude.{◌==◌, ◌&&◌, ◌||◌}
use Rattle.std.proofs.lemmas.Bool.Decides.{nat_tests}
use Rattle.lnfs_attrs.specs.declared.bitmap.Bitmap.{Bitmap}
use Rattle.lnfs_attrs.specs.declared.numbers.TheConstants.{SIZE}
use Rattle.lnfs_attrs.specs.Bitmaps.{has_attr}
use Rattle.lnfs_operations.proofs.BitmapLaws.{bitmap_told}
use Rattle.lnfs_files.proofs.opened.cut_set.Goals.{then-sized, else-sized}
use Rattle.lnfs_files.proofs.opened.cut_set.Goals as goal

put : (sized has : Bool) (n : ℕ) → sized ≡ true → has ≡ false → (SIZE == n || has) ≡ (sized && n == SIZE)
put sized has n e none = grind (arith, nat_tests, e, none)

left_out : (sized : Bool) (n : ℕ) → sized ≡ false → false ≡ (sized && n == SIZE)
left_out sized n e = grind (arith, e)

pub returns : goal.returns
returns c =
    bitmap_told c.if-sized.set c.law_words.ensures (λ attr. c.args.sized && attr == SIZE) (λ n lt.
    elim c.if-sized.branch [
      | then-sized b ↦ ap (λ (set : Bitmap). has_attr set n) b.set-is ∙ b.insert.ensures n ∙ put c.args.sized (has_attr c.empty-set.result n) n b.if-sized.true (c.empty-set.ensures n)
      | else-sized b ↦ ap (λ (set : Bitmap). has_attr set n) b.set-is ∙ c.empty-set.ensures n ∙ left_out c.args.sized n b.if-sized.false
    ])
