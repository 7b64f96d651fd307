-- What is answered of attributes, and how long it is.
use Rattle.std.proofs.Common.{◌≡◌, ◌<◌, ◌≤◌, ℕ, Bool, false, ◌&&◌, length, refl, sym, ap, ◌∙◌, arith, rules, inl, inr, length-append}
use Rattle.std.specs.Prelude.{◌==◌}
use Rattle.std.specs.List.{AllByRecursion}
use Rattle.std.proofs.lemmas.Bool.{cases_lt}
use Rattle.std.proofs.lemmas.Bool.Decides.{nat_tests}
use Rattle.lnfs_xdr.proofs.Sizes.{length-word, length-long}
use Rattle.lnfs_attrs.specs.declared.bitmap.Bitmap.{Bitmap}
use Rattle.lnfs_attrs.specs.declared.view.View.{View}
use Rattle.lnfs_attrs.specs.Attributes.{table, numbers_in, is_listed, is_answered}
use Rattle.lnfs_attrs.specs.Sizes.{ViewFits, IsAnswer}
use Rattle.lnfs_world.proofs.Rows.{all_none, all_weaker}
use Rattle.lnfs_world.specs.World.{Id}
use Rattle.lnfs_operations.specs.Handles.{handle_of}
use Rattle.lnfs_operations.specs.Shown.{answer_to}
use Rattle.lnfs_operations.proofs.BitmapLaws.{bitmap_fits, bitmap_has, bitmap_ends}

pub handle_length : (i : Id) → length (handle_of i) ≡ 12
handle_length i = simp (length-append, length-word, length-long) refl

-- nothing is listed from 256 on
listed_past : (n : ℕ) → 256 ≤ n → is_listed n ≡ false
unfolding is_listed
listed_past n past =
    let below : AllByRecursion (λ m. m < 256) (numbers_in table) = search rules in
    all_none (λ m. m == n) (numbers_in table) (all_weaker (λ m. m < 256) (λ m. (m == n) ≡ false) (λ m lt. grind (arith, nat_tests)) (numbers_in table) below)

pub answer_fits : (asked : Bitmap) (inner : Bool) (view : View) → ViewFits view → IsAnswer (answer_to asked inner view)
answer_fits asked inner view fits =
    let test : ℕ → Bool = λ n. is_listed n && is_answered asked inner n in
    record {
      asked = asked;
      view = view;
      inner = inner;
      fits = fits;
      words = bitmap_fits test;
      mask = λ n. elim (cases_lt n 256) [
        | inl lt ↦ bitmap_has test n lt
        | inr past ↦ bitmap_ends test n past ∙ ap (λ b. b && is_answered asked inner n) (sym (listed_past n past))
      ];
      list = refl;
    }
