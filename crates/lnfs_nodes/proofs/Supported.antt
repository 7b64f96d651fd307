-- Whether each attribute of a set passes a test, and so whether the server has each.
use Rattle.std.proofs.Common.{◌≡◌, ◌+◌, ◌<◌, ◌≤◌, ℕ, zero, suc, Bool, true, false, not, length, IsTrue, ◌↔◌, refl, sym, arith, inl, inr}
use Rattle.std.specs.Prelude.{◌||◌, ◌&&◌}
use Rattle.std.specs.List.{list_all, range_with_len}
use Rattle.std.proofs.lemmas.Bool.{cases_lt}
use Rattle.lnfs_attrs.specs.declared.bitmap.Bitmap.{Bitmap}
use Rattle.lnfs_operations.specs.GetAttr.{attr_end}
use Rattle.lnfs_attrs.specs.Bitmaps.{has_attr}
use Rattle.lnfs_attrs.specs.Attributes.{is_listed, AllAsked}
use Rattle.lnfs_attrs.proofs.Below.{all_below}
use Rattle.lnfs_operations.specs.GetAttr.{is_supported}

-- what holds of each number of a range holds of all
all_in : (test : ℕ → Bool) (count from : ℕ) → ((n : ℕ) → from ≤ n → n < from + count → test n ≡ true) → list_all test (range_with_len from count) ≡ true
all_in test zero from each = refl
all_in test (suc count) from each =
    both (test from) (list_all test (range_with_len (from + 1) count)) (each from (omega arith) (omega arith)) (all_in test count (from + 1) (λ n le lt. each n (omega arith) (omega arith)))
  where
    both : (a b : Bool) → a ≡ true → b ≡ true → (a && b) ≡ true
    both true b a is = is
    both false b a is = cc

one_of : (test : ℕ → Bool) (from n : ℕ) (more : Bool) → (test from && more) ≡ true → from ≤ n → (more ≡ true → from + 1 ≤ n → test n ≡ true) → test n ≡ true
one_of test from n more all le later =
    let first : test from ≡ true = left (test from) more all in
    let rest : more ≡ true = right (test from) more all in
    elim (cases_lt from n) [
      | inl above ↦ later rest (omega (arith, above))
      | inr here ↦ let same : n ≡ from = omega (arith, here, le) in rw same first
    ]
  where
    left : (a b : Bool) → (a && b) ≡ true → a ≡ true
    left true b e = refl
    left false b e = cc

    right : (a b : Bool) → (a && b) ≡ true → b ≡ true
    right true b e = e
    right false b e = cc

each_of : (test : ℕ → Bool) (count from : ℕ) → list_all test (range_with_len from count) ≡ true → (n : ℕ) → from ≤ n → n < from + count → test n ≡ true
each_of test zero from all n le lt = absurd (omega arith)
each_of test (suc count) from all n le lt = one_of test from n (list_all test (range_with_len (from + 1) count)) all le (λ more above. each_of test count (from + 1) more n above (omega arith))

listed_or : (a b : Bool) → (a ≡ true → b ≡ true) → (not a || b) ≡ true
listed_or true b then = then refl
listed_or false b then = refl

then_listed : (a b : Bool) → (not a || b) ≡ true → a ≡ true → b ≡ true
then_listed true b e is = e
then_listed false b e is = cc

-- A test of each attribute of a set is one of each number.
pub all_tested : (b : Bitmap) (test : ℕ → Bool) → AllAsked b test → list_all (λ n. not (has_attr b n) || test n) (range_with_len 0 attr_end) ≡ true
all_tested b test told = all_in (λ n. not (has_attr b n) || test n) 256 0 (λ n le lt. listed_or (has_attr b n) (test n) (told n))

pub each_tested : (b : Bitmap) (test : ℕ → Bool) → length b.words ≡ 8 → list_all (λ n. not (has_attr b n) || test n) (range_with_len 0 attr_end) ≡ true → AllAsked b test
each_tested b test whole is = at 256 (omega arith) is
  where
    at : (end : ℕ) → 256 ≤ end → list_all (λ n. not (has_attr b n) || test n) (range_with_len 0 end) ≡ true → AllAsked b test
    at end long is = all_below b test end whole long (λ n lt has. then_listed (has_attr b n) (test n) (each_of (λ n. not (has_attr b n) || test n) end 0 is n (omega arith) (omega arith)) has)

-- whether the server has each attribute, as a test of the code tells it
pub supported_told : (b : Bitmap) (r : Bool) → length b.words ≡ 8 → IsTrue r ↔ AllAsked b is_listed → r ≡ is_supported b
supported_told b r whole told = at r told (is_supported b) refl
  where
    at : (r : Bool) → IsTrue r ↔ AllAsked b is_listed → (all : Bool) → is_supported b ≡ all → r ≡ is_supported b
    at true told all is = sym (all_tested b is_listed (told.0 refl))
    at false told true is = absurd (let t = told.1 (each_tested b is_listed whole is) in cc)
    at false told false is = sym is
