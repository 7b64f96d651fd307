-- How large attributes are.
use Rattle.std.proofs.Common.{◌≡◌, ℕ, ◌+◌, ◌*◌, ◌<◌, ◌≤◌, ◌/◌, ◌%◌, ◌^◌, zero, suc, cond, eqb, Bool, true, false, List, [], ◌∷◌, length, get_or, refl, sym, ap, ◌∙◌, length-append, arith, rules, inl, inr}
use Rattle.std.specs.Prelude.{◌==◌, ◌||◌, ◌&&◌, sum_by}
use Rattle.std.specs.List.{list_any, AllByRecursion}
use Rattle.std.specs.Int.{w32}
use Rattle.std.proofs.lemmas.Bool.{eqb-true, cases_lt}
use Rattle.std.proofs.lemmas.List.Concat.{length-flat_map}
use Rattle.std.proofs.lemmas.List.Sums.{sum_by-le-sum_by}
use Rattle.std.proofs.lemmas.List.Elements.{recursion_from_All}
use Rattle.std.proofs.lemmas.Nat.Bits.{bit_at-trailing_zeros}
use Rattle.lnfs_xdr.proofs.Sizes.{length-word, length-long, length-opaque}
use Rattle.lnfs_attrs.specs.Bitmaps.{bit, has_attr, trimmed, before, IsWord, BitmapFits}
use Rattle.lnfs_attrs.specs.Attributes.{table, numbers_in, is_listed, is_settable, AllAsked, is_answered, value_of, attr_text, list_text}
use Rattle.lnfs_attrs.specs.Sizes.{IsNarrow, ViewFits, IsAnswer}
use Rattle.lnfs_attrs.specs.declared.bitmap.Bitmap.{Bitmap}
use Rattle.lnfs_attrs.specs.declared.raw.RawAttrs.{RawAttrs}
use Rattle.lnfs_attrs.specs.declared.view.View.{View}
use Rattle.lnfs_attrs.proofs.Words.{before_short}

-- ---- words

-- a word that is not zero has a bit
pub some_bit : (w : ℕ) → 0 < w → w < 2 ^ 32 → (i : ℕ) × (i < 32) × (bit w i ≡ true)
some_bit w some small =
    let t = bit_at-trailing_zeros w32 w some small in
    (_, t.0, ap (λ (m : ℕ). eqb m 1) t.1)

word_of : (words : List ℕ) (k : ℕ) → AllByRecursion IsWord words → get_or words k 0 < 2 ^ 32
word_of [] k all = omega arith
word_of (x ∷ xs) zero all = all.0
word_of (x ∷ xs) (suc k) all = word_of xs k all.1

-- no attribute of a word is in it, so the word is zero
no_word : (b : Bitmap) (k : ℕ) → BitmapFits b → ((n : ℕ) → has_attr b n ≡ true → n < 96) → 3 ≤ k → get_or b.words k 0 ≡ 0
no_word b k fits below le =
    elim (cases_lt 0 (get_or b.words k 0)) [
      | inl some ↦
          let s = some_bit (get_or b.words k 0) some (word_of b.words k (recursion_from_All IsWord b.words fits.1)) in
          let n : ℕ = 32 * k + s.0 in
          let place : n / 32 ≡ k = omega (arith, s.1) in
          let rest : n % 32 ≡ s.0 = omega (arith, s.1) in
          let has : has_attr b n ≡ true = ap (λ (p : ℕ). bit (get_or b.words p 0) (n % 32)) place ∙ ap (bit (get_or b.words k 0)) rest ∙ s.2 in
          absurd (omega (arith, below n has, le))
      | inr none ↦ omega (arith, none)
    ]

all_zero : (xs : List ℕ) (m : ℕ) → ((k : ℕ) → m ≤ k → get_or xs k 0 ≡ 0) → length (trimmed xs) ≤ m
unfolding trimmed
all_zero [] m none = omega arith
all_zero (x ∷ xs) zero none =
    let rest = all_zero xs zero (λ k le. none (suc k) (omega arith)) in
    zero_before x (trimmed xs) (none zero (omega arith)) rest
  where
    zero_before : (x : ℕ) (ys : List ℕ) → x ≡ 0 → length ys ≤ 0 → length (before x ys) ≤ 0
    zero_before x [] e le = rw e (omega arith)
    zero_before x (y ∷ ys) e le = absurd (omega arith)
all_zero (x ∷ xs) (suc m) none = omega (arith, before_short x (trimmed xs), all_zero xs m (λ k le. none (suc k) (omega arith)))

narrow : (b : Bitmap) → BitmapFits b → ((n : ℕ) → has_attr b n ≡ true → n < 96) → IsNarrow b
narrow b fits below = all_zero b.words 3 (λ k le. no_word b k fits below le)

first_or : (b : Bool) (m n : ℕ) (more : Bool) → eqb m n ≡ b → m < 96 → (more ≡ true → n < 96) → (b || more) ≡ true → n < 96
first_or true m n more same lt later e = omega (arith, lt, eqb-true m n same)
first_or false m n more same lt later e = later e

-- one of these numbers
below_96 : (ns : List ℕ) → AllByRecursion (λ m. m < 96) ns → (n : ℕ) → list_any (λ m. m == n) ns ≡ true → n < 96
below_96 [] all n e = absurd cc
below_96 (m ∷ ms) all n e = first_or (eqb m n) m n (list_any (λ k. k == n) ms) refl all.0 (below_96 ms all.1 n) e

pub listed_below : (n : ℕ) → is_listed n ≡ true → n < 96
unfolding is_listed
listed_below n e = below_96 (numbers_in table) (search rules) n e

pub settable_below : (n : ℕ) → is_settable n ≡ true → n < 96
unfolding is_settable
settable_below n e = below_96 (4 ∷ 33 ∷ 80 ∷ []) (search rules) n e

pub listed_narrow : (b : Bitmap) → BitmapFits b → AllAsked b is_listed → IsNarrow b
listed_narrow b fits all = narrow b fits (λ n e. listed_below n (all n e))

pub settable_narrow : (b : Bitmap) → BitmapFits b → AllAsked b is_settable → IsNarrow b
settable_narrow b fits all = narrow b fits (λ n e. settable_below n (all n e))

-- ---- values

chosen_short : (b : Bool) (xs : List ℕ) → length (cond b xs []) ≤ length xs
chosen_short true xs = omega arith
chosen_short false xs = omega arith

attr_short : (asked : Bitmap) (v : View) (inner : Bool) (n : ℕ) → length (attr_text asked v inner n) ≤ length (value_of n v)
unfolding attr_text
attr_short asked v inner n = chosen_short (is_answered asked inner n) (value_of n v)

all_values : (v : View) → ViewFits v → sum_by (λ n. length (value_of n v)) (numbers_in table) ≤ 1248
unfolding value_of
all_values v fits = simp (length-append, length-word, length-long, length-opaque) (omega (arith, fits.0, fits.1))

pub values_short : (asked : Bitmap) (v : View) (inner : Bool) → ViewFits v → length (list_text asked v inner) ≤ 1248
unfolding list_text
values_short asked v inner fits =
    omega (arith, length-flat_map (attr_text asked v inner) (numbers_in table), sum_by-le-sum_by (λ n. length (attr_text asked v inner n)) (λ n. length (value_of n v)) (numbers_in table) (attr_short asked v inner), all_values v fits)

-- ---- answers

and_left : (a b : Bool) → (a && b) ≡ true → a ≡ true
and_left true b e = refl
and_left false b e = e

pub answer_small : (a : RawAttrs) → IsAnswer a → IsNarrow a.mask × (length a.list ≤ 1248)
answer_small a is = (
  listed_narrow a.mask is.words (λ n e. and_left _ _ (sym (is.mask n) ∙ e)),
  omega (arith, ap length is.list, values_short is.asked is.view is.inner is.fits),
)
