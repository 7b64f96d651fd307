-- Bitmaps made from a test of their attributes.
use Rattle.std.proofs.Common.{◌≡◌, ◌<◌, ◌≤◌, ◌+◌, ◌-◌, ◌*◌, ◌/◌, ◌%◌, ◌^◌, ℕ, zero, suc, Bool, true, false, cond, eqb, List, [], ◌∷◌, get_or, map, refl, sym, ap, ◌∙◌, subst, arith, inl, inr}
use Rattle.std.specs.List.{fold, range_with_len, AllByRecursion}
use Rattle.std.specs.Int.{bit_at}
use Rattle.std.proofs.lemmas.Bool.{cases_lt}
use Rattle.std.proofs.lemmas.Bool.Decides.{nat_tests}
use Rattle.std.proofs.lemmas.Nat.{pow-add}
use Rattle.std.proofs.lemmas.Nat.Bits.{bit_at-lt, bit_at_above, bit_at_cat_low, bit_at_cat_high, same_from_bits_below}
use Rattle.std.proofs.lemmas.List.FromFn.{length-map-range_with_len, get_or-map-range_with_len}
use Rattle.std.proofs.lemmas.Grind.{same_number_lists}
use Rattle.std.proofs.lemmas.List.Elements.{All-from_recursion, All-get_or}
use Rattle.lnfs_attrs.specs.declared.bitmap.Bitmap.{Bitmap}
use Rattle.lnfs_attrs.specs.Bitmaps.{bit, has_attr, IsWord, BitmapFits}
use Rattle.lnfs_attrs.proofs.Below.{has_below}
use Rattle.lnfs_operations.specs.Shown.{word_of, bitmap_of}

-- ---- one more bit

next_small : (b : Bool) (sum j : ℕ) → sum < 2 ^ j → sum + cond b (2 ^ j) 0 < 2 ^ (j + 1)
next_small true sum j small = omega (arith, small, pow-add 2 j 1)
next_small false sum j small = omega (arith, small, pow-add 2 j 1)

next_below : (b : Bool) (sum j i : ℕ) → i < j → bit_at (sum + cond b (2 ^ j) 0) i ≡ bit_at sum i
next_below true sum j i lt = let e : sum + 2 ^ j ≡ 1 * 2 ^ j + sum = omega arith in ap (λ n. bit_at n i) e ∙ bit_at_cat_low 1 j sum i lt
next_below false sum j i lt = ap (λ n. bit_at n i) (omega arith)

next_here : (b : Bool) (sum j : ℕ) → sum < 2 ^ j → bit (sum + cond b (2 ^ j) 0) j ≡ b
next_here true sum j small =
    let e : sum + 2 ^ j ≡ 1 * 2 ^ j + sum = omega arith in
    let none : j - j ≡ 0 = omega arith in
    ap (λ n. bit n j) e ∙ ap (λ n. eqb n 1) (bit_at_cat_high 1 j sum j small (omega arith)) ∙ ap (λ n. bit 1 n) none
next_here false sum j small = ap (λ n. bit n j) (omega arith) ∙ ap (λ n. eqb n 1) (bit_at_above sum j j small (omega arith))

-- ---- the bits of a word

module _ (test : ℕ → Bool) where
  -- with so many bits more, from one on
  abbrev gathered : ℕ → ℕ → ℕ → ℕ
  gathered sum from count = fold (λ sum i. sum + cond (test i) (2 ^ i) 0) sum (range_with_len from count)

  gathered_small : (count from sum : ℕ) → sum < 2 ^ from → gathered sum from count < 2 ^ (from + count)
  gathered_small zero from sum small = subst (λ n. sum < 2 ^ n) (omega arith) small
  gathered_small (suc count) from sum small =
      subst (λ n. gathered (sum + cond (test from) (2 ^ from) 0) (from + 1) count < 2 ^ n) (omega arith)
      (gathered_small count (from + 1) (sum + cond (test from) (2 ^ from) 0) (next_small (test from) sum from small))

  gathered_below : (count from sum i : ℕ) → i < from → bit_at (gathered sum from count) i ≡ bit_at sum i
  gathered_below zero from sum i lt = refl
  gathered_below (suc count) from sum i lt = gathered_below count (from + 1) (sum + cond (test from) (2 ^ from) 0) i (omega (arith, lt)) ∙ next_below (test from) sum from i lt

  gathered_has : (count from sum i : ℕ) → sum < 2 ^ from → from ≤ i → i < from + count → bit (gathered sum from count) i ≡ test i
  gathered_has zero from sum i small le lt = absurd (omega arith)
  gathered_has (suc count) from sum i small le lt =
      elim (cases_lt from i) [
        | inl above ↦ gathered_has count (from + 1) (sum + cond (test from) (2 ^ from) 0) i (next_small (test from) sum from small) (omega arith) (omega arith)
        | inr here ↦ let same : from ≡ i = omega arith in subst (λ n. bit (gathered sum from (suc count)) n ≡ test n) same
            (ap (λ n. eqb n 1) (gathered_below count (from + 1) (sum + cond (test from) (2 ^ from) 0) from (omega arith)) ∙ next_here (test from) sum from small)
      ]

word_small : (test : ℕ → Bool) (k : ℕ) → word_of test k < 2 ^ 32
word_small test k = gathered_small (λ i. test (32 * k + i)) 32 0 0 (omega arith)

word_has : (test : ℕ → Bool) (k i : ℕ) → i < 32 → bit (word_of test k) i ≡ test (32 * k + i)
word_has test k i lt = gathered_has (λ i. test (32 * k + i)) 32 0 0 i (omega arith) (omega arith) (omega (arith, lt))

-- ---- the bitmap of a test

words_small : (test : ℕ → Bool) (ks : List ℕ) → AllByRecursion IsWord (map (word_of test) ks)
words_small test [] = tt
words_small test (k ∷ ks) = (word_small test k, words_small test ks)

pub bitmap_fits : (test : ℕ → Bool) → BitmapFits (bitmap_of test)
unfolding bitmap_of
bitmap_fits test = (length-map-range_with_len (word_of test) 0 8, All-from_recursion IsWord (map (word_of test) (range_with_len 0 8)) (words_small test (range_with_len 0 8)))

pub bitmap_has : (test : ℕ → Bool) (n : ℕ) → n < 256 → has_attr (bitmap_of test) n ≡ test n
unfolding bitmap_of
bitmap_has test n lt =
    let place : 32 * (n / 32) + n % 32 ≡ n = omega arith in
    ap (λ w. bit w (n % 32)) (get_or-map-range_with_len (word_of test) 0 8 (n / 32) (n / 32) 0 (omega (arith, lt)) (omega arith))
    ∙ word_has test (n / 32) (n % 32) (omega arith) ∙ ap test place

pub bitmap_ends : (test : ℕ → Bool) (n : ℕ) → 256 ≤ n → has_attr (bitmap_of test) n ≡ false
bitmap_ends test n past = at (has_attr (bitmap_of test) n) (has_below (bitmap_of test) n (bitmap_fits test).0)
  where
    at : (b : Bool) → (b ≡ true → n < 256) → b ≡ false
    at false below = refl
    at true below = absurd (omega (arith, below refl, past))

-- ---- a bitmap is that of what it has

bit_told : (a b i : ℕ) → bit a i ≡ bit b i → bit_at a i ≡ bit_at b i
bit_told a b i same = grind (arith, nat_tests, bit_at-lt a i, bit_at-lt b i)

word_told : (b : Bitmap) (test : ℕ → Bool) → ((n : ℕ) → n < 256 → has_attr b n ≡ test n) → (k i : ℕ) → k < 8 → i < 32 → bit (get_or b.words k 0) i ≡ bit (word_of test k) i
word_told b test has k i le lt =
    let n : ℕ = 32 * k + i in
    let place : n / 32 ≡ k = omega (arith, lt) in
    let rest : n % 32 ≡ i = omega (arith, lt) in
    sym (ap (λ (p : ℕ). bit (get_or b.words p 0) (n % 32)) place ∙ ap (bit (get_or b.words k 0)) rest) ∙ has n (omega (arith, le, lt)) ∙ sym (word_has test k i lt)

pub bitmap_told : (b : Bitmap) → BitmapFits b → (test : ℕ → Bool) → ((n : ℕ) → n < 256 → has_attr b n ≡ test n) → b ≡ bitmap_of test
unfolding bitmap_of
bitmap_told b fits test has =
    let long = length-map-range_with_len (word_of test) 0 8 in
    let same : b.words ≡ map (word_of test) (range_with_len 0 8) = same_number_lists b.words _ (fits.0 ∙ sym long) (λ k lt.
    let word = get_or-map-range_with_len (word_of test) 0 8 k k 0 (omega (arith, lt, fits.0)) (omega arith) in
    same_from_bits_below 32 (get_or b.words k 0) (word_of test k) (All-get_or IsWord b.words k 0 lt fits.1) (word_small test k) (λ i below. bit_told _ _ i (word_told b test has k i (omega (arith, lt, fits.0)) below)) ∙ sym word) in
    ap (λ (ws : List ℕ). let x : Bitmap = record { words = ws } in x) same

pub bitmap_itself : (b : Bitmap) → BitmapFits b → b ≡ bitmap_of (has_attr b)
bitmap_itself b fits = bitmap_told b fits (has_attr b) (λ n lt. refl)
