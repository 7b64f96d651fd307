-- Which numbers are among the compartments.
use Rattle.std.proofs.Common.{◌≡◌, ℕ, ◌+◌, ◌-◌, ◌/◌, ◌%◌, ◌≤◌, ◌==◌, ◌&&◌, ◌||◌, Bool, true, false, cond, eqb, ltb, leb, List, [], ◌∷◌, length, refl, sym, ap, ◌∙◌, arith, filter, suc, zero}
use Rattle.std.specs.List.{list_any, range_with_len}
use Rattle.std.specs.Int.{bit_at}
use Rattle.std.proofs.lemmas.Bool.{eqb-true, ltb-false, false≢true}
use Rattle.std.proofs.lemmas.Bool.Decides.{nat_tests}
use Rattle.std.proofs.lemmas.List.{get_or_past}
use Rattle.std.proofs.lemmas.Nat.Bits.{bit_at-zero}
use Rattle.lnfs_calipso.specs.Label.{has_comp, compartments, numbers_below}
use Rattle.lnfs_calipso.specs.Bitmap.{is_marked, members}

any-cond : (test : ℕ → Bool) (b : Bool) (x : ℕ) (ys : List ℕ) → list_any test (cond b (x ∷ ys) ys) ≡ ((b && test x) || list_any test ys)
any-cond test true x ys = refl
any-cond test false x ys = refl

kept_step : (here there same other : Bool) → (same ≡ true → here ≡ there) → ((here && same) || (other && there)) ≡ ((same || other) && there)
kept_step true true true true h = refl
kept_step true true true false h = refl
kept_step true true false true h = refl
kept_step true true false false h = refl
kept_step true false true other h = absurd (false≢true (sym (h refl)))
kept_step true false false true h = refl
kept_step true false false false h = refl
kept_step false true true other h = absurd (false≢true (h refl))
kept_step false true false true h = refl
kept_step false true false false h = refl
kept_step false false true true h = refl
kept_step false false true false h = refl
kept_step false false false true h = refl
kept_step false false false false h = refl

-- a number is among those kept where it was there and passes
pub has_comp-filter : (p : ℕ → Bool) (xs : List ℕ) (c : ℕ) → has_comp (filter p xs) c ≡ (has_comp xs c && p c)
has_comp-filter p [] c = refl
has_comp-filter p (x ∷ xs) c =
    any-cond (λ y. y == c) (p x) x (filter p xs) ∙ ap (λ b. (p x && (x == c)) || b) (has_comp-filter p xs c) ∙ kept_step (p x) (p c) (x == c) (has_comp xs c) (λ e. ap p (eqb-true x c e))

range_step : (a n c : ℕ) → (eqb a c || (leb (a + 1) c && ltb c (a + 1 + n))) ≡ (leb a c && ltb c (a + suc n))
range_step a n c = grind (arith, nat_tests)

pub has_comp-range : (a n c : ℕ) → has_comp (range_with_len a n) c ≡ (leb a c && ltb c (a + n))
has_comp-range a zero c = grind (arith, nat_tests)
has_comp-range a (suc n) c = ap (λ b. eqb a c || b) (has_comp-range (a + 1) n c) ∙ range_step a n c

from_zero : (n c : ℕ) → (leb 0 c && ltb c (0 + n)) ≡ ltb c n
from_zero n c = grind (arith, nat_tests)

has_comp-numbers : (n : ℕ) (p : ℕ → Bool) (c : ℕ) → has_comp (numbers_below n p) c ≡ (ltb c n && p c)
unfolding numbers_below
has_comp-numbers n p c =
    has_comp-filter p (range_with_len 0 n) c ∙ ap (λ b. b && p c) (has_comp-range 0 n c ∙ from_zero n c)

pub has_comp-compartments : (p : ℕ → Bool) (c : ℕ) → has_comp (compartments p) c ≡ (ltb c 1920 && p c)
has_comp-compartments p c = has_comp-numbers 1920 p c

-- a compartment past the bitmap has no bit
pub past-members : (bits : List ℕ) (c : ℕ) → length bits ≤ c / 32 → is_marked bits c ≡ false
past-members bits c past =
    ap (λ b. eqb (bit_at b (31 - c % 32)) 1) (get_or_past bits (c / 32) 0 past) ∙ ap (λ b. eqb b 1) (bit_at-zero (31 - c % 32))

and_true : (x y : Bool) → (x ≡ false → y ≡ false) → (x && y) ≡ y
and_true true y h = refl
and_true false y h = sym (h refl)

-- the compartments of a bitmap are those that it marks
pub has_comp-members : (bits : List ℕ) → length bits ≤ 60 → (c : ℕ) → has_comp (members bits) c ≡ is_marked bits c
has_comp-members bits long c =
    has_comp-compartments (is_marked bits) c
    ∙ and_true (ltb c 1920) (is_marked bits c) (λ e. let high = ltb-false c 1920 e in past-members bits c (omega arith))
