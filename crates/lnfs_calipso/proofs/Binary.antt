-- Numbers by their binary digits.
use Rattle.std.proofs.Common.{◌≡◌, ℕ, ◌+◌, ◌-◌, ◌*◌, ◌/◌, ◌%◌, ◌^◌, ◌<◌, ◌≤◌, Bool, true, false, cond, eqb, zero, suc, refl, sym, ap, ◌∙◌, arith, inl, inr}
use Rattle.std.specs.Int.{bit_at}
use Rattle.std.proofs.Math.Nat.{pow-succ'}
use Rattle.std.proofs.lemmas.Bool.{cases_eq}
use Rattle.std.proofs.lemmas.Nat.Bits.{bit_at_lowest, bit_at-suc, bit_at-zero, bit_at-lt, same_from_bits_below}
use Rattle.lnfs_calipso.specs.Bitmap.{binary}

abbrev pub digit : Bool → ℕ
digit b = cond b 1 0

digit-lt : (b : Bool) → digit b < 2
digit-lt true = omega arith
digit-lt false = omega arith

pub digit-true : (b : Bool) → eqb (digit b) 1 ≡ b
digit-true true = refl
digit-true false = refl

pub digit-is : (n : ℕ) → n < 2 → digit (eqb n 1) ≡ n
digit-is zero l = refl
digit-is (suc zero) l = refl
digit-is (suc (suc n)) l = absurd (omega arith)

pub binary-lt : (n : ℕ) (test : ℕ → Bool) → binary n test < 2 ^ n
unfolding binary
binary-lt zero test = omega arith
binary-lt (suc n) test =
    let before = binary-lt n test in
    let here = digit-lt (test n) in
    let double = pow-succ' 2 n in
    omega arith

low_digit : (x b : ℕ) → b < 2 → (2 * x + b) % 2 ≡ b
low_digit x b l = omega arith

high_digits : (x b : ℕ) → b < 2 → (2 * x + b) / 2 ≡ x
high_digits x b l = omega arith

-- each digit of a number, counted from the highest
pub bit_at-binary : (n : ℕ) (test : ℕ → Bool) (i : ℕ) → i < n → bit_at (binary n test) (n - 1 - i) ≡ digit (test i)
unfolding binary
bit_at-binary zero test i l = absurd (omega arith)
bit_at-binary (suc n) test i l =
    elim (cases_eq i n) [
      | inl last ↦
          (let place : suc n - 1 - i ≡ 0 = omega arith in
          ap (bit_at (binary (suc n) test)) place ∙ bit_at_lowest (binary (suc n) test) ∙ low_digit (binary n test) (digit (test n)) (digit-lt (test n)) ∙ ap (λ (k : ℕ). digit (test k)) (sym last))
      | inr before ↦
          (let place : suc n - 1 - i ≡ suc (n - 1 - i) = omega arith in
          ap (bit_at (binary (suc n) test)) place ∙ bit_at-suc (binary (suc n) test) (n - 1 - i)
          ∙ ap (λ (x : ℕ). bit_at x (n - 1 - i)) (high_digits (binary n test) (digit (test n)) (digit-lt (test n)))
          ∙ bit_at-binary n test i (omega arith))
    ]

-- one of the bits below n is set, or none is
data Bits (b n : ℕ) : Type 0 where
  one_set : (i : ℕ) → i < n → bit_at b i ≡ 1 → Bits b n
  none_set : ((i : ℕ) → i < n → bit_at b i ≡ 0) → Bits b n

no_one : (n : ℕ) → n < 2 → (n ≡ 1 → ⊥) → n ≡ 0
no_one n l h = elim (cases_eq n 1) [ inl one ↦ absurd (h one) | inr other ↦ omega arith ]

bits_below : (b n : ℕ) → Bits b n
bits_below b zero = none_set (λ i l. absurd (omega arith))
bits_below b (suc n) =
    elim (bits_below b n) [
      | one_set i l one ↦ one_set i (omega arith) one
      | none_set none ↦ elim (cases_eq (bit_at b n) 1) [
        | inl one ↦ one_set n (omega arith) one
        | inr not_one ↦ none_set (λ i l. elim (cases_eq i n) [ inl e ↦ ap (bit_at b) e ∙ no_one (bit_at b n) (bit_at-lt b n) not_one | inr other ↦ none i (omega arith) ])
      ]
    ]

-- a number of w bits that isn't zero has a bit
pub some_bit : (w b : ℕ) → b < 2 ^ w → 0 < 2 ^ w → 0 < b → (i : ℕ) × (i < w) × (bit_at b i ≡ 1)
some_bit w b l wide pos =
    elim (bits_below b w) [
      | one_set i below one ↦ (i, below, one)
      | none_set none ↦
          let e : b ≡ 0 = same_from_bits_below w b 0 l wide (λ i below. none i below ∙ sym (bit_at-zero i)) in
          absurd (omega arith)
    ]
