-- Which attributes two sets share, word by word.
use Rattle.std.proofs.Common.{◌≡◌, ℕ, ◌+◌, ◌-◌, ◌*◌, ◌<◌, ◌≤◌, ◌/◌, ◌%◌, ◌^◌, zero, suc, Bool, true, false, not, eqb, List, length, get_or, min, refl, ap, sym, ◌∙◌, arith, inl, inr}
use Rattle.std.specs.Prelude.{◌&&◌, bit_and}
use Rattle.std.specs.Int.{w32, bit_at, bit_not}
use Rattle.std.proofs.Math.ListN.{set}
use Rattle.std.proofs.lemmas.Bool.{cases_lt}
use Rattle.std.proofs.lemmas.List.{get_or-set_same, get_or-set_other, get_or_past}
use Rattle.std.proofs.lemmas.Nat.{and_le_l}
use Rattle.std.proofs.lemmas.Nat.Bits.{bit_at_and, bit_at_not, bit_at-lt}
use Rattle.lnfs_attrs.specs.Bitmaps.{bit}
use Rattle.lnfs_attrs.proofs.Below.{bit_none}
use Rattle.lnfs_attrs.proofs.Sizes.{some_bit}

min_bits : (x y : ℕ) → x < 2 → y < 2 → eqb (min x y) 1 ≡ (eqb x 1 && eqb y 1)
min_bits zero zero lt le = refl
min_bits zero (suc zero) lt le = refl
min_bits (suc zero) zero lt le = refl
min_bits (suc zero) (suc zero) lt le = refl
min_bits (suc (suc x)) y lt le = absurd (omega arith)
min_bits x (suc (suc y)) lt le = absurd (omega arith)

not_bit : (x : ℕ) → x < 2 → eqb (1 - x) 1 ≡ not (eqb x 1)
not_bit zero lt = refl
not_bit (suc zero) lt = refl
not_bit (suc (suc x)) lt = absurd (omega arith)

pub bit_both : (a b i : ℕ) → bit (bit_and a b) i ≡ (bit a i && bit b i)
bit_both a b i = ap (λ (m : ℕ). eqb m 1) (bit_at_and a b i) ∙ min_bits (bit_at a i) (bit_at b i) (bit_at-lt a i) (bit_at-lt b i)

bit_out : (b i : ℕ) → b < 2 ^ 32 → i < 32 → bit (bit_not w32 b) i ≡ not (bit b i)
bit_out b i fits lt = ap (λ (m : ℕ). eqb m 1) (bit_at_not w32 b i fits lt) ∙ not_bit (bit_at b i) (bit_at-lt b i)

-- a bit of one word that is not in the other
bit_apart : (a b i : ℕ) → b < 2 ^ 32 → i < 32 → bit (bit_and a (bit_not w32 b)) i ≡ (bit a i && not (bit b i))
bit_apart a b i fits lt = bit_both a (bit_not w32 b) i ∙ ap (λ (x : Bool). bit a i && x) (bit_out b i fits lt)

in_both : (x y z : Bool) → z ≡ (x && not y) → (z ≡ true → ⊥) → x ≡ true → y ≡ true
in_both true true z e none t = refl
in_both true false z e none t = absurd (none e)
in_both false y z e none t = absurd cc

pub word_within : (a b i : ℕ) → b < 2 ^ 32 → i < 32 → bit_and a (bit_not w32 b) ≡ 0 → bit a i ≡ true → bit b i ≡ true
word_within a b i fits lt none e =
    in_both (bit a i) (bit b i) (bit (bit_and a (bit_not w32 b)) i) (bit_apart a b i fits lt) (λ t. bit_none i (ap (λ (m : ℕ). bit m i) (sym none) ∙ t)) e

in_one : (x y : Bool) → (x && not y) ≡ true → (x ≡ true) × (y ≡ false)
in_one true false e = (refl, refl)
in_one true true e = absurd cc
in_one false y e = absurd cc

pub word_outside : (a b : ℕ) → a < 2 ^ 32 → b < 2 ^ 32 → (bit_and a (bit_not w32 b) ≡ 0 → ⊥) → (i : ℕ) × (i < 32) × (bit a i ≡ true) × (bit b i ≡ false)
word_outside a b small fits some =
    let s = some_bit (bit_and a (bit_not w32 b)) (positive (bit_and a (bit_not w32 b)) some) (omega (arith, and_le_l a (bit_not w32 b), small)) in
    let apart = in_one (bit a s.0) (bit b s.0) (sym (bit_apart a b s.0 fits s.1) ∙ s.2) in
    (s.0, s.1, apart.0, apart.1)
  where
    positive : (n : ℕ) → (n ≡ 0 → ⊥) → 0 < n
    positive zero none = absurd (none refl)
    positive (suc n) none = omega arith

-- ---- one more word

abbrev has : List ℕ → ℕ → Bool
has ws n = bit (get_or ws (n / 32) 0) (n % 32)

pub more_within : (xs ys : List ℕ) (k : ℕ) → get_or ys k 0 < 2 ^ 32 → bit_and (get_or xs k 0) (bit_not w32 (get_or ys k 0)) ≡ 0
    → ((n : ℕ) → n < 32 * k → has xs n ≡ true → has ys n ≡ true) → (n : ℕ) → n < 32 * (k + 1) → has xs n ≡ true → has ys n ≡ true
more_within xs ys k fits none before n lt e =
    elim (cases_lt n (32 * k)) [
      | inl low ↦ before n low e
      | inr le ↦
          let place : n / 32 ≡ k = omega (arith, lt, le) in
          let here : has xs n ≡ bit (get_or xs k 0) (n % 32) = ap (λ (p : ℕ). bit (get_or xs p 0) (n % 32)) place in
          ap (λ (p : ℕ). bit (get_or ys p 0) (n % 32)) place ∙ word_within (get_or xs k 0) (get_or ys k 0) (n % 32) fits (omega arith) none (sym here ∙ e)
    ]

-- a word with an attribute that is not in the other
pub not_within : (xs ys : List ℕ) (k : ℕ) → get_or xs k 0 < 2 ^ 32 → get_or ys k 0 < 2 ^ 32 → (bit_and (get_or xs k 0) (bit_not w32 (get_or ys k 0)) ≡ 0 → ⊥)
    → ((n : ℕ) → has xs n ≡ true → has ys n ≡ true) → ⊥
not_within xs ys k small fits some all =
    let s = word_outside (get_or xs k 0) (get_or ys k 0) small fits some in
    let n : ℕ = 32 * k + s.0 in
    let place : n / 32 ≡ k = omega (arith, s.1) in
    let rest : n % 32 ≡ s.0 = omega (arith, s.1) in
    let asked : has xs n ≡ true = ap (λ (p : ℕ). bit (get_or xs p 0) (n % 32)) place ∙ ap (bit (get_or xs k 0)) rest ∙ s.2 in
    let other : has ys n ≡ false = ap (λ (p : ℕ). bit (get_or ys p 0) (n % 32)) place ∙ ap (bit (get_or ys k 0)) rest ∙ s.3 in
    true_not (sym (all n asked) ∙ other)
  where
    true_not : true ≡ false → ⊥
    true_not e = absurd cc

pub more_both : (xs ys ws : List ℕ) (k : ℕ) → k < length ws → ((n : ℕ) → n < 32 * k → has ws n ≡ (has xs n && has ys n))
    → (n : ℕ) → n < 32 * (k + 1) → has (set ws k (bit_and (get_or xs k 0) (get_or ys k 0))) n ≡ (has xs n && has ys n)
more_both xs ys ws k lt before n end =
    let word : ℕ = bit_and (get_or xs k 0) (get_or ys k 0) in
    elim (cases_lt n (32 * k)) [
      | inl low ↦ ap (λ (w : ℕ). bit w (n % 32)) (get_or-set_other ws k (n / 32) word 0 (λ e. omega (arith, low, e))) ∙ before n low
      | inr le ↦
          let place : n / 32 ≡ k = omega (arith, end, le) in
          let both = bit_both (get_or xs k 0) (get_or ys k 0) (n % 32) in
          ap (λ (p : ℕ). bit (get_or (set ws k word) p 0) (n % 32)) place ∙ ap (λ (w : ℕ). bit w (n % 32)) (get_or-set_same ws k word 0 lt)
          ∙ both ∙ ap (λ (p : ℕ). bit (get_or xs p 0) (n % 32) && bit (get_or ys p 0) (n % 32)) (sym place)
    ]

-- beyond the words there is no attribute
past : (xs : List ℕ) (n : ℕ) → length xs ≡ 8 → 256 ≤ n → has xs n ≡ false
past xs n len le = ap (λ (w : ℕ). bit w (n % 32)) (get_or_past xs (n / 32) 0 (omega (arith, len, le))) ∙ none (bit 0 (n % 32)) (bit_none (n % 32))
  where
    none : (b : Bool) → (b ≡ true → ⊥) → b ≡ false
    none false e = refl
    none true e = absurd (e refl)

pub all_both : (xs ys ws : List ℕ) (end : ℕ) → length xs ≡ 8 → length ws ≡ 8 → 8 ≤ end → ((n : ℕ) → n < 32 * end → has ws n ≡ (has xs n && has ys n)) → (n : ℕ) → has ws n ≡ (has xs n && has ys n)
all_both xs ys ws end len wide le all n =
    elim (cases_lt n 256) [
      | inl low ↦ all n (omega (arith, low, le))
      | inr high ↦ past ws n wide high ∙ sym (ap (λ (b : Bool). b && has ys n) (past xs n len high))
    ]
