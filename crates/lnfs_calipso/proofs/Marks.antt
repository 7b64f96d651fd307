-- What sets the bits of a bitmap.
use Rattle.std.proofs.Common.{◌≡◌, ℕ, ◌+◌, ◌-◌, ◌*◌, ◌/◌, ◌%◌, ◌^◌, ◌<◌, ◌≤◌, ◌==◌, ◌||◌, ◌&&◌, ◌⊎◌, Bool, true, false, eqb, List, [], ◌∷◌, ◌++◌, length, get_or, set, take, replicate, refl, sym, ap, ◌∙◌, arith, inl, inr, bit_or, zero, suc, length-append, length-take}
use Rattle.std.specs.Int.{bit_at, w32}
use Rattle.std.proofs.lemmas.Nat.{le_or_l}
use Rattle.std.proofs.lemmas.Bool.{cases_eq, cases_lt, ne_eqb, eq-eqb, or_right, lt-ltb}
use Rattle.std.proofs.lemmas.List.{get_or-set_same, get_or-set_other, get_or_append_left, get_or-append_right, get_or_past, take_all}
use Rattle.std.proofs.lemmas.Nat.Bits.{bit_at_set_same, bit_at_set_other, bit_at-zero}
use Rattle.lnfs_calipso.specs.Label.{Label, has_comp, compartments, labelled, with_comp}
use Rattle.lnfs_calipso.specs.Bitmap.{is_marked, members, IsBitmap}
use Rattle.lnfs_calipso.proofs.Among.{has_comp-members, has_comp-compartments}
use Rattle.lnfs_calipso.proofs.Members.{compartments-agree, no_compartments}

or-false : (x y : Bool) → y ≡ false → x ≡ (x || y)
or-false true y e = refl
or-false false y e = sym e

same_place : (bits : List ℕ) (comp c : ℕ) → comp / 32 < length bits → c / 32 ≡ comp / 32
    → is_marked (set bits (comp / 32) (bit_or (get_or bits (comp / 32) 0) (1 * 2 ^ (31 - comp % 32) % 2 ^ 32))) c ≡ (is_marked bits c || comp == c)
same_place bits comp c below place =
    let b = get_or bits (comp / 32) 0 in
    let n = bit_or b (1 * 2 ^ (31 - comp % 32) % 2 ^ 32) in
    let read : get_or (set bits (comp / 32) n) (c / 32) 0 ≡ n = ap (λ (k : ℕ). get_or (set bits (comp / 32) n) k 0) place ∙ get_or-set_same bits (comp / 32) n 0 below in
    ap (λ (x : ℕ). eqb (bit_at x (31 - c % 32)) 1) read
    ∙ elim (cases_eq (31 - c % 32) (31 - comp % 32)) [
      | inl here ↦
          ap (λ (i : ℕ). eqb (bit_at n i) 1) here ∙ ap (λ (x : ℕ). eqb x 1) (bit_at_set_same w32 b (31 - comp % 32) (omega arith))
          ∙ sym (or_right (is_marked bits c) (eqb comp c) (eq-eqb comp c (omega arith)))
      | inr there ↦
          ap (λ (x : ℕ). eqb x 1) (bit_at_set_other w32 b (31 - comp % 32) (omega arith) (31 - c % 32) there)
          ∙ ap (λ (k : ℕ). eqb (bit_at (get_or bits k 0) (31 - c % 32)) 1) (sym place)
          ∙ or-false (is_marked bits c) (eqb comp c) (ne_eqb comp c (λ e. there (ap (λ (x : ℕ). 31 - x % 32) (sym e))))
    ]

-- setting a compartment's bit adds that compartment
pub marks : (bits : List ℕ) (comp c : ℕ) → comp / 32 < length bits
    → is_marked (set bits (comp / 32) (bit_or (get_or bits (comp / 32) 0) (1 * 2 ^ (31 - comp % 32) % 2 ^ 32))) c ≡ (is_marked bits c || comp == c)
marks bits comp c below =
    elim (cases_eq (c / 32) (comp / 32)) [
      | inl place ↦ same_place bits comp c below place
      | inr other ↦
          ap (λ (x : ℕ). eqb (bit_at x (31 - c % 32)) 1) (get_or-set_other bits (comp / 32) (c / 32) _ 0 other)
          ∙ or-false (is_marked bits c) (eqb comp c) (ne_eqb comp c (λ e. other (ap (λ (x : ℕ). x / 32) (sym e))))
    ]

-- no word loses a bit
pub marked-higher : (bits : List ℕ) (comp k n : ℕ) → comp / 32 < length bits → get_or bits k 0 ≤ get_or (set bits (comp / 32) (bit_or (get_or bits (comp / 32) 0) n)) k 0
marked-higher bits comp k n below =
    elim (cases_eq k (comp / 32)) [
      | inl here ↦
          (let new : get_or (set bits (comp / 32) (bit_or (get_or bits (comp / 32) 0) n)) k 0 ≡ bit_or (get_or bits (comp / 32) 0) n =
          ap (λ (j : ℕ). get_or (set bits (comp / 32) (bit_or (get_or bits (comp / 32) 0) n)) j 0) here ∙ get_or-set_same bits (comp / 32) _ 0 below in
          let old : get_or bits k 0 ≡ get_or bits (comp / 32) 0 = ap (λ (j : ℕ). get_or bits j 0) here in
          omega (arith, le_or_l (get_or bits (comp / 32) 0) n))
      | inr there ↦ (let same = get_or-set_other bits (comp / 32) k (bit_or (get_or bits (comp / 32) 0) n) 0 there in omega arith)
    ]

-- the word of a compartment that was set isn't zero
pub marked-used : (bits : List ℕ) (comp : ℕ) → comp / 32 < length bits
    → 0 < get_or (set bits (comp / 32) (bit_or (get_or bits (comp / 32) 0) (1 * 2 ^ (31 - comp % 32) % 2 ^ 32))) (comp / 32) 0
marked-used bits comp below =
    let n = bit_or (get_or bits (comp / 32) 0) (1 * 2 ^ (31 - comp % 32) % 2 ^ 32) in
    let read : get_or (set bits (comp / 32) n) (comp / 32) 0 ≡ n = get_or-set_same bits (comp / 32) n 0 below in
    let bit : bit_at n (31 - comp % 32) ≡ 1 = bit_at_set_same w32 (get_or bits (comp / 32) 0) (31 - comp % 32) (omega arith) in
    elim (cases_eq n 0) [
      | inl none ↦
          (let zero : bit_at n (31 - comp % 32) ≡ 0 = ap (λ (x : ℕ). bit_at x (31 - comp % 32)) none ∙ bit_at-zero (31 - comp % 32) in
          absurd (omega (arith, bit, zero)))
      | inr some ↦ omega (arith, read)
    ]

-- lists of equal words mark the same compartments
pub marks-same : (xs ys : List ℕ) → ((k : ℕ) → get_or xs k 0 ≡ get_or ys k 0) → (c : ℕ) → is_marked xs c ≡ is_marked ys c
marks-same xs ys h c = ap (λ (x : ℕ). eqb (bit_at x (31 - c % 32)) 1) (h (c / 32))

-- no words mark none
pub members-none : members [] ≡ []
members-none = no_compartments (is_marked []) (λ c. ap (λ (x : ℕ). eqb x 1) (bit_at-zero (31 - c % 32)))

pub bitmap-none : IsBitmap []
bitmap-none = record { few = omega arith; fits = λ k. omega arith; used = λ n e. absurd (omega arith) }

-- zeros behind a bitmap
abbrev pub zeros_of : ℕ → List ℕ
zeros_of n = replicate n 0

get_or-zeros : (n k : ℕ) → get_or (zeros_of n) k 0 ≡ 0
get_or-zeros zero k = refl
get_or-zeros (suc n) zero = refl
get_or-zeros (suc n) (suc k) = get_or-zeros n k

pub get_or-grown : (old new : List ℕ) (n m : ℕ) → length old ≤ n → new ≡ take n old ++ zeros_of m → (k : ℕ) → get_or new k 0 ≡ get_or old k 0
get_or-grown old new n m short grows k =
    ap (λ (xs : List ℕ). get_or xs k 0) (grows ∙ ap (λ (xs : List ℕ). xs ++ zeros_of m) (take_all n old short))
    ∙ elim (cases_lt k (length old)) [
      | inl l ↦ get_or_append_left old (zeros_of m) 0 k l
      | inr l ↦ get_or-append_right old (zeros_of m) (length old) k 0 refl l ∙ get_or-zeros m (k - length old) ∙ sym (get_or_past old k 0 l)
    ]

-- a bitmap with one more bit
pub members-insert : (old new : List ℕ) (comp : ℕ) → length old ≤ 60 → ((c : ℕ) → is_marked new c ≡ (is_marked old c || comp == c)) → members new ≡ compartments (λ c. has_comp (members old) c || comp == c)
members-insert old new comp long h =
    compartments-agree (is_marked new) (λ c. has_comp (members old) c || comp == c) (λ c l. h c ∙ ap (λ (b : Bool). b || comp == c) (sym (has_comp-members old long c)))

abbrev pub with_comps : (doi sens : ℕ) → List ℕ → Label
with_comps doi sens comps = record { doi = doi; sens = sens; comps = comps }

-- a label of some compartments, with one more
pub labelled-more : (doi sens comp : ℕ) (comps more : List ℕ) → ((c : ℕ) → has_comp more c ≡ (has_comp comps c || comp == c)) → with_comp (labelled doi sens comps) comp ≡ labelled doi sens more
labelled-more doi sens comp comps more h =
    ap (with_comps doi sens) (compartments-agree (λ c. has_comp (compartments (has_comp comps)) c || comp == c) (has_comp more)
    (λ c l. ap (λ (b : Bool). b || comp == c) (has_comp-compartments (has_comp comps) c ∙ ap (λ (b : Bool). b && has_comp comps c) (lt-ltb c 1920 l)) ∙ sym (h c)))
