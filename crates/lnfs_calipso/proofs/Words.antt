-- The bitmap of some compartments, and the compartments of a bitmap.
use Rattle.std.proofs.Common.{◌≡◌, ℕ, ◌+◌, ◌-◌, ◌*◌, ◌/◌, ◌%◌, ◌^◌, ◌<◌, ◌≤◌, Bool, true, false, eqb, List, [], ◌∷◌, length, get_or, map, zero, suc, refl, sym, ap, ◌∙◌, arith, inl, inr}
use Rattle.std.specs.List.{range_with_len}
use Rattle.std.specs.Int.{bit_at}
use Rattle.std.proofs.lemmas.Bool.{cases_lt, cases_eq, eqb-true, eq-eqb, or_left, or_right, or_cases, false≢true, false_from_ne_true}
use Rattle.std.proofs.lemmas.List.{ext_get_or, get_or_past}
use Rattle.std.proofs.lemmas.List.FromFn.{length-map-range_with_len, get_or-map-range_with_len}
use Rattle.std.proofs.lemmas.Nat.Bits.{bit_at-zero, bit_at-lt, same_from_bits_below}
use Rattle.lnfs_calipso.specs.Label.{has_comp, compartments}
use Rattle.lnfs_calipso.specs.Bitmap.{is_marked, members, binary, word_at, words, bitmap_of, IsBitmap}
use Rattle.lnfs_calipso.proofs.Among.{past-members, has_comp-members}
use Rattle.lnfs_calipso.proofs.Members.{compartments-agree, has_comp-below}
use Rattle.lnfs_calipso.proofs.Binary.{digit, digit-true, digit-is, binary-lt, bit_at-binary, some_bit}

-- no word is above the last compartment's
pub words-le : (comps : List ℕ) (n : ℕ) → ((c : ℕ) → has_comp comps c ≡ true → c / 32 < n) → words comps ≤ n
words-le [] n h = omega arith
words-le (c ∷ comps) n h =
    let here : c / 32 < n = h c (or_left (eqb c c) (has_comp comps c) (eq-eqb c c refl)) in
    let rest = words-le comps n (λ d i. h d (or_right (eqb c d) (has_comp comps d) i)) in
    omega arith

-- each compartment has its word
pub words-gt : (comps : List ℕ) (c : ℕ) → has_comp comps c ≡ true → c / 32 < words comps
words-gt [] c h = absurd (false≢true h)
words-gt (d ∷ comps) c h =
    elim (or_cases (eqb d c) (has_comp comps c) h) [
      | inl same ↦ (let e = eqb-true d c same in omega arith)
      | inr other ↦ (let rest = words-gt comps c other in omega arith)
    ]

word_at-lt : (comps : List ℕ) (k : ℕ) → word_at comps k < 2 ^ 32
unfolding word_at
word_at-lt comps k = binary-lt 32 (λ i. has_comp comps (32 * k + i))

-- the bit of a compartment in its word
pub bit_at-word_at : (comps : List ℕ) (k i : ℕ) → i < 32 → bit_at (word_at comps k) (31 - i) ≡ digit (has_comp comps (32 * k + i))
unfolding word_at
bit_at-word_at comps k i l = bit_at-binary 32 (λ j. has_comp comps (32 * k + j)) i l

pub length-bitmap_of : (comps : List ℕ) → length (bitmap_of comps) ≡ words comps
unfolding bitmap_of
length-bitmap_of comps = length-map-range_with_len (word_at comps) 0 (words comps)

pub get_or-bitmap_of : (comps : List ℕ) (k : ℕ) → k < words comps → get_or (bitmap_of comps) k 0 ≡ word_at comps k
unfolding bitmap_of
get_or-bitmap_of comps k l = get_or-map-range_with_len (word_at comps) 0 (words comps) k k 0 l (omega arith)

pub bitmap_of-fits : (comps : List ℕ) (k : ℕ) → get_or (bitmap_of comps) k 0 < 2 ^ 32
bitmap_of-fits comps k =
    elim (cases_lt k (words comps)) [
      | inl l ↦ omega (arith, get_or-bitmap_of comps k l, word_at-lt comps k)
      | inr past ↦ omega (arith, get_or_past (bitmap_of comps) k 0 (omega (arith, length-bitmap_of comps)))
    ]

place : (c : ℕ) → 32 * (c / 32) + c % 32 ≡ c
place c = omega arith

-- the bitmap of some compartments marks them
pub is_marked-bitmap_of : (comps : List ℕ) (c : ℕ) → is_marked (bitmap_of comps) c ≡ has_comp comps c
is_marked-bitmap_of comps c =
    elim (cases_lt (c / 32) (words comps)) [
      | inl l ↦
          ap (λ (x : ℕ). eqb (bit_at x (31 - c % 32)) 1) (get_or-bitmap_of comps (c / 32) l)
          ∙ ap (λ (x : ℕ). eqb x 1) (bit_at-word_at comps (c / 32) (c % 32) (omega arith))
          ∙ digit-true (has_comp comps (32 * (c / 32) + c % 32)) ∙ ap (has_comp comps) (place c)
      | inr past ↦
          past-members (bitmap_of comps) c (omega (arith, length-bitmap_of comps))
          ∙ sym (false_from_ne_true (has_comp comps c) (λ h. beyond (c / 32) (words comps) past (words-gt comps c h)))
    ]
  where
    beyond : (a b : ℕ) → b ≤ a → a < b → ⊥
    beyond a b l m = omega arith

pub members-bitmap_of : (comps : List ℕ) → comps ≡ compartments (has_comp comps) → members (bitmap_of comps) ≡ comps
members-bitmap_of comps is = compartments-agree (is_marked (bitmap_of comps)) (has_comp comps) (λ c l. is_marked-bitmap_of comps c) ∙ sym is

-- the words of a label are at most sixty
pub words-few : (comps : List ℕ) → comps ≡ compartments (has_comp comps) → words comps ≤ 60
words-few comps is = words-le comps 60 (λ c h. (let below = low comps is c h in omega arith))
  where
    low : (comps : List ℕ) → comps ≡ compartments (has_comp comps) → (c : ℕ) → has_comp comps c ≡ true → c < 1920
    low comps is c h = has_comp-below (has_comp comps) c (ap (λ xs. has_comp xs c) (sym is) ∙ h)

-- the last word has a compartment
last_used : (comps : List ℕ) (n : ℕ) → words comps ≡ n + 1 → 0 < word_at comps n
last_used comps n e =
    elim (cases_eq (word_at comps n) 0) [
      | inr some ↦ omega arith
      | inl none ↦ absurd (too_many (words comps) n e (words-le comps n (λ c h. below c h none)))
    ]
  where
    too_many : (w n : ℕ) → w ≡ n + 1 → w ≤ n → ⊥
    too_many w n e l = omega arith

    below : (c : ℕ) → has_comp comps c ≡ true → word_at comps n ≡ 0 → c / 32 < n
    below c h none =
        elim (cases_eq (c / 32) n) [
          | inr other ↦ (let l = words-gt comps c h in omega arith)
          | inl here ↦
              (let one : bit_at 0 (31 - c % 32) ≡ 1 =
              ap (λ (x : ℕ). bit_at x (31 - c % 32)) (sym none ∙ ap (word_at comps) (sym here))
              ∙ bit_at-word_at comps (c / 32) (c % 32) (omega arith) ∙ ap (λ (d : ℕ). digit (has_comp comps d)) (place c) ∙ ap digit h in
              let zero = bit_at-zero (31 - c % 32) in
              absurd (omega arith))
        ]

pub is_bitmap_of : (comps : List ℕ) → comps ≡ compartments (has_comp comps) → IsBitmap (bitmap_of comps)
is_bitmap_of comps is = record {
  few = omega (arith, length-bitmap_of comps, words-few comps is);
  fits = bitmap_of-fits comps;
  used = λ n e. (let count : words comps ≡ n + 1 = sym (length-bitmap_of comps) ∙ e in omega (arith, get_or-bitmap_of comps n (omega arith), last_used comps n count));
}

-- the bit of a compartment of a bitmap
pub marked_at : (bits : List ℕ) (k i : ℕ) → i < 32 → is_marked bits (32 * k + i) ≡ eqb (bit_at (get_or bits k 0) (31 - i)) 1
marked_at bits k i l =
    let at : (32 * k + i) / 32 ≡ k = omega arith in
    let rest : (32 * k + i) % 32 ≡ i = omega arith in
    ap (λ (j : ℕ). eqb (bit_at (get_or bits j 0) (31 - (32 * k + i) % 32)) 1) at ∙ ap (λ (j : ℕ). eqb (bit_at (get_or bits k 0) (31 - j)) 1) rest

-- a marked compartment has a word
marked-below : (bits : List ℕ) (c : ℕ) → is_marked bits c ≡ true → c / 32 < length bits
marked-below bits c h = elim (cases_lt (c / 32) (length bits)) [ inl l ↦ l | inr past ↦ absurd (false≢true (sym (past-members bits c past) ∙ h)) ]

pub words-members : (bits : List ℕ) → IsBitmap bits → words (members bits) ≡ length bits
words-members bits is =
    let le : words (members bits) ≤ length bits = words-le (members bits) (length bits) (λ c h. marked-below bits c (sym (has_comp-members bits is.few c) ∙ h)) in
    elim (cases_eq (length bits) 0) [
      | inl none ↦ omega arith
      | inr some ↦ (let ge = reaches (length bits - 1) (omega arith) in omega arith)
    ]
  where
    reaches : (n : ℕ) → length bits ≡ n + 1 → n < words (members bits)
    reaches n e =
        let bit = some_bit 32 (get_or bits n 0) (is.fits n) (omega arith) (is.used n e) in
        let c = 32 * n + (31 - bit.0) in
        let turn : 31 - (31 - bit.0) ≡ bit.0 = omega (arith, bit.1) in
        let marked : has_comp (members bits) c ≡ true =
        has_comp-members bits is.few c ∙ marked_at bits n (31 - bit.0) (omega arith) ∙ ap (λ (j : ℕ). eqb (bit_at (get_or bits n 0) j) 1) turn ∙ eq-eqb (bit_at (get_or bits n 0) bit.0) 1 bit.2 in
        let l = words-gt (members bits) c marked in
        omega arith

word_at-members : (bits : List ℕ) → IsBitmap bits → (k : ℕ) → word_at (members bits) k ≡ get_or bits k 0
word_at-members bits is k =
    same_from_bits_below 32 (word_at (members bits) k) (get_or bits k 0) (word_at-lt (members bits) k) (is.fits k) (λ i l.
    let j = 31 - i in
    let turn : 31 - (31 - i) ≡ i = omega arith in
    ap (bit_at (word_at (members bits) k)) (sym turn) ∙ bit_at-word_at (members bits) k (31 - i) (omega arith)
    ∙ ap digit (has_comp-members bits is.few (32 * k + (31 - i)) ∙ marked_at bits k (31 - i) (omega arith))
    ∙ digit-is (bit_at (get_or bits k 0) (31 - (31 - i))) (bit_at-lt (get_or bits k 0) (31 - (31 - i)))
    ∙ ap (bit_at (get_or bits k 0)) turn)

-- the bitmap of its members is the bitmap
pub bitmap_of-members : (bits : List ℕ) → IsBitmap bits → bitmap_of (members bits) ≡ bits
bitmap_of-members bits is =
    let count = words-members bits is in
    ext_get_or 0 (bitmap_of (members bits)) bits (length-bitmap_of (members bits) ∙ count) (λ k l.
    get_or-bitmap_of (members bits) k (omega (arith, length-bitmap_of (members bits))) ∙ word_at-members bits is k)
