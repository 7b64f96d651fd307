-- One bitmap has all the bits of another.
use Rattle.std.proofs.Common.{◌≡◌, ℕ, ◌+◌, ◌-◌, ◌*◌, ◌/◌, ◌%◌, ◌^◌, ◌<◌, true, false, eqb, List, slice_index, sym, ap, ◌∙◌, arith, min, bit_and, inl, inr}
use Rattle.std.specs.List.{list_all}
use Rattle.std.specs.Int.{bit_at, bit_not, w32}
use Rattle.std.proofs.lemmas.Bool.{cases_eq, eqb-true, eq-eqb, false_from_ne_true}
use Rattle.std.proofs.lemmas.Nat.{and_le_l}
use Rattle.std.proofs.lemmas.Nat.Bits.{bit_at-zero, bit_at-lt, bit_at_and, bit_at_not, same_from_bits_below}
use Rattle.lnfs_calipso.specs.Label.{has_comp}
use Rattle.lnfs_calipso.specs.Bitmap.{is_marked, members, bitmap_of, IsBitmap}
use Rattle.lnfs_calipso.proofs.Among.{has_comp-members}
use Rattle.lnfs_calipso.proofs.Members.{among, all_among}
use Rattle.lnfs_calipso.proofs.Words.{marked_at, bitmap_of-members}
use Rattle.std.specs.Str.{bytes_eq}
use Rattle.std.proofs.lemmas.Slice.Eq.{bytes_eq-Decides}

rest_bit : (l h i : ℕ) → h < 2 ^ 32 → i < 32 → bit_at (bit_and l (bit_not w32 h)) i ≡ min (bit_at l i) (1 - bit_at h i)
rest_bit l h i hl il = bit_at_and l (bit_not w32 h) i ∙ ap (λ (b : ℕ). min (bit_at l i) b) (bit_at_not w32 h i hl il)

none_missing : (a b : ℕ) → b < 2 → min a (1 - b) ≡ 0 → a ≡ 1 → b ≡ 1
none_missing a b bl e one = omega arith

bit_kept : (l h i : ℕ) → h < 2 ^ 32 → i < 32 → bit_and l (bit_not w32 h) ≡ 0 → bit_at l i ≡ 1 → bit_at h i ≡ 1
bit_kept l h i hl il none one =
    none_missing (bit_at l i) (bit_at h i) (bit_at-lt h i) (sym (rest_bit l h i hl il) ∙ ap (λ (n : ℕ). bit_at n i) none ∙ bit_at-zero i) one

no_rest : (a b : ℕ) → a < 2 → b < 2 → (a ≡ 1 → b ≡ 1) → min a (1 - b) ≡ 0
no_rest a b al bl h = elim (cases_eq a 1) [ inl one ↦ omega (arith, h one) | inr other ↦ omega arith ]

all_kept : (l h : ℕ) → l < 2 ^ 32 → h < 2 ^ 32 → ((i : ℕ) → i < 32 → bit_at l i ≡ 1 → bit_at h i ≡ 1) → bit_and l (bit_not w32 h) ≡ 0
all_kept l h ll hl kept =
    same_from_bits_below 32 (bit_and l (bit_not w32 h)) 0 (omega (arith, and_le_l l (bit_not w32 h))) (omega arith)
    (λ i il. rest_bit l h i hl il ∙ no_rest (bit_at l i) (bit_at h i) (bit_at-lt l i) (bit_at-lt h i) (kept i il) ∙ sym (bit_at-zero i))

pub covers_all : (high low : List ℕ) → IsBitmap high → IsBitmap low → ((k : ℕ) → bit_and (slice_index low k) (bit_not w32 (slice_index high k)) ≡ 0) → list_all (has_comp (members high)) (members low) ≡ true
covers_all high low is has none =
    all_among (members high) (members low) (λ c h.
    let marked = eqb-true (bit_at (slice_index low (c / 32)) (31 - c % 32)) 1 (sym (has_comp-members low has.few c) ∙ h) in
    has_comp-members high is.few c
    ∙ eq-eqb (bit_at (slice_index high (c / 32)) (31 - c % 32)) 1 (bit_kept (slice_index low (c / 32)) (slice_index high (c / 32)) (31 - c % 32) (is.fits (c / 32)) (omega arith) (none (c / 32)) marked))

-- the compartment of bit i of word k
member_at : (bits : List ℕ) → IsBitmap bits → (k i : ℕ) → i < 32 → has_comp (members bits) (32 * k + (31 - i)) ≡ eqb (bit_at (slice_index bits k) i) 1
member_at bits is k i l =
    let turn : 31 - (31 - i) ≡ i = omega arith in
    has_comp-members bits is.few (32 * k + (31 - i)) ∙ marked_at bits k (31 - i) (omega arith) ∙ ap (λ (j : ℕ). eqb (bit_at (slice_index bits k) j) 1) turn

pub covers_not : (high low : List ℕ) → IsBitmap high → IsBitmap low → (k : ℕ) → (bit_and (slice_index low k) (bit_not w32 (slice_index high k)) ≡ 0 → ⊥) → list_all (has_comp (members high)) (members low) ≡ false
covers_not high low is has k missing =
    false_from_ne_true (list_all (has_comp (members high)) (members low)) (λ all.
    missing (all_kept (slice_index low k) (slice_index high k) (has.fits k) (is.fits k) (λ i il one.
    eqb-true (bit_at (slice_index high k) i) 1
    (sym (member_at high is k i il)
    ∙ among (members high) (members low) all (32 * k + (31 - i)) (member_at low has k i il ∙ eq-eqb (bit_at (slice_index low k) i) 1 one)))))

-- bitmaps of equal members are equal
pub same_bitmaps : (a b : List ℕ) → IsBitmap a → IsBitmap b → bytes_eq (members a) (members b) ≡ true → a ≡ b
same_bitmaps a b is has h = sym (bitmap_of-members a is) ∙ ap bitmap_of ((bytes_eq-Decides (members a) (members b)).0 h) ∙ bitmap_of-members b has

pub same_members : (a b : List ℕ) → a ≡ b → bytes_eq (members a) (members b) ≡ true
same_members a b e = (bytes_eq-Decides (members a) (members b)).1 (ap members e)
