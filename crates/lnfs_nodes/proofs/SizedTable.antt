-- The words of the attributes whose values have one size for all nodes are the bits of these.
use Rattle.std.proofs.Common.{◌≡◌, ℕ, ◌<◌, zero, suc, cond, Bool, true, false, not, [], ◌∷◌, refl, ap, sym, ◌∙◌, arith, inl, inr}
use Rattle.std.specs.Prelude.{◌==◌, ◌&&◌}
use Rattle.std.proofs.lemmas.Bool.{cases_lt}
use Rattle.lnfs_attrs.specs.declared.bitmap.Bitmap.{Bitmap}
use Rattle.lnfs_attrs.specs.declared.numbers.TheConstants.{SEC_LABEL}
use Rattle.lnfs_attrs.specs.Bitmaps.{wide, has_attr}
use Rattle.lnfs_attrs.specs.Attributes.{is_listed}
use Rattle.lnfs_attrs.proofs.Below.{has_below}
use Rattle.lnfs_attrs.proofs.Sizes.{listed_below}
use Rattle.lnfs_nodes.specs.Masks.{is_sized}

abbrev same : Bool → Bool → Bool
same true b = b
same false b = not b

are_same : (a b : Bool) → same a b ≡ true → a ≡ b
are_same true true e = refl
are_same true false e = absurd cc
are_same false true e = absurd cc
are_same false false e = refl

-- two tests agree below a number
abbrev agree : (ℕ → Bool) → (ℕ → Bool) → ℕ → Bool
agree f g zero = true
agree f g (suc k) = cond (same (f k) (g k)) (agree f g k) false

first_of : (a b : Bool) → cond a b false ≡ true → (a ≡ true) × (b ≡ true)
first_of true b e = (refl, e)
first_of false b e = absurd cc

agree_at : (f g : ℕ → Bool) (k n : ℕ) → agree f g k ≡ true → n < k → f n ≡ g n
agree_at f g zero n e lt = absurd (omega arith)
agree_at f g (suc k) n e lt =
    let both = first_of (same (f k) (g k)) (agree f g k) e in
    elim (cases_lt n k) [
      | inl low ↦ agree_at f g k n both.1 low
      | inr le ↦ let here : n ≡ k = omega (arith, lt, le) in ap f here ∙ are_same (f k) (g k) both.0 ∙ ap g (sym here)
    ]

-- and where both fail beyond it, they agree
agree_all : (f g : ℕ → Bool) (k : ℕ) → agree f g k ≡ true → ((n : ℕ) → f n ≡ true → n < k) → ((n : ℕ) → g n ≡ true → n < k) → (n : ℕ) → f n ≡ g n
agree_all f g k e below_f below_g n =
    elim (cases_lt n k) [
      | inl lt ↦ agree_at f g k n e lt
      | inr le ↦ neither (f n) (g n) (λ t. omega (arith, below_f n t, le)) (λ t. omega (arith, below_g n t, le))
    ]
  where
    neither : (a b : Bool) → (a ≡ true → ⊥) → (b ≡ true → ⊥) → a ≡ b
    neither false false x y = refl
    neither true b x y = absurd (x refl)
    neither false true x y = absurd (y refl)

and_left : (a b : Bool) → (a && b) ≡ true → a ≡ true
and_left true b e = refl
and_left false b e = e

abbrev sized : Bitmap
sized = wide (0x00180fff ∷ 0x00b0817a ∷ 0x00000800 ∷ [])

sized_is : (n : ℕ) → has_attr sized n ≡ (is_listed n && not (n == SEC_LABEL))
unfolding is_listed
sized_is n =
    agree_all (has_attr sized) (λ m. is_listed m && not (m == SEC_LABEL)) 256 refl (λ m e. has_below sized m refl e)
    (λ m e. omega (arith, listed_below m (and_left (is_listed m) (not (m == SEC_LABEL)) e))) n

order : (x y z : Bool) → (x && (y && z)) ≡ (y && (z && x))
order true true true = refl
order true true false = refl
order true false z = refl
order false true true = refl
order false true false = refl
order false false z = refl

-- what a set has in common with these words
pub sized_mask : (mask w : Bitmap) (n : ℕ) → w ≡ sized → (has_attr mask n && has_attr w n) ≡ (is_listed n && is_sized mask n)
sized_mask mask w n is = ap (λ (x : Bool). has_attr mask n && x) (ap (λ (x : Bitmap). has_attr x n) is ∙ sized_is n) ∙ order (has_attr mask n) (is_listed n) (not (n == SEC_LABEL))
