-- The words of the tables are the bits of their attributes.
use Rattle.std.proofs.Common.{◌≡◌, ℕ, ◌<◌, zero, suc, cond, Bool, true, false, not, [], ◌∷◌, refl, ap, sym, ◌∙◌, arith, inl, inr}
use Rattle.std.specs.Prelude.{◌&&◌, ◌↔◌, IsTrue}
use Rattle.std.proofs.lemmas.Bool.{cases_lt}
use Rattle.lnfs_attrs.specs.Bitmaps.{wide, has_attr}
use Rattle.lnfs_attrs.specs.Attributes.{is_listed, is_inner, is_settable, AllAsked, is_answered}
use Rattle.lnfs_attrs.specs.declared.bitmap.Bitmap.{Bitmap}
use Rattle.lnfs_attrs.proofs.Below.{has_below}
use Rattle.lnfs_attrs.proofs.Sizes.{listed_below, settable_below}

abbrev same : Bool → Bool → Bool
same true b = b
same false b = not b

are_same : (a b : Bool) → same a b ≡ true → a ≡ b
are_same true true e = refl
are_same true false e = absurd cc
are_same false true e = absurd cc
are_same false false e = refl

-- two tests agree below a number
abbrev agree : (ℕ → Bool) → (ℕ → Bool) → ℕ → Bool
agree f g zero = true
agree f g (suc k) = cond (same (f k) (g k)) (agree f g k) false

first_of : (a b : Bool) → cond a b false ≡ true → (a ≡ true) × (b ≡ true)
first_of true b e = (refl, e)
first_of false b e = absurd cc

agree_at : (f g : ℕ → Bool) (k n : ℕ) → agree f g k ≡ true → n < k → f n ≡ g n
agree_at f g zero n e lt = absurd (omega arith)
agree_at f g (suc k) n e lt =
    let both = first_of (same (f k) (g k)) (agree f g k) e in
    elim (cases_lt n k) [
      | inl low ↦ agree_at f g k n both.1 low
      | inr le ↦ let here : n ≡ k = omega (arith, lt, le) in ap f here ∙ are_same (f k) (g k) both.0 ∙ ap g (sym here)
    ]

-- and where both fail beyond it, they agree
agree_all : (f g : ℕ → Bool) (k : ℕ) → agree f g k ≡ true → ((n : ℕ) → f n ≡ true → n < k) → ((n : ℕ) → g n ≡ true → n < k) → (n : ℕ) → f n ≡ g n
agree_all f g k e below_f below_g n =
    elim (cases_lt n k) [
      | inl lt ↦ agree_at f g k n e lt
      | inr le ↦ neither (f n) (g n) (λ t. omega (arith, below_f n t, le)) (λ t. omega (arith, below_g n t, le))
    ]
  where
    neither : (a b : Bool) → (a ≡ true → ⊥) → (b ≡ true → ⊥) → a ≡ b
    neither false false x y = refl
    neither true b x y = absurd (x refl)
    neither false true x y = absurd (y refl)

and_left : (a b : Bool) → (a && b) ≡ true → a ≡ true
and_left true b e = refl
and_left false b e = e

abbrev supported : Bitmap
supported = wide (0x00180fff ∷ 0x00b0817a ∷ 0x00010800 ∷ [])

abbrev outer : Bitmap
outer = wide (0x00180fe7 ∷ 0x00800170 ∷ 0x00010800 ∷ [])

abbrev settable : Bitmap
settable = wide (0x00000010 ∷ 0x00000002 ∷ 0x00010000 ∷ [])

pub supported_is : (n : ℕ) → has_attr supported n ≡ is_listed n
unfolding is_listed
supported_is n = agree_all (has_attr supported) is_listed 256 refl (λ m e. has_below supported m refl e) (λ m e. omega (arith, listed_below m e)) n

pub settable_is : (n : ℕ) → has_attr settable n ≡ is_settable n
unfolding is_settable
settable_is n = agree_all (has_attr settable) is_settable 256 refl (λ m e. has_below settable m refl e) (λ m e. omega (arith, settable_below m e)) n

pub outer_is : (n : ℕ) → has_attr outer n ≡ (is_listed n && not (is_inner n))
unfolding is_listed is_inner
outer_is n =
    agree_all (has_attr outer) (λ m. is_listed m && not (is_inner m)) 256 refl (λ m e. has_below outer m refl e)
    (λ m e. omega (arith, listed_below m (and_left (is_listed m) (not (is_inner m)) e))) n

-- ---- what a set has in common with a table

swapped : (b w : Bitmap) (r : Bool) (test : ℕ → Bool) → ((n : ℕ) → has_attr w n ≡ test n) → (IsTrue r ↔ AllAsked b (λ n. has_attr w n)) → IsTrue r ↔ AllAsked b test
swapped b w r test same_test given = (λ t n e. sym (same_test n) ∙ given.0 t n e, λ all. given.1 (λ n e. same_test n ∙ all n e))

pub all_listed : (b w : Bitmap) (r : Bool) → w ≡ supported → (IsTrue r ↔ AllAsked b (λ n. has_attr w n)) → IsTrue r ↔ AllAsked b is_listed
all_listed b w r is = swapped b w r is_listed (λ n. ap (λ (x : Bitmap). has_attr x n) is ∙ supported_is n)

pub all_settable : (b w : Bitmap) (r : Bool) → w ≡ settable → (IsTrue r ↔ AllAsked b (λ n. has_attr w n)) → IsTrue r ↔ AllAsked b is_settable
all_settable b w r is = swapped b w r is_settable (λ n. ap (λ (x : Bitmap). has_attr x n) is ∙ settable_is n)

order_1 : (x y : Bool) → (x && y) ≡ (y && (x && true))
order_1 true true = refl
order_1 true false = refl
order_1 false true = refl
order_1 false false = refl

order_2 : (x y z : Bool) → (x && (y && not z)) ≡ (y && (x && not z))
order_2 true true z = refl
order_2 true false z = refl
order_2 false true z = refl
order_2 false false z = refl

-- all that are asked of the table
pub whole_mask : (b w : Bitmap) (n : ℕ) → w ≡ supported → (has_attr b n && has_attr w n) ≡ (is_listed n && is_answered b true n)
whole_mask b w n is = ap (λ (x : Bool). has_attr b n && x) (ap (λ (x : Bitmap). has_attr x n) is ∙ supported_is n) ∙ order_1 (has_attr b n) (is_listed n)

-- and without the inner ones
pub outer_mask : (b w : Bitmap) (n : ℕ) → w ≡ outer → (has_attr b n && has_attr w n) ≡ (is_listed n && is_answered b false n)
outer_mask b w n is =
    ap (λ (x : Bool). has_attr b n && x) (ap (λ (x : Bitmap). has_attr x n) is ∙ outer_is n) ∙ order_2 (has_attr b n) (is_listed n) (is_inner n)
