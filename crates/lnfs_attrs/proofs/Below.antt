-- No attribute is asked beyond the words of a bitmap.
use Rattle.std.proofs.Common.{◌≡◌, ℕ, ◌<◌, ◌≤◌, ◌/◌, ◌^◌, Bool, true, length, ◌↔◌, IsTrue, refl, arith, inl, inr}
use Rattle.std.proofs.lemmas.Bool.{cases_lt}
use Rattle.std.proofs.lemmas.List.{get_or_past}
use Rattle.std.proofs.lemmas.Nat.{shr_le}
use Rattle.lnfs_attrs.specs.declared.bitmap.Bitmap.{Bitmap}
use Rattle.lnfs_attrs.specs.Bitmaps.{bit, has_attr}
use Rattle.lnfs_attrs.specs.Attributes.{AllAsked}

no_part : (i : ℕ) → 0 / 2 ^ i ≡ 0
no_part i = omega (arith, shr_le 0 i)

pub bit_none : (i : ℕ) → bit 0 i ≡ true → ⊥
bit_none i e = let f = rw (no_part i) at e in absurd cc

pub has_below : (b : Bitmap) (n : ℕ) → length b.words ≡ 8 → has_attr b n ≡ true → n < 256
has_below b n len e =
    elim (cases_lt n 256) [
      | inl lt ↦ lt
      | inr le ↦ absurd (bit_none _ (rw (get_or_past b.words (n / 32) 0 (omega arith)) at e))
    ]

pub all_below : (b : Bitmap) (test : ℕ → Bool) (end : ℕ) → length b.words ≡ 8 → 256 ≤ end → ((n : ℕ) → n < end → has_attr b n ≡ true → test n ≡ true) → AllAsked b test
all_below b test end len le all n e = all n (omega (arith, has_below b n len e)) e

pub is_all : (b : Bitmap) (test : ℕ → Bool) (end : ℕ) → length b.words ≡ 8 → 256 ≤ end → ((n : ℕ) → n < end → has_attr b n ≡ true → test n ≡ true) → IsTrue true ↔ AllAsked b test
is_all b test end len le all = (λ t. all_below b test end len le all, λ t. refl)
