-- Rows of which no two clash.
use Rattle.std.proofs.Common.{◌≡◌, Bool, true, false, cond, not, ◌&&◌, List, [], ◌∷◌, refl, ◌∙◌, arith}
use Rattle.std.specs.Prelude.{filter}
use Rattle.std.specs.List.{AllByRecursion}
use Rattle.std.specs.Ordering.{match_ordering, is_eq}
use Rattle.std.specs.declared.cmp.Ordering.{Ordering}
use Rattle.std.specs.declared.cmp.Ordering.TheVariants.{Less, Equal, Greater}
use Rattle.lnfs_world.specs.Rows.{inserted, Rising, Apart}
use Rattle.lnfs_world.proofs.Rows.{all_left, all_two}
use Rattle.lnfs_world.proofs.Sorted.{all_inserted}

module _ {X : Type 0} (clash : X → X → Bool) where
  pub apart_filter : (q : X → Bool) (xs : List X) → Apart clash xs → Apart clash (filter q xs)
  apart_filter q [] apart = tt
  apart_filter q (x ∷ xs) apart = elim (q x) as (λ b. Apart clash (cond b (x ∷ filter q xs) (filter q xs))) [ true ↦ (all_left _ q xs apart.0, apart_filter q xs apart.1) | false ↦ apart_filter q xs apart.1 ]

  -- A row that is set, and that clashes with none of another key.
  pub apart_inserted : (R : X → X → Ordering) → ((x y : X) → clash x y ≡ clash y x) → ((a b c : X) → R a b ≡ Less → R b c ≡ Less → R a c ≡ Less) → ((a b c : X) → R a b ≡ Equal → R b c ≡ R a c) → (r : X) (xs : List X) → Rising R xs → AllByRecursion (λ x. (clash r x && not (is_eq (R r x))) ≡ false) xs → Apart clash xs → Apart clash (inserted R r xs)
  apart_inserted R turn transitive tied r [] rising alone apart = (tt, tt)
  apart_inserted R turn transitive tied r (x ∷ xs) rising alone apart = at (R r x) refl (apart_inserted R turn transitive tied r xs rising.1 alone.1 apart.1)
    where
      at : (o : Ordering) → R r x ≡ o → Apart clash (inserted R r xs) → Apart clash (match_ordering o (r ∷ x ∷ xs) (r ∷ xs) (x ∷ inserted R r xs))
      at Less is rest = ((grind (arith, alone.0), all_two _ _ _ (λ y lt none. grind (arith, transitive r x y is lt)) xs rising.0 alone.1), apart)
      at Equal is rest = (all_two _ _ _ (λ y lt none. grind (arith, tied r x y is)) xs rising.0 alone.1, apart.1)
      at Greater is rest = (all_inserted R (λ y. clash x y ≡ false) r xs (turn x r ∙ grind (arith, alone.0)) apart.0, rest)
