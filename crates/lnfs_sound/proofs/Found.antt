-- Rows that rise, found by their identifiers.
use Rattle.std.proofs.Common.{◌≡◌, ℕ, zero, suc, ◌<◌, Bool, true, false, cond, List, [], ◌∷◌, Some, None, refl, sym, ap, ◌∙◌, subst, length, get_or, arith}
use Rattle.std.specs.List.{AllByRecursion, find}
use Rattle.std.specs.declared.cmp.Ordering.TheVariants.{Less}
use Rattle.std.proofs.lemmas.Bool.Decides.{nat_tests}
use Rattle.lnfs_world.specs.Rows.{Rising}
use Rattle.lnfs_world.specs.World.{Id, id_order, same_id}
use Rattle.lnfs_world.proofs.Rows.{all_two}
use Rattle.lnfs_world.proofs.Keys.{id_same, id_itself}
use Rattle.lnfs_fit.proofs.Indexed.{all_at}

-- a row that lies before another has another key
apart_less : (a b : Id) → id_order a b ≡ Less → same_id b a ≡ false
apart_less a b less = grind (arith, nat_tests)

module _ {X : Type 0} (id : X → Id) where
  found_itself : (xs : List X) → Rising (λ a b. id_order (id a) (id b)) xs → AllByRecursion (λ x. find (λ y. same_id (id x) (id y)) xs ≡ Some x) xs
  found_itself [] rising = tt
  found_itself (x ∷ xs) rising = (
    ap (λ b. cond b (Some x) (find (λ y. same_id (id x) (id y)) xs)) (id_itself (id x)),
    all_two _ _ _ (λ y less found. ap (λ b. cond b (Some x) (find (λ z. same_id (id y) (id z)) xs)) (apart_less (id x) (id y) less) ∙ found) xs rising.0 (found_itself xs rising.1),
  )

  module _ (d : X) where
    pub found_at : (xs : List X) → Rising (λ a b. id_order (id a) (id b)) xs → (k : ℕ) → k < length xs → (i : Id) → id (get_or xs k d) ≡ i → find (λ y. same_id i (id y)) xs ≡ Some (get_or xs k d)
    found_at xs rising k less i is = subst (λ j. find (λ y. same_id j (id y)) xs ≡ Some (get_or xs k d)) is (all_at d (λ x. find (λ y. same_id (id x) (id y)) xs ≡ Some x) xs (found_itself xs rising) k less)

    pub missing_at : (xs : List X) (i : Id) → ((k : ℕ) → k < length xs → id (get_or xs k d) ≡ i → ⊥) → find (λ y. same_id i (id y)) xs ≡ None
    missing_at [] i missing = refl
    missing_at (x ∷ xs) i missing = at (same_id i (id x)) refl (missing_at xs i (λ k less. missing (suc k) (omega arith)))
      where
        at : (b : Bool) → same_id i (id x) ≡ b → find (λ y. same_id i (id y)) xs ≡ None → find (λ y. same_id i (id y)) (x ∷ xs) ≡ None
        at true is rest = absurd (missing zero (omega arith) (sym (id_same i (id x) is)))
        at false is rest = ap (λ b. cond b (Some x) (find (λ y. same_id i (id y)) xs)) is ∙ rest
