-- Rows in the order of their keys.
use Rattle.std.proofs.Common.{◌≡◌, Bool, true, false, ◌||◌, cond, List, [], ◌∷◌, Some, refl, sym, ap, ◌∙◌, arith}
use Rattle.std.specs.Prelude.{filter}
use Rattle.std.specs.List.{AllByRecursion, find, list_any}
use Rattle.std.specs.Ordering.{match_ordering, is_eq}
use Rattle.std.specs.declared.cmp.Ordering.{Ordering}
use Rattle.std.specs.declared.cmp.Ordering.TheVariants.{Less, Equal, Greater}
use Rattle.lnfs_world.specs.Rows.{kept, updated, inserted, Rising}
use Rattle.lnfs_world.proofs.Rows.{kept_within, kept_twice, all_weaker, all_updated, all_filter}

module _ {X : Type 0} (R : X → X → Ordering) where
  pub inserted_front : (r : X) (xs : List X) → AllByRecursion (λ x. R r x ≡ Less) xs → inserted R r xs ≡ r ∷ xs
  inserted_front r [] all = refl
  inserted_front r (x ∷ xs) all = grind (arith, all.0)

  all_kept : (P : X → Type 0) (p : X → Bool) (f : X → X) → ((x : X) → P x → P (f x)) → (xs : List X) → AllByRecursion P xs → AllByRecursion P (kept p f xs)
  all_kept P p f same [] all = tt
  all_kept P p f same (x ∷ xs) all = elim (p x) as (λ b. AllByRecursion P (cond b (f x ∷ kept p f xs) (kept p f xs))) [ true ↦ (same x all.0, all_kept P p f same xs all.1) | false ↦ all_kept P p f same xs all.1 ]

  pub all_inserted : (P : X → Type 0) (r : X) (xs : List X) → P r → AllByRecursion P xs → AllByRecursion P (inserted R r xs)
  all_inserted P r [] here all = (here, tt)
  all_inserted P r (x ∷ xs) here all = elim (R r x) as (λ o. AllByRecursion P (match_ordering o (r ∷ x ∷ xs) (r ∷ xs) (x ∷ inserted R r xs))) [ Less ↦ (here, all) | Equal ↦ (here, all.1) | Greater ↦ (all.0, all_inserted P r xs here all.1) ]

  pub find-inserted : (q : X → Bool) (r : X) → ((x : X) → R r x ≡ Equal → q x ≡ q r) → ((x : X) → q r ≡ true → q x ≡ true → R r x ≡ Equal) → (xs : List X) → find q (inserted R r xs) ≡ cond (q r) (Some r) (find q xs)
  find-inserted q r by_key one [] = refl
  find-inserted q r by_key one (x ∷ xs) = at (R r x) refl (find-inserted q r by_key one xs)
    where
      at : (o : Ordering) → R r x ≡ o → find q (inserted R r xs) ≡ cond (q r) (Some r) (find q xs) → find q (inserted R r (x ∷ xs)) ≡ cond (q r) (Some r) (find q (x ∷ xs))
      at Less is rest = grind arith
      at Equal is rest = grind (arith, by_key x is)
      at Greater is rest = grind (arith, one x)

  module _ (p : X → Bool) (f : X → X) (r : X) (by_key : (x : X) → R r x ≡ Equal → p x ≡ p r) where
    pub inserted_unseen : p r ≡ false → (xs : List X) → kept p f (inserted R r xs) ≡ kept p f xs
    inserted_unseen hidden [] = grind arith
    inserted_unseen hidden (x ∷ xs) = at (R r x) refl (inserted_unseen hidden xs)
      where
        at : (o : Ordering) → R r x ≡ o → kept p f (inserted R r xs) ≡ kept p f xs → kept p f (inserted R r (x ∷ xs)) ≡ kept p f (x ∷ xs)
        at Less is rest = grind arith
        at Equal is rest = grind (arith, by_key x is)
        at Greater is rest = grind arith

    pub inserted_seen : ((x : X) → p (f x) ≡ p x) → ((x : X) → f (f x) ≡ f x) → ((x : X) → R r (f x) ≡ R r x) → ((a b : X) → R r a ≡ Less → R a b ≡ Less → R r b ≡ Less) → (xs : List X) → Rising R xs → kept p f (inserted R r xs) ≡ kept p f (inserted R r (kept p f xs))
    inserted_seen seen again key transitive [] rising = refl
    inserted_seen seen again key transitive (x ∷ xs) rising = at (R r x) refl (inserted_seen seen again key transitive xs rising.1)
      where
        at : (o : Ordering) → R r x ≡ o → kept p f (inserted R r xs) ≡ kept p f (inserted R r (kept p f xs)) → kept p f (inserted R r (x ∷ xs)) ≡ kept p f (inserted R r (kept p f (x ∷ xs)))
        at Less is rest = grind (arith, kept_twice p f p f (λ x e. e) seen again xs, seen x, again x, key x, inserted_front r (kept p f xs) (all_kept (λ y. R r y ≡ Less) p f (λ y lt. key y ∙ lt) xs (all_weaker _ _ (λ y lt. transitive x y is lt) xs rising.0)))
        at Equal is rest =
            let hidden : p r ≡ false → kept p f (inserted R r (kept p f xs)) ≡ kept p f (kept p f xs) = λ u. inserted_unseen u (kept p f xs) in
            grind (arith, kept_twice p f p f (λ x e. e) seen again xs, seen x, again x, key x, by_key x is, hidden)
        at Greater is rest = grind (arith, seen x, again x, key x)

  pub rising_updated : (q : X → Bool) (g : X → X) → ((x y : X) → R (g x) y ≡ R x y) → ((x y : X) → R x (g y) ≡ R x y) → (xs : List X) → Rising R xs → Rising R (updated q g xs)
  rising_updated q g left right [] rising = tt
  rising_updated q g left right (x ∷ xs) rising = at (q x) (rising_updated q g left right xs rising.1)
    where
      at : (b : Bool) → Rising R (updated q g xs) → Rising R (cond b (g x ∷ xs) (x ∷ updated q g xs))
      at true rest = (all_weaker _ _ (λ y lt. left x y ∙ lt) xs rising.0, rising.1)
      at false rest = (all_updated _ q g xs (λ y h lt. right x y ∙ lt) rising.0, rest)

  pub rising_filter : (q : X → Bool) (xs : List X) → Rising R xs → Rising R (filter q xs)
  rising_filter q [] rising = tt
  rising_filter q (x ∷ xs) rising = elim (q x) as (λ b. Rising R (cond b (x ∷ filter q xs) (filter q xs))) [ true ↦ (all_weaker _ _ (λ y both. both.1) _ (all_filter _ q xs rising.0), rising_filter q xs rising.1) | false ↦ rising_filter q xs rising.1 ]

  pub rising_inserted : ((a b : X) → R a b ≡ Greater → R b a ≡ Less) → ((a b c : X) → R a b ≡ Less → R b c ≡ Less → R a c ≡ Less) → ((a b c : X) → R a b ≡ Equal → R b c ≡ R a c) → (r : X) (xs : List X) → Rising R xs → Rising R (inserted R r xs)
  rising_inserted turned transitive tied r [] rising = (tt, tt)
  rising_inserted turned transitive tied r (x ∷ xs) rising = at (R r x) refl (rising_inserted turned transitive tied r xs rising.1)
    where
      at : (o : Ordering) → R r x ≡ o → Rising R (inserted R r xs) → Rising R (match_ordering o (r ∷ x ∷ xs) (r ∷ xs) (x ∷ inserted R r xs))
      at Less is rest = ((is, all_weaker _ _ (λ y lt. transitive r x y is lt) xs rising.0), rising)
      at Equal is rest = (all_weaker _ _ (λ y lt. sym (tied r x y is) ∙ lt) xs rising.0, rising.1)
      at Greater is rest = (all_inserted (λ y. R x y ≡ Less) r xs (turned r x is) rising.0, rest)

  pub rising_kept : (p : X → Bool) (xs : List X) → Rising R xs → Rising R (kept p (λ x. x) xs)
  rising_kept p [] rising = tt
  rising_kept p (x ∷ xs) rising = elim (p x) as (λ b. Rising R (cond b (x ∷ kept p (λ x. x) xs) (kept p (λ x. x) xs))) [ true ↦ (all_kept _ p (λ x. x) (λ x h. h) xs rising.0, rising_kept p xs rising.1) | false ↦ rising_kept p xs rising.1 ]

  -- A row that is set is seen in the same way over what was seen of more.
  pub inserted_within : (p q : X → Bool) (r : X) → ((x : X) → R r x ≡ Equal → p x ≡ p r) → ((a b : X) → R r a ≡ Less → R a b ≡ Less → R r b ≡ Less) → (xs : List X) → Rising R xs → AllByRecursion (λ x. p x ≡ true → q x ≡ true) xs → kept p (λ x. x) (inserted R r xs) ≡ kept p (λ x. x) (inserted R r (kept q (λ x. x) xs))
  inserted_within p q r by_key transitive xs rising fewer =
      inserted_seen p (λ x. x) r by_key (λ x. refl) (λ x. refl) (λ x. refl) transitive xs rising
      ∙ ap (λ ys. kept p (λ x. x) (inserted R r ys)) (sym (kept_within p (λ x. x) q (λ x. x) (λ x. refl) (λ x. refl) xs fewer))
      ∙ sym (inserted_seen p (λ x. x) r by_key (λ x. refl) (λ x. refl) (λ x. refl) transitive (kept q (λ x. x) xs) (rising_kept q xs rising))

  -- a row that has no key of another is one more
  pub any_inserted : (q : X → Bool) (r : X) (xs : List X) → AllByRecursion (λ x. is_eq (R r x) ≡ false) xs → list_any q (inserted R r xs) ≡ (q r || list_any q xs)
  any_inserted q r [] apart = refl
  any_inserted q r (x ∷ xs) apart = at (R r x) refl (any_inserted q r xs apart.1)
    where
      at : (o : Ordering) → R r x ≡ o → list_any q (inserted R r xs) ≡ (q r || list_any q xs) → list_any q (inserted R r (x ∷ xs)) ≡ (q r || list_any q (x ∷ xs))
      at Less is rest = grind arith
      at Equal is rest = grind (arith, apart.0)
      at Greater is rest = grind arith
