-- Rows that are seen through a view.
use Rattle.std.proofs.Common.{◌≡◌, Bool, true, false, List, [], ◌∷◌, refl, arith}
use Rattle.std.specs.Prelude.{map, filter, find, option_map}
use Rattle.std.specs.List.{list_any}

module _ {X Y : Type 0} (f : X → Y) where
  pub find-map : (q : Y → Bool) (xs : List X) → find q (map f xs) ≡ option_map f (find (λ x. q (f x)) xs)
  find-map q [] = refl
  find-map q (x ∷ xs) = grind (arith, find-map q xs)

  -- rows that are left out change nothing where they fail the test
  pub find-filtered : (q : Y → Bool) (p : X → Bool) → ((x : X) → p x ≡ false → q (f x) ≡ false) → (xs : List X) → find q (map f (filter p xs)) ≡ find q (map f xs)
  find-filtered q p misses [] = refl
  find-filtered q p misses (x ∷ xs) = at (p x) refl (find-filtered q p misses xs)
    where
      at : (b : Bool) → p x ≡ b → find q (map f (filter p xs)) ≡ find q (map f xs) → find q (map f (filter p (x ∷ xs))) ≡ find q (map f (x ∷ xs))
      at true is rest = grind (arith, is, rest)
      at false is rest = grind (arith, is, rest, misses x is)

  pub any-map : (q : Y → Bool) (xs : List X) → list_any q (map f xs) ≡ list_any (λ x. q (f x)) xs
  any-map q [] = refl
  any-map q (x ∷ xs) = grind (arith, any-map q xs)

  pub filter-map : (q : Y → Bool) (xs : List X) → filter q (map f xs) ≡ map f (filter (λ x. q (f x)) xs)
  filter-map q [] = refl
  filter-map q (x ∷ xs) = grind (arith, filter-map q xs)
