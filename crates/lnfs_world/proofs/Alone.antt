-- A row of a list in which no two clash clashes with none of another identifier.
use Rattle.std.proofs.Common.{◌≡◌, Bool, true, false, ◌&&◌, not, List, [], ◌∷◌, Some, refl, subst, arith}
use Rattle.std.specs.List.{find, AllByRecursion}
use Rattle.lnfs_world.specs.Rows.{Apart}
use Rattle.lnfs_world.specs.World.{Id, same_id}
use Rattle.lnfs_world.proofs.Keys.{id_itself}
use Rattle.lnfs_world.proofs.Rows.{all_weaker, all_find}

module _ {X : Type 0} (clash : X → X → Bool) (key : X → Id) (turn : (x y : X) → clash x y ≡ clash y x) where
  pub alone : (q : X → Bool) (xs : List X) (x : X) → Apart clash xs → find q xs ≡ Some x → AllByRecursion (λ y. (clash x y && not (same_id (key x) (key y))) ≡ false) xs
  alone q [] x apart found = tt
  alone q (y ∷ ys) x apart found = at (q y) refl (alone q ys x apart.1)
    where
      at : (b : Bool) → q y ≡ b → (find q ys ≡ Some x → AllByRecursion (λ y. (clash x y && not (same_id (key x) (key y))) ≡ false) ys) → AllByRecursion (λ y. (clash x y && not (same_id (key x) (key y))) ≡ false) (y ∷ ys)
      at true is rest =
          let same : y ≡ x = grind (arith, is) in
          subst (λ z. AllByRecursion (λ y. (clash z y && not (same_id (key z) (key y))) ≡ false) (y ∷ ys)) same
          (grind (arith, id_itself (key y)), all_weaker _ _ (λ z none. grind (arith, none)) ys apart.0)
      at false is rest =
          let later : find q ys ≡ Some x = grind (arith, is) in
          let none = (all_find _ q ys x apart.0 later).0 in
          (grind (arith, turn x y, none), rest later)
