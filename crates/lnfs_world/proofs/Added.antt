-- A row more, wherever it stands.
use Rattle.std.proofs.Common.{◌≡◌, Bool, true, false, List, [], ◌∷◌, ◌||◌, Some, refl, arith}
use Rattle.std.specs.List.{find, list_any, AllByRecursion}
use Rattle.std.specs.Ordering.{is_eq}
use Rattle.std.specs.declared.cmp.Ordering.{Ordering}
use Rattle.std.specs.declared.cmp.Ordering.TheVariants.{Less, Equal, Greater}
use Rattle.lnfs_world.specs.World.{Entry}
use Rattle.lnfs_world.specs.Rows.{inserted}
use Rattle.lnfs_world.proofs.Sorted.{all_inserted}

-- what has to be known of it: what is found, what is there, what holds of all
pub record Added (r : Entry) (old new : List Entry) : Type 0 where
  pub other : (q : Entry → Bool) → q r ≡ false → find q new ≡ find q old
  pub own : (q : Entry → Bool) → list_any q old ≡ false → q r ≡ true → find q new ≡ Some r
  pub some : (q : Entry → Bool) → list_any q new ≡ (q r || list_any q old)
  pub all : (q : Entry → Bool) (b : Bool) → q r ≡ b → AllByRecursion (λ e. q e ≡ b) old → AllByRecursion (λ e. q e ≡ b) new

-- at its place in an order in which no row ties with it
module _ (R : Entry → Entry → Ordering) (r : Entry) where
  other_placed : (q : Entry → Bool) (es : List Entry) → AllByRecursion (λ e. is_eq (R r e) ≡ false) es → q r ≡ false → find q (inserted R r es) ≡ find q es
  other_placed q [] apart fails = grind arith
  other_placed q (e ∷ es) apart fails = at (R r e) refl (other_placed q es apart.1 fails)
    where
      at : (o : Ordering) → R r e ≡ o → find q (inserted R r es) ≡ find q es → find q (inserted R r (e ∷ es)) ≡ find q (e ∷ es)
      at Less is rest = grind arith
      at Equal is rest = grind (arith, apart.0)
      at Greater is rest = grind arith

  own_placed : (q : Entry → Bool) (es : List Entry) → AllByRecursion (λ e. is_eq (R r e) ≡ false) es → list_any q es ≡ false → q r ≡ true → find q (inserted R r es) ≡ Some r
  own_placed q [] apart none passes = grind arith
  own_placed q (e ∷ es) apart none passes = at (R r e) refl (own_placed q es apart.1)
    where
      at : (o : Ordering) → R r e ≡ o → (list_any q es ≡ false → q r ≡ true → find q (inserted R r es) ≡ Some r) → find q (inserted R r (e ∷ es)) ≡ Some r
      at Less is rest = grind arith
      at Equal is rest = grind (arith, apart.0)
      at Greater is rest = grind arith

  some_placed : (q : Entry → Bool) (es : List Entry) → AllByRecursion (λ e. is_eq (R r e) ≡ false) es → list_any q (inserted R r es) ≡ (q r || list_any q es)
  some_placed q [] apart = refl
  some_placed q (e ∷ es) apart = at (R r e) refl (some_placed q es apart.1)
    where
      at : (o : Ordering) → R r e ≡ o → list_any q (inserted R r es) ≡ (q r || list_any q es) → list_any q (inserted R r (e ∷ es)) ≡ (q r || list_any q (e ∷ es))
      at Less is rest = grind arith
      at Equal is rest = grind (arith, apart.0)
      at Greater is rest = grind arith

  pub added_placed : (es : List Entry) → AllByRecursion (λ e. is_eq (R r e) ≡ false) es → Added r es (inserted R r es)
  added_placed es apart = record { other = λ q. other_placed q es apart; own = λ q. own_placed q es apart; some = λ q. some_placed q es apart; all = λ q b. all_inserted R (λ e. q e ≡ b) r es }
