-- How many rows pass a test, where a row comes, is set or goes.
use Rattle.std.proofs.Common.{◌≡◌, ◌≤◌, ◌<◌, ◌+◌, ℕ, Bool, true, false, cond, not, ◌&&◌, List, [], ◌∷◌, refl, ap, subst, arith}
use Rattle.std.specs.Prelude.{◌==◌, filter, count_by, is_some}
use Rattle.std.specs.Ordering.{match_ordering}
use Rattle.std.specs.declared.cmp.Ordering.{Ordering}
use Rattle.std.specs.declared.cmp.Ordering.TheVariants.{Less, Equal, Greater}
use Rattle.std.specs.List.{find, list_any}
use Rattle.std.proofs.lemmas.Bool.{false≢true}
use Rattle.std.proofs.lemmas.Bool.Decides.{nat_tests}
use Rattle.std.proofs.lemmas.List.Sums.{sum_by-cons}
use Rattle.lnfs_world.specs.Rows.{inserted, Rising}
use Rattle.lnfs_world.specs.World.{Id, id_order, same_id}
use Rattle.lnfs_world.proofs.Keys.{id_before, id_equal}
use Rattle.lnfs_world.proofs.Rows.{all_none, all_weaker}

abbrev pub one_if : Bool → ℕ
one_if b = cond b 1 0

module _ {X : Type 0} (q : X → Bool) where
  pub count_cons : (x : X) (xs : List X) → count_by q (x ∷ xs) ≡ one_if (q x) + count_by q xs
  count_cons x xs = sum_by-cons (λ x. cond (q x) 1 0) x xs

  -- where a row comes there is at most one more
  pub count_inserted : (R : X → X → Ordering) (r : X) (xs : List X) → count_by q (inserted R r xs) ≤ one_if (q r) + count_by q xs
  count_inserted R r [] = omega (arith, count_cons r [])
  count_inserted R r (x ∷ xs) = at (R r x) (count_inserted R r xs)
    where
      at : (o : Ordering) → count_by q (inserted R r xs) ≤ one_if (q r) + count_by q xs → count_by q (match_ordering o (r ∷ x ∷ xs) (r ∷ xs) (x ∷ inserted R r xs)) ≤ one_if (q r) + count_by q (x ∷ xs)
      at Less rest = omega (arith, count_cons r (x ∷ xs))
      at Equal rest = omega (arith, count_cons r xs, count_cons x xs)
      at Greater rest = omega (arith, rest, count_cons x (inserted R r xs), count_cons x xs)

  -- where rows go there are no more
  pub count_left : (p : X → Bool) (xs : List X) → count_by q (filter p xs) ≤ count_by q xs
  count_left p [] = omega arith
  count_left p (x ∷ xs) = at (p x) (count_left p xs)
    where
      at : (b : Bool) → count_by q (filter p xs) ≤ count_by q xs → count_by q (cond b (x ∷ filter p xs) (filter p xs)) ≤ count_by q (x ∷ xs)
      at true rest = omega (arith, rest, count_cons x (filter p xs), count_cons x xs)
      at false rest = omega (arith, rest, count_cons x xs)

  -- and where one of those that pass goes, there is one less
  pub count_less : (p : X → Bool) (xs : List X) → list_any (λ x. q x && not (p x)) xs ≡ true → count_by q (filter p xs) + 1 ≤ count_by q xs
  count_less p [] some = absurd (false≢true some)
  count_less p (x ∷ xs) some = at (p x) (q x) refl refl (count_less p xs)
    where
      at : (stays passes : Bool) → p x ≡ stays → q x ≡ passes → (list_any (λ x. q x && not (p x)) xs ≡ true → count_by q (filter p xs) + 1 ≤ count_by q xs) → count_by q (cond stays (x ∷ filter p xs) (filter p xs)) + 1 ≤ count_by q (x ∷ xs)
      at false true left is rest = omega (arith, count_left p xs, count_cons x xs, ap one_if is)
      at false false left is rest = omega (arith, rest (grind (arith, some, left, is)), count_cons x xs, ap one_if is)
      at true passes stays is rest = omega (arith, rest (grind (arith, some, stays, is)), count_cons x xs, count_cons x (filter p xs))

  -- those of a narrower test, where what it leaves out isn't there
  pub count_narrow : (p : X → Bool) (xs : List X) → list_any p xs ≡ false → count_by q xs ≤ count_by (λ x. q x && not (p x)) xs
  count_narrow p [] none = omega arith
  count_narrow p (x ∷ xs) none =
      let same : (q x && not (p x)) ≡ q x = grind (arith, none) in
      omega (arith, count_narrow p xs (grind (arith, none)), count_cons x xs, sum_by-cons (λ x. cond (q x && not (p x)) 1 0) x xs, ap one_if same)

-- a row of whose identifier there is one
less_differs : (a b : Id) → id_order a b ≡ Less → same_id a b ≡ false
less_differs a b is = grind (arith, nat_tests)

greater_differs : (a b : Id) → id_order a b ≡ Greater → same_id a b ≡ false
greater_differs a b is = grind (arith, nat_tests)

module _ {X : Type 0} (key : X → Id) (q : X → Bool) where
  -- where it is set there are no more
  pub count_set : (r : X) → ((x : X) → same_id (key r) (key x) ≡ true → q x ≡ q r) → (xs : List X) → Rising (λ a b. id_order (key a) (key b)) xs → list_any (λ x. same_id (key r) (key x)) xs ≡ true → count_by q (inserted (λ a b. id_order (key a) (key b)) r xs) ≤ count_by q xs
  count_set r alike [] rising there = absurd (false≢true there)
  count_set r alike (x ∷ xs) rising there = at (id_order (key r) (key x)) refl (count_set r alike xs rising.1)
    where
      R : X → X → Ordering
      R a b = id_order (key a) (key b)

      at : (o : Ordering) → id_order (key r) (key x) ≡ o → (list_any (λ x. same_id (key r) (key x)) xs ≡ true → count_by q (inserted (λ a b. id_order (key a) (key b)) r xs) ≤ count_by q xs) →
          count_by q (match_ordering o (r ∷ x ∷ xs) (r ∷ xs) (x ∷ inserted (λ a b. id_order (key a) (key b)) r xs)) ≤ count_by q (x ∷ xs)
      at Less is rest =
          let none = all_none (λ y. same_id (key r) (key y)) xs (all_weaker _ _ (λ y before. less_differs (key r) (key y) (id_before (key r) (key x) (key y) is before)) xs rising.0) in
          absurd (grind (arith, there, none, less_differs (key r) (key x) is))
      at Equal is rest = omega (arith, count_cons q r xs, count_cons q x xs, ap one_if (alike x (id_equal (key r) (key x) is)))
      at Greater is rest = omega (arith, rest (grind (arith, there, greater_differs (key r) (key x) is)), count_cons q x xs, count_cons q x (inserted (λ a b. id_order (key a) (key b)) r xs))

-- ---- rows of a level

module _ {X : Type 0} (key : X → Id) (R : X → X → Ordering) (most : ℕ) where
  -- a row comes to a level that may have one more
  pub level_comes : (r : X) (xs : List X) → count_by (λ x. (key x).level == (key r).level) xs < most → ((level : ℕ) → count_by (λ x. (key x).level == level) xs ≤ most) → (level : ℕ) → count_by (λ x. (key x).level == level) (inserted R r xs) ≤ most
  level_comes r xs room few level = at ((key r).level == level) refl
    where
      at : (b : Bool) → ((key r).level == level) ≡ b → count_by (λ x. (key x).level == level) (inserted R r xs) ≤ most
      at true is =
          let same : (key r).level ≡ level = grind (arith, nat_tests, is) in
          let left : count_by (λ x. (key x).level == level) xs < most = subst (λ l. count_by (λ x. (key x).level == l) xs < most) same room in
          omega (arith, left, count_inserted (λ x. (key x).level == level) R r xs, ap one_if is)
      at false is = omega (arith, few level, count_inserted (λ x. (key x).level == level) R r xs, ap one_if is)

-- a row that is found is there
pub found_any : {X : Type 0} (q : X → Bool) (xs : List X) → is_some (find q xs) ≡ true → list_any q xs ≡ true
found_any q [] is = absurd (false≢true is)
found_any q (x ∷ xs) is = grind (arith, found_any q xs)
