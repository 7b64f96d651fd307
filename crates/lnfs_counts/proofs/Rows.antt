-- Rows of any kind, in the order of their identifiers.
use Rattle.std.proofs.Common.{◌≡◌, Bool, true, false, cond, not, ◌||◌, List, [], ◌∷◌, Option, Some, None, refl, sym, ap, ◌∙◌, arith}
use Rattle.std.specs.Prelude.{◌+◌, ◌<◌, length, find, filter}
use Rattle.std.specs.List.{AllByRecursion, list_any, list_all}
use Rattle.std.specs.declared.cmp.Ordering.{Ordering}
use Rattle.std.specs.declared.cmp.Ordering.TheVariants.{Less, Equal, Greater}
use Rattle.std.proofs.lemmas.Bool.Decides.{nat_tests}
use Rattle.lnfs_world.specs.Rows.{Rising, inserted}
use Rattle.lnfs_world.specs.World.{Id, id_order, same_id}
use Rattle.lnfs_world.proofs.Rows.{all_weaker, all_two}
use Rattle.lnfs_world.proofs.Sorted.{find-inserted}
use Rattle.lnfs_world.proofs.Keys.{id_itself, id_same, id_before, id_equal, id_tie, id_tied}
use Rattle.lnfs_counts.specs.Counted.{order_by, row_at}

pub apart : (a b : Id) → id_order a b ≡ Less → same_id b a ≡ false
apart a b less = grind (arith, nat_tests)

-- one that passes a test
abbrev pub passing : {X : Type 0} → (X → Bool) → Option X → Option X
passing q None = None
passing q (Some x) = cond (q x) (Some x) None

pub none_passes : {X : Type 0} (q : X → Bool) (rows : List X) → AllByRecursion (λ x. q x ≡ false) rows → find q rows ≡ None
none_passes q [] all = refl
none_passes q (x ∷ xs) all = grind (arith, all.0, none_passes q xs all.1)

-- a filter leaves what no row fails
pub none_filtered : {X : Type 0} (q : X → Bool) (xs : List X) → list_any q xs ≡ false → filter (λ x. not (q x)) xs ≡ xs
none_filtered q [] none = refl
none_filtered q (x ∷ xs) none = grind (arith, none_filtered q xs)

module _ {X : Type 0} (id : X → Id) where
  -- each is found at its own
  pub each_at : (rows : List X) → Rising (order_by id) rows → AllByRecursion (λ x. row_at id rows (id x) ≡ Some x) rows
  each_at [] rising = tt
  each_at (x ∷ xs) rising = (grind (arith, id_itself (id x)), all_two _ _ _ (λ y less there. grind (arith, apart (id x) (id y) less, there)) xs rising.0 (each_at xs rising.1))

  -- and what is found there has it
  pub found_id : (rows : List X) (i : Id) (x : X) → row_at id rows i ≡ Some x → same_id i (id x) ≡ true
  found_id [] i x found = absurd (cc)
  found_id (y ∷ xs) i x found = grind (arith, found_id xs i x)

  -- behind a row there is none of its identifier
  pub gone : (x : X) (i : Id) (xs : List X) → AllByRecursion (λ y. order_by id x y ≡ Less) xs → same_id i (id x) ≡ true → row_at id xs i ≡ None
  gone x i xs later same = none_passes (λ y. same_id i (id y)) xs (all_weaker _ _ (λ y less. grind (arith, nat_tests, apart (id x) (id y) less, id_same i (id x) same)) xs later)

  -- nor is there one from a later row on
  pub before : (row x : X) (xs : List X) → AllByRecursion (λ y. order_by id x y ≡ Less) xs → order_by id row x ≡ Less → row_at id (x ∷ xs) (id row) ≡ None
  before row x xs later less = none_passes (λ y. same_id (id row) (id y)) (x ∷ xs) (turned (id row) (id x) less, all_weaker _ _ (λ y lt. turned (id row) (id y) (id_before (id row) (id x) (id y) less lt)) xs later)
    where
      turned : (a b : Id) → id_order a b ≡ Less → same_id a b ≡ false
      turned a b lt = grind (arith, nat_tests)

  -- only rows of one identifier pass
  pub one_passes : (q : X → Bool) (i : Id) (rows : List X) → Rising (order_by id) rows → AllByRecursion (λ x. q x ≡ true → same_id i (id x) ≡ true) rows → find q rows ≡ passing q (row_at id rows i)
  one_passes q i [] rising all = refl
  one_passes q i (x ∷ xs) rising all = by (q x) (same_id i (id x)) refl refl (one_passes q i xs rising.1 all.1)
    where
      no_other : same_id i (id x) ≡ true → find q xs ≡ None
      no_other same = none_passes q xs (all_two _ _ _ (λ y less passes. fails y (q y) refl less passes) xs rising.0 all.1)
        where
          fails : (y : X) (b : Bool) → q y ≡ b → order_by id x y ≡ Less → (q y ≡ true → same_id i (id y) ≡ true) → q y ≡ false
          fails y true is less passes = absurd (grind (arith, nat_tests, apart (id x) (id y) less, passes is, id_same i (id x) same))
          fails y false is less passes = is

      by : (b here : Bool) → q x ≡ b → same_id i (id x) ≡ here → find q xs ≡ passing q (row_at id xs i) → find q (x ∷ xs) ≡ passing q (row_at id (x ∷ xs) i)
      by true here is same rest = grind (arith, is, all.0 is)
      by false true is same rest = grind (arith, is, same, no_other same)
      by false false is same rest = grind (arith, is, same, rest)

  -- ---- after a change

  pub row_at-inserted : (row : X) (rows : List X) (i : Id) → row_at id (inserted (order_by id) row rows) i ≡ cond (same_id i (id row)) (Some row) (row_at id rows i)
  row_at-inserted row rows i = find-inserted (order_by id) (λ x. same_id i (id x)) row (λ x e. grind (arith, nat_tests, id_equal (id row) (id x) e)) (λ x h k. id_tie (id row) (id x) (grind (arith, nat_tests))) rows

  pub row_at-dropped : (j : Id) (rows : List X) (i : Id) → row_at id (filter (λ x. not (same_id j (id x))) rows) i ≡ cond (same_id i j) None (row_at id rows i)
  row_at-dropped j [] i = grind arith
  row_at-dropped j (x ∷ rows) i = grind (arith, nat_tests, row_at-dropped j rows i)

  -- ---- among those that a test leaves

  front : (test : X → Bool) (row : X) (xs : List X) → AllByRecursion (λ y. order_by id row y ≡ Less) xs → inserted (order_by id) row (filter test xs) ≡ row ∷ filter test xs
  front test row [] all = refl
  front test row (x ∷ xs) all = by (test x) refl (front test row xs all.1)
    where
      by : (b : Bool) → test x ≡ b → inserted (order_by id) row (filter test xs) ≡ row ∷ filter test xs → inserted (order_by id) row (filter test (x ∷ xs)) ≡ row ∷ filter test (x ∷ xs)
      by true is rest = grind (arith, is, all.0)
      by false is rest = grind (arith, is)

  -- a row that passes a test can be set before the test or after it
  pub filter-inserted : (test : X → Bool) (row : X) → test row ≡ true → (rows : List X) → Rising (order_by id) rows → filter test (inserted (order_by id) row rows) ≡ inserted (order_by id) row (filter test rows)
  filter-inserted test row passes [] rising = grind (arith, passes)
  filter-inserted test row passes (x ∷ xs) rising = by (order_by id row x) (test x) refl refl (filter-inserted test row passes xs rising.1)
    where
      by : (o : Ordering) (b : Bool) → order_by id row x ≡ o → test x ≡ b → filter test (inserted (order_by id) row xs) ≡ inserted (order_by id) row (filter test xs) → filter test (inserted (order_by id) row (x ∷ xs)) ≡ inserted (order_by id) row (filter test (x ∷ xs))
      by Less true is here rest = grind (arith, is, here, passes)
      by Less false is here rest = grind (arith, is, here, passes, front test row xs (all_weaker _ _ (λ y less. id_before (id row) (id x) (id y) is less) xs rising.0))
      by Equal true is here rest = grind (arith, is, here, passes)
      by Equal false is here rest = grind (arith, is, here, passes, front test row xs (all_weaker _ _ (λ y less. sym (id_tied (id row) (id x) (id y) is) ∙ less) xs rising.0))
      by Greater true is here rest = grind (arith, is, here, rest)
      by Greater false is here rest = grind (arith, is, here, rest)

  -- where the row of an identifier passes a test, no row of it fails
  pub only : (test : X → Bool) (rows : List X) → Rising (order_by id) rows → (i : Id) (x : X) → row_at id rows i ≡ Some x → test x ≡ true → list_all (λ y. not (same_id i (id y)) || test y) rows ≡ true
  only test rows rising i x found passes = all_true rows (all_weaker _ _ (λ y at. by y (same_id i (id y)) refl at) rows (each_at rows rising))
    where
      all_true : (xs : List X) → AllByRecursion (λ y. (not (same_id i (id y)) || test y) ≡ true) xs → list_all (λ y. not (same_id i (id y)) || test y) xs ≡ true
      all_true [] all = refl
      all_true (y ∷ xs) all = grind (arith, all.0, all_true xs all.1)

      by : (y : X) (b : Bool) → same_id i (id y) ≡ b → row_at id rows (id y) ≡ Some y → (not (same_id i (id y)) || test y) ≡ true
      by y false same at = grind (arith, same)
      by y true same at =
          let here : row_at id rows i ≡ Some y = ap (row_at id rows) (id_same i (id y) same) ∙ at in
          let own : x ≡ y = cc in
          grind (arith, same, ap test (sym own) ∙ passes)

  -- ---- one after the other goes

  -- where none has an identifier, none goes by it
  pub none_gone : (i : Id) (xs : List X) → row_at id xs i ≡ None → filter (λ y. not (same_id i (id y))) xs ≡ xs
  none_gone i [] none = refl
  none_gone i (x ∷ xs) none = grind (arith, none_gone i xs)

  -- where one of those goes that pass a test, the same stay in the end
  pub gone_first : (p : X → Bool) (i : Id) (xs : List X) → list_all (λ y. not (same_id i (id y)) || p y) xs ≡ true → filter (λ y. not (p y)) (filter (λ y. not (same_id i (id y))) xs) ≡ filter (λ y. not (p y)) xs
  gone_first p i [] all = refl
  gone_first p i (x ∷ xs) all = grind (arith, gone_first p i xs)

  stay : (i : Id) (xs : List X) → length (filter (λ y. not (same_id i (id y))) xs) < length xs + 1
  stay i [] = omega arith
  stay i (x ∷ xs) = grind (arith, stay i xs)

  -- fewer are left where one goes
  pub fewer : (i : Id) (xs : List X) → list_any (λ x. same_id i (id x)) xs ≡ true → length (filter (λ y. not (same_id i (id y))) xs) < length xs
  fewer i [] there = absurd (grind arith)
  fewer i (x ∷ xs) there = by (same_id i (id x)) refl (fewer i xs)
    where
      by : (b : Bool) → same_id i (id x) ≡ b → (list_any (λ x. same_id i (id x)) xs ≡ true → length (filter (λ y. not (same_id i (id y))) xs) < length xs) → length (filter (λ y. not (same_id i (id y))) (x ∷ xs)) < length (x ∷ xs)
      by true is rest = grind (arith, is, stay i xs)
      by false is rest = grind (arith, is, rest)
