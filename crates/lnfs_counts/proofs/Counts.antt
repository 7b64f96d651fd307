-- How many rows pass a test, after one came, went or got another state.
use Rattle.std.proofs.Common.{◌≡◌, ℕ, Bool, true, false, cond, not, List, [], ◌∷◌, Some, None, refl, sym, ◌∙◌, arith}
use Rattle.std.specs.Prelude.{◌+◌, length, filter, count_by}
use Rattle.std.specs.declared.cmp.Ordering.{Ordering}
use Rattle.std.specs.declared.cmp.Ordering.TheVariants.{Less, Equal, Greater}
use Rattle.std.proofs.lemmas.Bool.Decides.{nat_tests}
use Rattle.std.proofs.lemmas.List.Sums.{length-filter}
use Rattle.lnfs_world.specs.Rows.{Rising, inserted}
use Rattle.lnfs_world.specs.World.{Id, same_id}
use Rattle.lnfs_world.proofs.Keys.{id_equal}
use Rattle.lnfs_counts.specs.Counted.{order_by, row_at}
use Rattle.lnfs_counts.proofs.Rows.{gone, before}

abbrev pub one_if : Bool → ℕ
one_if b = cond b 1 0

pub counts : {X : Type 0} (p : X → Bool) (xs : List X) → count_by p xs ≡ length (filter p xs)
counts p xs = sym (length-filter p xs)

module _ {X : Type 0} (id : X → Id) (p : X → Bool) where
  -- ---- a row that was not there

  length-added : (row : X) (rows : List X) → row_at id rows (id row) ≡ None → length (filter p (inserted (order_by id) row rows)) ≡ length (filter p rows) + one_if (p row)
  length-added row [] none = grind arith
  length-added row (x ∷ xs) none = by (order_by id row x) refl (length-added row xs)
    where
      by : (o : Ordering) → order_by id row x ≡ o → (row_at id xs (id row) ≡ None → length (filter p (inserted (order_by id) row xs)) ≡ length (filter p xs) + one_if (p row)) → length (filter p (inserted (order_by id) row (x ∷ xs))) ≡ length (filter p (x ∷ xs)) + one_if (p row)
      by Less is rest = grind (arith, is)
      by Equal is rest = absurd (grind (arith, id_equal (id row) (id x) is))
      by Greater is rest = grind (arith, is)

  pub count-added : (row : X) (rows : List X) → row_at id rows (id row) ≡ None → count_by p (inserted (order_by id) row rows) ≡ count_by p rows + one_if (p row)
  count-added row rows none = omega (arith, length-added row rows none, counts p rows, counts p (inserted (order_by id) row rows))

  -- ---- another state of one that is there

  length-set : (row c : X) (rows : List X) → Rising (order_by id) rows → row_at id rows (id row) ≡ Some c → p row ≡ p c → length (filter p (inserted (order_by id) row rows)) ≡ length (filter p rows)
  length-set row c [] rising there same = absurd (cc)
  length-set row c (x ∷ xs) rising there same = by (order_by id row x) refl (length-set row c xs rising.1)
    where
      by : (o : Ordering) → order_by id row x ≡ o → (row_at id xs (id row) ≡ Some c → p row ≡ p c → length (filter p (inserted (order_by id) row xs)) ≡ length (filter p xs)) → length (filter p (inserted (order_by id) row (x ∷ xs))) ≡ length (filter p (x ∷ xs))
      by Less is rest = absurd (let none = before id row x xs rising.0 is in cc)
      by Equal is rest = grind (arith, is, id_equal (id row) (id x) is)
      by Greater is rest = grind (arith, nat_tests, is)

  pub count-set : (row c : X) (rows : List X) → Rising (order_by id) rows → row_at id rows (id row) ≡ Some c → p row ≡ p c → count_by p (inserted (order_by id) row rows) ≡ count_by p rows
  count-set row c rows rising there same = counts p (inserted (order_by id) row rows) ∙ length-set row c rows rising there same ∙ length-filter p rows

  -- ---- one that goes

  length-kept : (i : Id) (rows : List X) → row_at id rows i ≡ None → length (filter p (filter (λ y. not (same_id i (id y))) rows)) ≡ length (filter p rows)
  length-kept i [] none = refl
  length-kept i (x ∷ xs) none = grind (arith, length-kept i xs)

  length-dropped : (i : Id) (c : X) (rows : List X) → Rising (order_by id) rows → row_at id rows i ≡ Some c → length (filter p (filter (λ y. not (same_id i (id y))) rows)) + one_if (p c) ≡ length (filter p rows)
  length-dropped i c [] rising there = absurd (cc)
  length-dropped i c (x ∷ xs) rising there = by (same_id i (id x)) refl (length-dropped i c xs rising.1)
    where
      by : (b : Bool) → same_id i (id x) ≡ b → (row_at id xs i ≡ Some c → length (filter p (filter (λ y. not (same_id i (id y))) xs)) + one_if (p c) ≡ length (filter p xs)) → length (filter p (filter (λ y. not (same_id i (id y))) (x ∷ xs))) + one_if (p c) ≡ length (filter p (x ∷ xs))
      by true is rest = grind (arith, is, length-kept i xs (gone id x i xs rising.0 is))
      by false is rest = grind (arith, is)

  pub count-dropped : (i : Id) (c : X) (rows : List X) → Rising (order_by id) rows → row_at id rows i ≡ Some c → count_by p (filter (λ y. not (same_id i (id y))) rows) + one_if (p c) ≡ count_by p rows
  count-dropped i c rows rising there = omega (arith, length-dropped i c rows rising there, counts p rows, counts p (filter (λ y. not (same_id i (id y))) rows))
