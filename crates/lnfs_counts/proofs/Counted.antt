-- What is told of the levels is true of the rows after a change of both.
use Rattle.std.proofs.Common.{◌≡◌, ◌≤◌, ℕ, Bool, true, false, cond, not, List, [], Option, Some, None, refl, sym, ap, ◌∙◌, subst, arith}
use Rattle.std.specs.Prelude.{◌+◌, ◌-◌, ◌==◌, filter, count_by, is_some}
use Rattle.std.proofs.lemmas.Bool.{false≢true}
use Rattle.std.proofs.lemmas.Bool.Decides.{nat_tests}
use Rattle.lnfs_world.specs.Rows.{inserted}
use Rattle.lnfs_world.specs.World.{Id, level_order, last_of, same_id}
use Rattle.lnfs_world.proofs.Sorted.{rising_filter}
use Rattle.lnfs_world.proofs.Keys.{id_same, last_of-inserted}
use Rattle.lnfs_world.proofs.KeptClients.{row_rises}
use Rattle.lnfs_counts.specs.Counted.{order_by, row_at, IsCounted}
use Rattle.lnfs_counts.proofs.Rows.{found_id, row_at-inserted, row_at-dropped}
use Rattle.lnfs_counts.proofs.Counts.{one_if, count-added, count-set, count-dropped}

abbrev pub with_number : ℕ → ℕ → (ℕ → ℕ) → ℕ → ℕ
with_number level new f l = cond (level == l) new (f l)

-- no row, where the last numbers are known
pub none_counted : {X : Type 0} (id : X → Id) (lasts : List Id) (last count : ℕ → ℕ) → ((l : ℕ) → last l ≡ last_of l lasts) → ((l : ℕ) → count l ≡ 0) → IsCounted id [] lasts last count
none_counted id lasts last count told none = record { rise = tt; given = λ i there. absurd (false≢true there); lasting = λ l. sym (told l); counted = none }

module _ {X : Type 0} (id : X → Id) (rows : List X) (lasts : List Id) (last count : ℕ → ℕ) (kept : IsCounted id rows lasts last count) where
  -- what is told in the same way
  pub told_same : (rows' : List X) (lasts' : List Id) (last' count' : ℕ → ℕ) → rows' ≡ rows → lasts' ≡ lasts → ((l : ℕ) → last' l ≡ last l) → ((l : ℕ) → count' l ≡ count l) → IsCounted id rows' lasts' last' count'
  told_same rows' lasts' last' count' row given numbers counts =
      subst (λ (T : Type 0). T) (λ i. IsCounted id (sym row i) (sym given i) (λ l. sym (numbers l) i) (λ l. sym (counts l) i)) kept

  -- ---- a row that wasn't there

  module _ (row : X) (none : row_at id rows (id row) ≡ None) where
    counted_added : (level : ℕ) → with_number (id row).level (count (id row).level + 1) count level ≡ count_by (λ x. (id x).level == level) (inserted (order_by id) row rows)
    counted_added level = by ((id row).level == level) refl
      where
        more : count_by (λ x. (id x).level == level) (inserted (order_by id) row rows) ≡ count_by (λ x. (id x).level == level) rows + one_if ((id row).level == level)
        more = count-added id (λ x. (id x).level == level) row rows none

        by : (b : Bool) → ((id row).level == level) ≡ b → cond b (count (id row).level + 1) (count level) ≡ count_by (λ x. (id x).level == level) (inserted (order_by id) row rows)
        by true is =
            let same : (id row).level ≡ level = grind (arith, nat_tests, is) in
            omega (arith, more, ap one_if is, kept.counted level, ap count same)
        by false is = omega (arith, more, ap one_if is, kept.counted level)

    given_among : (id row).number ≤ last (id row).level → (j : Id) → is_some (row_at id (inserted (order_by id) row rows) j) ≡ true → j.number ≤ last j.level
    given_among own j there = by (same_id j (id row)) refl (sym (ap is_some (row_at-inserted id row rows j)) ∙ there)
      where
        by : (b : Bool) → same_id j (id row) ≡ b → is_some (cond b (Some row) (row_at id rows j)) ≡ true → j.number ≤ last j.level
        by true is some = subst (λ (i : Id). i.number ≤ last i.level) (sym (id_same j (id row) is)) own
        by false is some = kept.given j some

    -- one whose number was given before
    pub added_given : (id row).number ≤ last (id row).level → IsCounted id (inserted (order_by id) row rows) lasts last (with_number (id row).level (count (id row).level + 1) count)
    added_given own = record {
      rise = row_rises id row rows kept.rise;
      given = given_among own;
      lasting = kept.lasting;
      counted = counted_added;
    }

  -- ---- a new row

  module _ (row : X) (next : (id row).number ≡ last (id row).level + 1) where
    pub absent : row_at id rows (id row) ≡ None
    absent = by (row_at id rows (id row)) refl
      where
        by : (o : Option X) → row_at id rows (id row) ≡ o → row_at id rows (id row) ≡ None
        by None is = is
        by (Some x) is = absurd (omega (arith, next, kept.given (id row) (ap is_some is)))

    given_added : (j : Id) → is_some (row_at id (inserted (order_by id) row rows) j) ≡ true → j.number ≤ with_number (id row).level (id row).number last j.level
    given_added j there = by (same_id j (id row)) refl (sym (ap is_some (row_at-inserted id row rows j)) ∙ there)
      where
        by : (b : Bool) → same_id j (id row) ≡ b → is_some (cond b (Some row) (row_at id rows j)) ≡ true → j.number ≤ with_number (id row).level (id row).number last j.level
        by true is some = grind (arith, nat_tests, is)
        by false is some = level ((id row).level == j.level) refl
          where
            level : (b : Bool) → ((id row).level == j.level) ≡ b → j.number ≤ cond b (id row).number (last j.level)
            level true same =
                let here : (id row).level ≡ j.level = grind (arith, nat_tests, same) in
                omega (arith, kept.given j some, next, ap last here)
            level false same = kept.given j some

    pub added : IsCounted id (inserted (order_by id) row rows) (inserted level_order (id row) lasts) (with_number (id row).level (id row).number last) (with_number (id row).level (count (id row).level + 1) count)
    added = record {
      rise = row_rises id row rows kept.rise;
      given = given_added;
      lasting = λ l. last_of-inserted (id row) lasts l ∙ ap (λ (n : ℕ). cond ((id row).level == l) (id row).number n) (kept.lasting l);
      counted = counted_added row absent;
    }

  -- ---- a row gets another state

  module _ (row c : X) (found : row_at id rows (id row) ≡ Some c) where
    given_set : (j : Id) → is_some (row_at id (inserted (order_by id) row rows) j) ≡ true → j.number ≤ last j.level
    given_set j there = by (same_id j (id row)) refl (sym (ap is_some (row_at-inserted id row rows j)) ∙ there)
      where
        by : (b : Bool) → same_id j (id row) ≡ b → is_some (cond b (Some row) (row_at id rows j)) ≡ true → j.number ≤ last j.level
        by true is some = kept.given j (ap is_some (ap (row_at id rows) (id_same j (id row) is) ∙ found))
        by false is some = kept.given j some

    pub set : IsCounted id (inserted (order_by id) row rows) lasts last count
    set = record {
      rise = row_rises id row rows kept.rise;
      given = given_set;
      lasting = kept.lasting;
      counted = λ level. kept.counted level ∙ sym (count-set id (λ x. (id x).level == level) row c rows kept.rise found (ap (λ (i : Id). i.level == level) (id_same (id row) (id c) (found_id id rows (id row) c found))));
    }

  -- ---- a row goes

  module _ (i : Id) (c : X) (found : row_at id rows i ≡ Some c) where
    abbrev left : List X
    left = filter (λ x. not (same_id i (id x))) rows

    given_left : (j : Id) → is_some (row_at id left j) ≡ true → j.number ≤ last j.level
    given_left j there = by (same_id j i) (sym (ap is_some (row_at-dropped id i rows j)) ∙ there)
      where
        by : (b : Bool) → is_some (cond b None (row_at id rows j)) ≡ true → j.number ≤ last j.level
        by true some = absurd (false≢true some)
        by false some = kept.given j some

    counted_left : (level : ℕ) → with_number i.level (count i.level - 1) count level ≡ count_by (λ x. (id x).level == level) left
    counted_left level = by (i.level == level) refl
      where
        own_level : (id c).level ≡ i.level
        own_level = ap (λ (x : Id). x.level) (sym (id_same i (id c) (found_id id rows i c found)))

        fewer : count_by (λ x. (id x).level == level) left + one_if ((id c).level == level) ≡ count_by (λ x. (id x).level == level) rows
        fewer = count-dropped id (λ x. (id x).level == level) i c rows kept.rise found

        by : (b : Bool) → (i.level == level) ≡ b → cond b (count i.level - 1) (count level) ≡ count_by (λ x. (id x).level == level) left
        by true is =
            let same : i.level ≡ level = grind (arith, nat_tests) in
            let one : one_if ((id c).level == level) ≡ 1 = grind (arith, nat_tests, own_level, same) in
            omega (arith, fewer, one, kept.counted level, ap count same)
        by false is =
            let zero : one_if ((id c).level == level) ≡ 0 = grind (arith, nat_tests, own_level, is) in
            omega (arith, fewer, zero, kept.counted level)

    pub dropped : IsCounted id left lasts last (with_number i.level (count i.level - 1) count)
    dropped = record {
      rise = rising_filter (order_by id) _ rows kept.rise;
      given = given_left;
      lasting = kept.lasting;
      counted = counted_left;
    }
