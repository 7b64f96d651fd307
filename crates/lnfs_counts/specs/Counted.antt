-- Rows of any kind, each under its identifier, with what is kept of their levels.
use Rattle.std.specs.Prelude.{◌≡◌, ◌≤◌, ℕ, ◌==◌, true, List, Option, is_some, count_by}
use Rattle.std.specs.List.{AllByRecursion, find}
use Rattle.std.specs.declared.cmp.Ordering.{Ordering}
use Rattle.lnfs_world.specs.Rows.{Rising}
use Rattle.lnfs_world.specs.World.{Id, id_order, same_id, last_of, is_given}
use Rattle.lnfs_counts.specs.Counters.{FitsCounter}

-- rows by their identifiers
abbrev pub order_by : {X : Type 0} → (id : X → Id) → X → X → Ordering
order_by id a b = id_order (id a) (id b)

-- the row of an identifier
abbrev pub row_at : {X : Type 0} → (id : X → Id) → List X → Id → Option X
row_at id rows i = find (λ x. same_id i (id x)) rows

-- What is told of the levels is true of the rows: how many a level has, and a number that none of them is above.
pub record IsCounted {X : Type 0} (id : X → Id) (rows : List X) (lasts : List Id) (last count : ℕ → ℕ) : Type 0 where
  pub rise : Rising (order_by id) rows
  pub given : (i : Id) → is_some (row_at id rows i) ≡ true → i.number ≤ last i.level
  pub lasting : (level : ℕ) → last_of level lasts ≡ last level
  pub counted : (level : ℕ) → count level ≡ count_by (λ x. (id x).level == level) rows

-- Of what rows and counters can be made: rows under numbers from 1 up to the last that their level gave. So a level has no more
-- rows than numbers.
pub record AreNumbered {X : Type 0} (id : X → Id) (rows : List X) (lasts : List Id) : Type 0 where
  pub rise : Rising (order_by id) rows
  pub given : AllByRecursion (λ x. is_given lasts (id x) ≡ true) rows
  pub numbers : AllByRecursion (λ x. 1 ≤ (id x).number) rows
  pub fits : AllByRecursion FitsCounter lasts
