-- Rows that come one after the other, in the order of their identifiers.
use Rattle.std.proofs.Common.{◌≡◌, ◌++◌, ◌+◌, ◌-◌, ◌<◌, ◌≤◌, ℕ, Bool, true, false, cond, List, [], ◌∷◌, None, map, drop, get_or, refl, sym, ap, ◌∙◌, subst, arith}
use Rattle.std.specs.Prelude.{◌==◌, length, filter, count_by}
use Rattle.std.specs.declared.cmp.Ordering.TheVariants.{Less, Greater}
use Rattle.std.specs.List.{AllByRecursion}
use Rattle.std.proofs.lemmas.Bool.Decides.{nat_tests}
use Rattle.std.proofs.lemmas.List.{append-nil, append_assoc, drop_more}
use Rattle.lnfs_world.specs.Rows.{Rising, inserted}
use Rattle.lnfs_world.specs.World.{Id, id_order, last_of, is_given}
use Rattle.lnfs_world.specs.declared.numbers.TheConstants.{LAST_NUMBER}
use Rattle.lnfs_world.proofs.Rows.{all_two}
use Rattle.lnfs_counts.specs.Counted.{order_by, row_at, IsCounted, AreNumbered}
use Rattle.lnfs_counts.specs.Counters.{Counters, last_at, count_at, lasts_of, FitsCounter}
use Rattle.lnfs_counts.proofs.Rows.{apart}
use Rattle.lnfs_counts.proofs.Counts.{counts}
use Rattle.lnfs_counts.proofs.Counted.{with_number, none_counted, told_same, added_given}

-- what holds of all holds of those in front, and of the one behind them
pub of_front : {X : Type 0} (P : X → Type 0) (xs ys : List X) → AllByRecursion P (xs ++ ys) → AllByRecursion P xs
of_front P [] ys all = tt
of_front P (x ∷ xs) ys all = (all.0, of_front P xs ys all.1)

pub of_next : {X : Type 0} (P : X → Type 0) (row : X) (xs ys : List X) → AllByRecursion P (xs ++ row ∷ ys) → P row
of_next P row [] ys all = all.0
of_next P row (x ∷ xs) ys all = of_next P row xs ys all.1

turned : (a b : Id) → id_order a b ≡ Less → id_order b a ≡ Greater
turned a b less = grind (arith, nat_tests)

later_number : (a b : Id) → id_order a b ≡ Less → a.level ≡ b.level → a.number < b.number
later_number a b less same = grind (arith, nat_tests)

module _ {X : Type 0} (id : X → Id) where
  rising_front : (xs ys : List X) → Rising (order_by id) (xs ++ ys) → Rising (order_by id) xs
  rising_front [] ys rise = tt
  rising_front (x ∷ xs) ys rise = (of_front (λ y. order_by id x y ≡ Less) xs ys rise.0, rising_front xs ys rise.1)

  -- all in front of a row are before it
  before_next : (row : X) (xs ys : List X) → Rising (order_by id) (xs ++ row ∷ ys) → AllByRecursion (λ x. order_by id x row ≡ Less) xs
  before_next row [] ys rise = tt
  before_next row (x ∷ xs) ys rise = (of_next (λ y. order_by id x y ≡ Less) row xs ys rise.0, before_next row xs ys rise.1)

  -- a row comes behind those in front of it
  pub at_end : (row : X) (xs ys : List X) → Rising (order_by id) (xs ++ row ∷ ys) → inserted (order_by id) row xs ≡ xs ++ row ∷ []
  at_end row [] ys rise = refl
  at_end row (x ∷ xs) ys rise =
      let behind = turned (id x) (id row) (of_next (λ y. order_by id x y ≡ Less) row xs ys rise.0) in
      grind (arith, behind, at_end row xs ys rise.1)

  -- and none of them has its identifier
  pub fresh : (row : X) (xs ys : List X) → Rising (order_by id) (xs ++ row ∷ ys) → row_at id xs (id row) ≡ None
  fresh row [] ys rise = refl
  fresh row (x ∷ xs) ys rise =
      let other = apart (id x) (id row) (of_next (λ y. order_by id x y ≡ Less) row xs ys rise.0) in
      grind (arith, other, fresh row xs ys rise.1)

  -- ---- numbers from 1 on leave room for as many rows as they go

  abbrev IsIn : (level a b : ℕ) → X → Type 0
  IsIn level a b x = (id x).level ≡ level → (a < (id x).number) × ((id x).number ≤ b)

  as_many : (level a b : ℕ) (rows : List X) → Rising (order_by id) rows → AllByRecursion (IsIn level a b) rows → a ≤ b → length (filter (λ x. (id x).level == level) rows) + a ≤ b
  as_many level a b [] rise all most = omega (arith, most)
  as_many level a b (x ∷ xs) rise all most = by ((id x).level == level) refl (λ c. as_many level c b xs rise.1)
    where
      by : (c : Bool) → ((id x).level == level) ≡ c → ((c : ℕ) → AllByRecursion (IsIn level c b) xs → c ≤ b → length (filter (λ y. (id y).level == level) xs) + c ≤ b) → length (filter (λ y. (id y).level == level) (x ∷ xs)) + a ≤ b
      by false is rest = let most_left = rest a all.1 most in grind (arith, is, most_left)
      by true is rest =
          let own : (id x).level ≡ level = grind (arith, nat_tests, is) in
          let here = all.0 own in
          let most_left = rest (id x).number (all_two _ _ _ (λ y less within same. (later_number (id x) (id y) less (own ∙ sym same), (within same).1)) xs rise.0 all.1) here.1 in
          let first = here.0 in
          grind (arith, is, most_left, first)

  -- so a row's number is above the count of those of its level in front of it
  pub few : (row : X) (xs ys : List X) → Rising (order_by id) (xs ++ row ∷ ys) → AllByRecursion (λ x. 1 ≤ (id x).number) (xs ++ row ∷ ys) → count_by (λ x. (id x).level == (id row).level) xs < (id row).number
  few row xs ys rise positive =
      let number = (id row).number in
      let some : 1 ≤ number = of_next (λ x. 1 ≤ (id x).number) row xs ys positive in
      let front : AllByRecursion (IsIn (id row).level 0 (number - 1)) xs = all_two _ _ _ (λ x less above own. (omega (arith, above), omega (arith, later_number (id x) (id row) less own, some))) xs (before_next row xs ys rise) (of_front (λ x. 1 ≤ (id x).number) xs (row ∷ ys) positive) in
      let most = as_many (id row).level 0 (number - 1) xs (rising_front xs (row ∷ ys) rise) front (omega arith) in
      omega (arith, most, counts (λ x. (id x).level == (id row).level) xs, some)

-- ---- made one by one

last_fits : (level : ℕ) (lasts : List Id) → AllByRecursion FitsCounter lasts → last_of level lasts ≤ LAST_NUMBER
last_fits level [] all = omega arith
last_fits level (i ∷ lasts) all = by (i.level == level) refl (last_fits level lasts all.1)
  where
    by : (b : Bool) → (i.level == level) ≡ b → last_of level lasts ≤ LAST_NUMBER → last_of level (i ∷ lasts) ≤ LAST_NUMBER
    by true is rest = let here = all.0.number in grind (arith, is, here)
    by false is rest = grind (arith, is, rest)

-- the rows that are made and counted so far, and those that are left
pub record IsBegun {X : Type 0} (id : X → Id) (lasts : List Id) (all rows left : List X) (counters : Counters) : Type 0 where
  pub rest : rows ++ left ≡ all
  pub kept : IsCounted id rows lasts (last_at counters) (count_at counters)
  pub told : lasts_of counters.entries ≡ lasts

pub begun : {X : Type 0} (id : X → Id) (lasts : List Id) (all : List X) (counters : Counters) → lasts_of counters.entries ≡ lasts → ((l : ℕ) → last_at counters l ≡ last_of l lasts) → ((l : ℕ) → count_at counters l ≡ 0) → IsBegun id lasts all [] all counters
begun id lasts all counters told last none = record { rest = refl; kept = none_counted id lasts (last_at counters) (count_at counters) last none; told = told }

pub all_begun : {X : Type 0} (id : X → Id) (lasts : List Id) (all rows left : List X) (counters : Counters) → left ≡ [] → IsBegun id lasts all rows left counters → rows ≡ all
all_begun id lasts all rows left counters none so = sym (append-nil rows) ∙ ap (λ xs. rows ++ xs) (sym none) ∙ so.rest

-- those that are left are the next and the others
pub next_begun : {R X : Type 0} (id : X → Id) (lasts : List Id) (all made : List X) (f : R → X) (rows : List R) (i : ℕ) (d : R) (counters : Counters) → i < length rows → IsBegun id lasts all made (map f (drop i rows)) counters
    → IsBegun id lasts all made (f (get_or rows i d) ∷ map f (drop (i + 1) rows)) counters
next_begun id lasts all made f rows i d counters inside so = subst (λ xs. IsBegun id lasts all made (map f xs) counters) (drop_more rows i d inside) so

module _ {X : Type 0} (id : X → Id) (lasts : List Id) (all : List X) (numbered : AreNumbered id all lasts) (rows : List X) (row : X) (left : List X) (counters : Counters) (so : IsBegun id lasts all rows (row ∷ left) counters) where
  rising : Rising (order_by id) (rows ++ row ∷ left)
  rising = subst (Rising (order_by id)) (sym so.rest) numbered.rise

  positive : AllByRecursion (λ x. 1 ≤ (id x).number) (rows ++ row ∷ left)
  positive = subst (AllByRecursion (λ x. 1 ≤ (id x).number)) (sym so.rest) numbered.numbers

  pub of_row : (P : X → Type 0) → AllByRecursion P all → P row
  of_row P each = of_next P row rows left (subst (AllByRecursion P) (sym so.rest) each)

  within : (id row).number ≤ last_of (id row).level lasts
  within = let given = of_row (λ x. is_given lasts (id x) ≡ true) numbered.given in grind (arith, nat_tests, given)

  pub own_within : (id row).number ≤ last_at counters (id row).level
  own_within = omega (arith, within, so.kept.lasting (id row).level)

  pub was_given : 0 < last_at counters (id row).level
  was_given = omega (arith, own_within, of_next (λ x. 1 ≤ (id x).number) row rows left positive)

  pub most : (id row).number ≤ LAST_NUMBER
  most = omega (arith, within, last_fits (id row).level lasts numbered.fits)

  pub has_room : count_at counters (id row).level < LAST_NUMBER
  has_room = omega (arith, so.kept.counted (id row).level, few id row rows left rising positive, within, last_fits (id row).level lasts numbered.fits)

  pub absent : row_at id rows (id row) ≡ None
  absent = fresh id row rows left rising

  pub counted_more : IsCounted id (inserted (order_by id) row rows) lasts (last_at counters) (with_number (id row).level (count_at counters (id row).level + 1) (count_at counters))
  counted_more = added_given id rows lasts (last_at counters) (count_at counters) so.kept row absent own_within

  pub one_more : (more : List X) (after : Counters) → more ≡ inserted (order_by id) row rows → lasts_of after.entries ≡ lasts_of counters.entries → ((l : ℕ) → last_at after l ≡ last_at counters l)
      → ((l : ℕ) → count_at after l ≡ cond ((id row).level == l) (count_at counters (id row).level + 1) (count_at counters l)) → IsBegun id lasts all more left after
  one_more more after is same last count = record {
    rest = ap (λ xs. xs ++ left) (is ∙ at_end id row rows left rising) ∙ append_assoc rows (row ∷ []) left ∙ so.rest;
    kept = told_same id _ _ _ _ counted_more _ _ _ _ is refl last count;
    told = same ∙ so.told;
  }
