-- Rows that come one after the other are filed and counted.
use Rattle.std.proofs.Common.{◌≡◌, ◌≤◌, ◌<◌, ◌+◌, ◌++◌, ℕ, suc, zero, Bool, true, false, List, [], ◌∷◌, length, get_or, take, drop, map, Option, Some, None, refl, sym, ap, ◌∙◌, subst, arith}
use Rattle.std.specs.Prelude.{◌==◌, nat_le, count_by}
use Rattle.std.specs.List.{AllByRecursion}
use Rattle.std.proofs.lemmas.Bool.{false≢true}
use Rattle.std.proofs.lemmas.List.{take_more, map-append}
use Rattle.std.proofs.lemmas.Bool.Decides.{nat_tests}
use Rattle.lnfs_world.specs.Rows.{Rising, Apart, inserted}
use Rattle.lnfs_world.specs.World.{Id, Client, Session, last_of, is_given}
use Rattle.lnfs_world.specs.Facts.{are_rivals}
use Rattle.lnfs_world.specs.declared.numbers.TheConstants.{LAST_NUMBER}
use Rattle.lnfs_world.proofs.Rows.{all_weaker, all_find}
use Rattle.lnfs_world.proofs.Keys.{bytes_itself}
use Rattle.lnfs_counts.specs.Counted.{order_by, IsCounted}
use Rattle.lnfs_counts.proofs.Counted.{with_number, added_given}
use Rattle.lnfs_counts.proofs.Coming.{of_next, at_end, fresh, few}
use Rattle.lnfs_session.specs.Levels.{Levels, last_at, records_at, numbers_at, number_by, lasts_of}
use Rattle.lnfs_session.specs.Indexed.{own_id, AreFiled, FilesOne}
use Rattle.lnfs_session.specs.Sessions.{own_id as session_id}
use Rattle.lnfs_session.specs.Makes.{IsNumber, MakesRecords, MakesSessions}
use Rattle.lnfs_session.proofs.Indexed.{there_at}
use Rattle.lnfs_session.proofs.Reindexed.{same}
use Rattle.lnfs_session.proofs.Entered.{filed_given}

-- ---- a row of a list, with those before it and those behind it

pub around : {X Y : Type 0} (f : X → Y) (rows : List X) (i : ℕ) (d : X) → i < length rows → map f rows ≡ map f (take i rows) ++ f (get_or rows i d) ∷ map f (drop (suc i) rows)
around f [] i d within = absurd (omega arith)
around f (x ∷ xs) zero d within = refl
around f (x ∷ xs) (suc i) d within = ap (λ rest. f x ∷ rest) (around f xs i d (omega arith))

pub one_more : {X Y : Type 0} (f : X → Y) (rows : List X) (i : ℕ) (d : X) → i < length rows → map f (take (i + 1) rows) ≡ map f (take i rows) ++ f (get_or rows i d) ∷ []
one_more f rows i d within = ap (map f) (take_more rows i d within) ∙ map-append f (take i rows) (get_or rows i d ∷ [])

-- what holds of all holds of it
pub row_holds : {X Y : Type 0} (P : Y → Type 0) (f : X → Y) (rows : List X) (i : ℕ) (d : X) → i < length rows → AllByRecursion P (map f rows) → P (f (get_or rows i d))
row_holds P f rows i d within all = of_next P (f (get_or rows i d)) (map f (take i rows)) (map f (drop (suc i) rows)) (subst (AllByRecursion P) (around f rows i d within) all)

-- it comes behind those before it
pub next_inserted : {X Y : Type 0} (id : Y → Id) (f : X → Y) (rows : List X) (i : ℕ) (d : X) → i < length rows → Rising (order_by id) (map f rows) → inserted (order_by id) (f (get_or rows i d)) (map f (take i rows)) ≡ map f (take (i + 1) rows)
next_inserted id f rows i d within rise =
    at_end id (f (get_or rows i d)) (map f (take i rows)) (map f (drop (suc i) rows)) (subst (Rising (order_by id)) (around f rows i d within) rise)
    ∙ sym (one_more f rows i d within)

-- ---- a row comes behind those that are counted

pub counted_next : {X : Type 0} (id : X → Id) (row : X) (xs ys : List X) → Rising (order_by id) (xs ++ row ∷ ys) → (lasts : List Id) (last count : ℕ → ℕ) → IsCounted id xs lasts last count → (id row).number ≤ last (id row).level → IsCounted id (xs ++ row ∷ []) lasts last (with_number (id row).level (count (id row).level + 1) count)
counted_next id row xs ys rise lasts last count counted given =
    subst (λ rows. IsCounted id rows lasts last (with_number (id row).level (count (id row).level + 1) count)) (at_end id row xs ys rise) (added_given id xs lasts last count counted row (fresh id row xs ys rise) given)

-- a number that a level gives is above the count of the rows before
pub few_before : {X : Type 0} (id : X → Id) (row : X) (xs ys : List X) → Rising (order_by id) (xs ++ row ∷ ys) → AllByRecursion (λ x. IsNumber (id x)) (xs ++ row ∷ ys) → count_by (λ x. (id x).level == (id row).level) xs < (id row).number
few_before id row xs ys rise numbers = few id row xs ys rise (all_weaker _ _ (λ x is. is.0) (xs ++ row ∷ ys) numbers)

-- ---- a client's record comes behind those that are filed

apart_next : {X : Type 0} (clash : X → X → Bool) (row : X) (xs ys : List X) → Apart clash (xs ++ row ∷ ys) → AllByRecursion (λ x. clash x row ≡ false) xs
apart_next clash row [] ys apart = tt
apart_next clash row (x ∷ xs) ys apart = (of_next (λ y. clash x y ≡ false) row xs ys apart.0, apart_next clash row xs ys apart.1)

module _ (row : Client) (xs ys : List Client) (lasts : List Id) (makes : MakesRecords (xs ++ row ∷ ys) lasts) (old : Levels) (filed : AreFiled xs old) (told : lasts_of old.entries ≡ lasts) where
  number : IsNumber row.id
  number = of_next (λ c. IsNumber c.id) row xs ys makes.numbers

  below : records_at old row.id.level < row.id.number
  below = omega (arith, few_before own_id row xs ys makes.facts.rise makes.numbers, filed.counted.counted row.id.level)

  pub room : records_at old row.id.level < LAST_NUMBER
  room = omega (arith, below, number.1)

  given : row.id.number ≤ last_at old row.id.level
  given =
      let test : nat_le row.id.number (last_of row.id.level lasts) ≡ true = of_next (λ c. is_given lasts c.id ≡ true) row xs ys makes.facts.given in
      let last : last_of row.id.level lasts ≡ last_at old row.id.level = ap (last_of row.id.level) (sym told) ∙ filed.counted.lasting row.id.level in
      grind (arith, nat_tests, test, last)

  -- no record before is of the same owner, and confirmed or pending as it is
  none : number_by row.confirmed (numbers_at old row.id.level row.owner) ≡ None
  none = by (number_by row.confirmed (numbers_at old row.id.level row.owner)) refl
    where
      by : (o : Option ℕ) → number_by row.confirmed (numbers_at old row.id.level row.owner) ≡ o → number_by row.confirmed (numbers_at old row.id.level row.owner) ≡ None
      by None is = is
      by (Some n) is =
          let there = there_at xs (lasts_of old.entries) (last_at old) (records_at old) (numbers_at old) filed row.id.level row.owner row.confirmed n is in
          let other : are_rivals there.row row ≡ false = (all_find (λ x. are_rivals x row ≡ false) _ xs there.row (apart_next are_rivals row xs ys makes.facts.rivals) there.found).0 in
          let level = there.of.0 in
          let owner = there.of.1 in
          let confirmed = there.of.2 in
          absurd (false≢true (sym other ∙ rivals there.row level owner confirmed))
        where
          rivals : (c : Client) → c.id.level ≡ row.id.level → c.owner ≡ row.owner → c.confirmed ≡ row.confirmed → are_rivals c row ≡ true
          rivals c level owner confirmed = grind (arith, nat_tests, level, owner, confirmed, bytes_itself row.owner)

  pub filed_next : (new : Levels) → FilesOne row old new → AreFiled (xs ++ row ∷ []) new
  filed_next new one =
      let given_row = filed_given xs (lasts_of old.entries) (last_at old) (records_at old) (numbers_at old) filed row (fresh own_id row xs ys makes.facts.rise) given (omega (arith, below, given)) none in
      same _ _ _ _ _ given_row (xs ++ row ∷ []) (lasts_of new.entries) (last_at new) (records_at new) (numbers_at new) (sym (at_end own_id row xs ys makes.facts.rise)) one.lasts one.last one.records one.numbers

-- the next of rows that stand for records
module _ {X : Type 0} (f : X → Client) (rows : List X) (i : ℕ) (d : X) (within : i < length rows) (lasts : List Id) (makes : MakesRecords (map f rows) lasts) (old : Levels) (filed : AreFiled (map f (take i rows)) old) (told : lasts_of old.entries ≡ lasts) where
  makes_around : MakesRecords (map f (take i rows) ++ f (get_or rows i d) ∷ map f (drop (suc i) rows)) lasts
  makes_around = subst (λ clients. MakesRecords clients lasts) (around f rows i d within) makes

  pub room_at : records_at old (f (get_or rows i d)).id.level < LAST_NUMBER
  room_at = room (f (get_or rows i d)) (map f (take i rows)) (map f (drop (suc i) rows)) lasts makes_around old filed told

  pub filed_at : (new : Levels) → FilesOne (f (get_or rows i d)) old new → AreFiled (map f (take (i + 1) rows)) new
  filed_at new one = subst (λ clients. AreFiled clients new) (sym (one_more f rows i d within)) (filed_next (f (get_or rows i d)) (map f (take i rows)) (map f (drop (suc i) rows)) lasts makes_around old filed told new one)

-- and of rows that stand for sessions
module _ {X : Type 0} (f : X → Session) (rows : List X) (i : ℕ) (d : X) (within : i < length rows) (lasts : List Id) (makes : MakesSessions (map f rows) lasts) (last count : ℕ → ℕ) (counted : IsCounted session_id (map f (take i rows)) lasts last count) where
  abbrev own : Id
  own = (f (get_or rows i d)).id

  own_number : IsNumber own
  own_number = row_holds (λ x. IsNumber x.id) f rows i d within makes.numbers

  not_above : own.number ≤ last own.level
  not_above =
      let test : nat_le own.number (last_of own.level lasts) ≡ true = row_holds (λ x. is_given lasts x.id ≡ true) f rows i d within makes.given in
      let same : last_of own.level lasts ≡ last own.level = counted.lasting own.level in
      grind (arith, nat_tests, test, same)

  pub was_given : 0 < last own.level
  was_given = omega (arith, not_above, own_number.0)

  pub room_of : count own.level < LAST_NUMBER
  room_of =
      let all = subst (AllByRecursion (λ x. IsNumber x.id)) (around f rows i d within) makes.numbers in
      let rise = subst (Rising (order_by session_id)) (around f rows i d within) makes.rise in
      omega (arith, few_before session_id (f (get_or rows i d)) (map f (take i rows)) (map f (drop (suc i) rows)) rise all, counted.counted own.level, own_number.1)

  pub counted_at : IsCounted session_id (map f (take (i + 1) rows)) lasts last (with_number own.level (count own.level + 1) count)
  counted_at =
      let rise = subst (Rising (order_by session_id)) (around f rows i d within) makes.rise in
      subst (λ sessions. IsCounted session_id sessions lasts last (with_number own.level (count own.level + 1) count)) (sym (one_more f rows i d within))
      (counted_next session_id (f (get_or rows i d)) (map f (take i rows)) (map f (drop (suc i) rows)) rise lasts last count counted not_above)
