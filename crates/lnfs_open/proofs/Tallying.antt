-- The tallies of opens, after one came, went or got other uses.
use Rattle.std.proofs.Common.{◌≡◌, ℕ, Bool, true, false, cond, not, ◌&&◌, List, [], ◌∷◌, length, Some, None, refl, sym, ap, ◌∙◌, subst, arith}
use Rattle.std.specs.Prelude.{◌+◌, ◌-◌, ◌<◌, ◌≤◌, ◌==◌, filter, count_by}
use Rattle.std.specs.List.{AllByRecursion}
use Rattle.std.specs.declared.cmp.Ordering.{Ordering}
use Rattle.std.specs.declared.cmp.Ordering.TheVariants.{Less, Equal, Greater}
use Rattle.std.proofs.lemmas.Bool.{false≢true}
use Rattle.std.proofs.lemmas.Bool.Decides.{nat_tests}
use Rattle.lnfs_world.specs.Opens.{has_any}
use Rattle.lnfs_world.specs.Rows.{Rising, inserted}
use Rattle.lnfs_world.specs.World.{Id, Open, open_order, same_id}
use Rattle.lnfs_world.proofs.Rows.{all_weaker}
use Rattle.lnfs_world.proofs.Keys.{id_same, id_itself, id_equal, id_tied}
use Rattle.lnfs_world.specs.declared.numbers.TheConstants.{LAST_NUMBER}
use Rattle.lnfs_counts.proofs.Counts.{counts, count-added, count-dropped}
use Rattle.lnfs_counts.proofs.Rows.{before, found_id, gone, none_gone, row_at-dropped}
use Rattle.lnfs_open.specs.declared.bits.TheConstants.{READING, WRITING}
use Rattle.lnfs_open.specs.Lists.{Lists}
use Rattle.lnfs_open.specs.Opening.{has_open_left}
use Rattle.lnfs_open.specs.Indexed.{own_id, open_at}
use Rattle.lnfs_open.specs.Tallies.{one_if, more, less, in_layer, with_any, tally_of, IsSound, HasRoom, CanChange}

-- ---- how many pass a test

pub count_weaker : {X : Type 0} (p q : X → Bool) → ((x : X) → p x ≡ true → q x ≡ true) → (xs : List X) → count_by p xs ≤ count_by q xs
count_weaker p q weaker xs = omega (arith, counts p xs, counts q xs, lengths p q weaker xs)
  where
    lengths : {X : Type 0} (p q : X → Bool) → ((x : X) → p x ≡ true → q x ≡ true) → (ys : List X) → length (filter p ys) ≤ length (filter q ys)
    lengths p q weaker [] = omega arith
    lengths p q weaker (y ∷ ys) = by (p y) (q y) refl refl (lengths p q weaker ys)
      where
        by : (b c : Bool) → p y ≡ b → q y ≡ c → length (filter p ys) ≤ length (filter q ys) → length (filter p (y ∷ ys)) ≤ length (filter q (y ∷ ys))
        by true true is here rest = grind (arith, is, here, rest)
        by true false is here rest = absurd (false≢true (sym here ∙ weaker y is))
        by false true is here rest = grind (arith, is, here, rest)
        by false false is here rest = grind (arith, is, here, rest)

module _ (opens : List Open) (node : Id) (level : ℕ) where
  fewer : (q : Open → Bool) → count_by (λ o. in_layer node level o && q o) opens ≤ count_by (in_layer node level) opens
  fewer q = count_weaker (λ o. in_layer node level o && q o) (in_layer node level) (λ o both. grind (arith, both)) opens

  pub sound : IsSound (tally_of opens node level)
  sound = record {
    reading = fewer (λ o. has_any o.access READING);
    writing = fewer (λ o. has_any o.access WRITING);
    reading_denied = fewer (λ o. has_any o.deny READING);
    writing_denied = fewer (λ o. has_any o.deny WRITING);
  }

-- a level that has room for one more has it in each layer
pub room_in : (opens : List Open) (node : Id) (level : ℕ) → count_by (λ o. o.id.level == level) opens < LAST_NUMBER → HasRoom (tally_of opens node level)
room_in opens node level few =
    let layer : count_by (in_layer node level) opens ≤ count_by (λ o. o.id.level == level) opens = count_weaker (in_layer node level) (λ o. o.id.level == level) (λ o both. grind (arith, both)) opens in
    record { few = omega (arith, layer, few); sound = sound opens node level }

pub room : (s : Lists) (node : Id) (level : ℕ) → has_open_left s level ≡ true → HasRoom (tally_of s.opens node level)
room s node level left = room_in s.opens node level (grind (arith, nat_tests, left))

-- ---- a new open

module _ (row : Open) (rows : List Open) (none : open_at rows row.id ≡ None) (node : Id) (level : ℕ) where
  added : (p : Open → Bool) (w : Bool) → p row ≡ w → count_by p (inserted open_order row rows) ≡ count_by p rows + one_if w
  added p w is = count-added own_id p row rows none ∙ ap (λ b. count_by p rows + one_if b) is

  passed_by : (p : Open → Bool) → p row ≡ false → count_by p (inserted open_order row rows) ≡ count_by p rows
  passed_by p is = omega (arith, added p false is)

  bits_added : (of : Open → ℕ) (bits : ℕ) (here : Bool) → in_layer node level row ≡ here → with_any of bits node level (inserted open_order row rows) ≡ cond here (with_any of bits node level rows + one_if (has_any (of row) bits)) (with_any of bits node level rows)
  bits_added of bits true is = added (λ o. in_layer node level o && has_any (of o) bits) (has_any (of row) bits) (ap (λ b. b && has_any (of row) bits) is)
  bits_added of bits false is = passed_by (λ o. in_layer node level o && has_any (of o) bits) (ap (λ b. b && has_any (of row) bits) is)

  pub tally_added : tally_of (inserted open_order row rows) node level ≡ cond (in_layer node level row) (more row.access row.deny (tally_of rows node level)) (tally_of rows node level)
  tally_added = by (in_layer node level row) refl
    where
      by : (b : Bool) → in_layer node level row ≡ b → tally_of (inserted open_order row rows) node level ≡ cond b (more row.access row.deny (tally_of rows node level)) (tally_of rows node level)
      by true is = λ t. record {
        opens = added (in_layer node level) true is t;
        reading = bits_added (λ o. o.access) READING true is t;
        writing = bits_added (λ o. o.access) WRITING true is t;
        reading_denied = bits_added (λ o. o.deny) READING true is t;
        writing_denied = bits_added (λ o. o.deny) WRITING true is t;
      }
      by false is = λ t. record {
        opens = passed_by (in_layer node level) is t;
        reading = bits_added (λ o. o.access) READING false is t;
        writing = bits_added (λ o. o.access) WRITING false is t;
        reading_denied = bits_added (λ o. o.deny) READING false is t;
        writing_denied = bits_added (λ o. o.deny) WRITING false is t;
      }

-- ---- one that goes

module _ (i : Id) (o : Open) (rows : List Open) (rise : Rising open_order rows) (found : open_at rows i ≡ Some o) where
  abbrev left : List Open
  left = filter (λ x. not (same_id i x.id)) rows

  pub positive : (p : Open → Bool) → p o ≡ true → 0 < count_by p rows
  positive p is = omega (arith, count-dropped own_id p i o rows rise found, ap one_if is)

  dropped : (p : Open → Bool) (w : Bool) → p o ≡ w → count_by p left ≡ count_by p rows - one_if w
  dropped p w is = omega (arith, count-dropped own_id p i o rows rise found, ap one_if is)

  stays : (p : Open → Bool) → p o ≡ false → count_by p left ≡ count_by p rows
  stays p is = omega (arith, dropped p false is)

  bits_dropped : (of : Open → ℕ) (bits : ℕ) (node : Id) (level : ℕ) (here : Bool) → in_layer node level o ≡ here → with_any of bits node level left ≡ cond here (with_any of bits node level rows - one_if (has_any (of o) bits)) (with_any of bits node level rows)
  bits_dropped of bits node level true is = dropped (λ x. in_layer node level x && has_any (of x) bits) (has_any (of o) bits) (ap (λ b. b && has_any (of o) bits) is)
  bits_dropped of bits node level false is = stays (λ x. in_layer node level x && has_any (of x) bits) (ap (λ b. b && has_any (of o) bits) is)

  pub tally_dropped : (node : Id) (level : ℕ) → tally_of left node level ≡ cond (in_layer node level o) (less o.access o.deny (tally_of rows node level)) (tally_of rows node level)
  tally_dropped node level = by (in_layer node level o) refl
    where
      by : (b : Bool) → in_layer node level o ≡ b → tally_of left node level ≡ cond b (less o.access o.deny (tally_of rows node level)) (tally_of rows node level)
      by true is = λ t. record {
        opens = dropped (in_layer node level) true is t;
        reading = bits_dropped (λ x. x.access) READING node level true is t;
        writing = bits_dropped (λ x. x.access) WRITING node level true is t;
        reading_denied = bits_dropped (λ x. x.deny) READING node level true is t;
        writing_denied = bits_dropped (λ x. x.deny) WRITING node level true is t;
      }
      by false is = λ t. record {
        opens = stays (in_layer node level) is t;
        reading = bits_dropped (λ x. x.access) READING node level false is t;
        writing = bits_dropped (λ x. x.access) WRITING node level false is t;
        reading_denied = bits_dropped (λ x. x.deny) READING node level false is t;
        writing_denied = bits_dropped (λ x. x.deny) WRITING node level false is t;
      }

  in_own : in_layer o.node o.id.level o ≡ true
  in_own = grind (arith, nat_tests, id_itself o.node)

  pub can_change : CanChange o.access o.deny (tally_of rows o.node o.id.level)
  can_change = record {
    some = positive (in_layer o.node o.id.level) in_own;
    sound = subst IsSound (tally_dropped o.node o.id.level ∙ ap (λ b. cond b (less o.access o.deny (tally_of rows o.node o.id.level)) (tally_of rows o.node o.id.level)) in_own) (sound left o.node o.id.level);
  }

-- ---- one that gets other uses

in_front : (row : Open) (xs : List Open) → AllByRecursion (λ y. open_order row y ≡ Less) xs → inserted open_order row xs ≡ row ∷ xs
in_front row [] all = refl
in_front row (x ∷ xs) all = grind (arith, all.0)

-- a row is set as one that is added after its own was dropped
reinserted : (row : Open) (rows : List Open) → Rising open_order rows → inserted open_order row (filter (λ x. not (same_id row.id x.id)) rows) ≡ inserted open_order row rows
reinserted row [] rising = refl
reinserted row (x ∷ xs) rising = by (open_order row x) refl (reinserted row xs rising.1)
  where
    by : (order : Ordering) → open_order row x ≡ order → inserted open_order row (filter (λ y. not (same_id row.id y.id)) xs) ≡ inserted open_order row xs → inserted open_order row (filter (λ y. not (same_id row.id y.id)) (x ∷ xs)) ≡ inserted open_order row (x ∷ xs)
    by Less is rest = ap (inserted open_order row) (none_gone own_id row.id (x ∷ xs) (before own_id row x xs rising.0 is))
    by Equal is rest =
        let same : same_id row.id x.id ≡ true = id_equal row.id x.id is in
        let last = none_gone own_id row.id xs (gone own_id x row.id xs rising.0 same) in
        let first = in_front row xs (all_weaker _ _ (λ y less. sym (id_tied row.id x.id y.id is) ∙ less) xs rising.0) in
        grind (arith, is, same, last, first)
    by Greater is rest = grind (arith, nat_tests, is, rest)

module _ (row c : Open) (rows : List Open) (rise : Rising open_order rows) (found : open_at rows row.id ≡ Some c) (same : row.node ≡ c.node) (node : Id) (level : ℕ) where
  abbrev others : List Open
  others = filter (λ x. not (same_id row.id x.id)) rows

  absent : open_at others row.id ≡ None
  absent = row_at-dropped own_id row.id rows row.id ∙ ap (λ b. cond b None (open_at rows row.id)) (id_itself row.id)

  alike : in_layer node level c ≡ in_layer node level row
  alike =
      let id : row.id ≡ c.id = id_same row.id c.id (found_id own_id rows row.id c found) in
      λ t. same_id (sym same t) node && (sym id t).level == level

  twice : (b : Bool) → cond b (more row.access row.deny (cond b (less c.access c.deny (tally_of rows node level)) (tally_of rows node level))) (cond b (less c.access c.deny (tally_of rows node level)) (tally_of rows node level)) ≡ cond b (more row.access row.deny (less c.access c.deny (tally_of rows node level))) (tally_of rows node level)
  twice true = refl
  twice false = refl

  pub tally_again : tally_of (inserted open_order row rows) node level ≡ cond (in_layer node level row) (more row.access row.deny (less c.access c.deny (tally_of rows node level))) (tally_of rows node level)
  tally_again =
      let without = tally_dropped row.id c rows rise found node level ∙ ap (λ b. cond b (less c.access c.deny (tally_of rows node level)) (tally_of rows node level)) alike in
      sym (ap (λ (xs : List Open). tally_of xs node level) (reinserted row rows rise))
      ∙ tally_added row others absent node level
      ∙ (λ t. cond (in_layer node level row) (more row.access row.deny (without t)) (without t))
      ∙ twice (in_layer node level row)
