-- What holds of all locks holds after one of them was set and others of its level went.
use Rattle.std.proofs.Common.{◌≡◌, ◌≤◌, ℕ, Bool, true, false, cond, not, ◌&&◌, List, [], ◌∷◌, length, refl, sym, ap, ◌∙◌, subst, arith}
use Rattle.std.specs.Prelude.{◌==◌, filter, find, is_some, sum_by}
use Rattle.std.specs.List.{AllByRecursion}
use Rattle.std.specs.Str.{bytes_eq}
use Rattle.std.proofs.lemmas.Bool.{and_parts, and_from}
use Rattle.std.proofs.lemmas.Bool.Decides.{nat_tests}
use Rattle.lnfs_arguments.specs.declared.numbers.TheConstants.{OWNER_LIMIT}
use Rattle.lnfs_world.specs.Rows.{inserted, kept, Rising}
use Rattle.lnfs_world.specs.World.{Id, World, level_order, same_id, is_given}
use Rattle.lnfs_world.proofs.Apart.{apart_filter}
use Rattle.lnfs_world.proofs.KeptClients.{row_rises, lasts_rise, given_own, row_apart}
use Rattle.lnfs_world.proofs.Keys.{same_truth, id_same, id_turned, id_equal, id_before, level_same, bytes_turned, last_of-inserted}
use Rattle.lnfs_world.proofs.Rows.{all_anyway, all_weaker, all_left, all_filter, filter_unseen}
use Rattle.lnfs_world.proofs.Sorted.{all_inserted, inserted_within, inserted_unseen, rising_filter}
use Rattle.lnfs_ranges.specs.Modes.{AreRuns}
use Rattle.lnfs_locks.specs.declared.numbers.TheConstants.{LOCKS_OF_A_LEVEL, RANGES_OF_A_LEVEL}
use Rattle.lnfs_locks.specs.Locks.{Lock, Locks, lock_order, opening_id, is_live}
use Rattle.lnfs_locks.specs.Effects.{given, is_one_of, kept_with, live_with}
use Rattle.lnfs_locks.specs.Facts.{IsUnder, are_doubles, locks_at, ranges_at, LockFacts}
use Rattle.lnfs_locks.proofs.SeenLocks.{kept_is_filter}
use Rattle.lnfs_locks.proofs.Totals.{count_is_sum, length_is_sum, sum_filter, filter_agree, filter_both, filter_all, set_among_fewer}

-- what has to be known of a lock in its new state, and of those that go
pub record IsSet (w : World) (own : Locks) (s : ℕ) (l : Lock) (gone : List Lock) : Type 0 where
  pub level : (l.id.level == s) ≡ true
  pub gone_own : AllByRecursion (λ g. (g.id.level == s) ≡ true) gone
  pub left_live : AllByRecursion (λ x. (x.id.level == s) ≡ true → not (is_one_of gone x) ≡ true → is_live w x ≡ true) own.locks
  pub opening : is_given w.lasts.opens (opening_id l) ≡ true
  pub under : AllByRecursion (IsUnder l) w.opens
  pub alone : AllByRecursion (λ x. (are_doubles w l x && not (same_id l.id x.id)) ≡ false) own.locks
  pub owner : length l.owner ≤ OWNER_LIMIT
  pub runs : AreRuns l.ranges
  pub few : length (live_with w l own.locks) ≤ LOCKS_OF_A_LEVEL
  pub short : sum_by (λ x. length x.ranges) (live_with w l own.locks) ≤ RANGES_OF_A_LEVEL

pub doubles_turn : (w : World) (a b : Lock) → are_doubles w a b ≡ are_doubles w b a
doubles_turn w a b = same_truth (are_doubles w a b) (are_doubles w b a) (turn a b) (turn b a)
  where
    turn : (x y : Lock) → are_doubles w x y ≡ true → are_doubles w y x ≡ true
    turn x y is =
        let parts = and_parts (same_id (opening_id x) (opening_id y)) (bytes_eq x.owner y.owner && is_live w x) is in
        let rest = and_parts (bytes_eq x.owner y.owner) (is_live w x) parts.1 in
        let same : opening_id x ≡ opening_id y = id_same (opening_id x) (opening_id y) parts.0 in
        let live : is_live w y ≡ true = ap (λ (i : Id). is_some (find (λ o. same_id i o.id) w.opens)) (sym same) ∙ rest.1 in
        and_from (same_id (opening_id y) (opening_id x)) (bytes_eq y.owner x.owner && is_live w y) (id_turned (opening_id y) (opening_id x) ∙ parts.0)
        (and_from (bytes_eq y.owner x.owner) (is_live w y) (bytes_turned y.owner x.owner ∙ rest.0) live)

-- ---- last numbers

given_rises : (i : Id) (lasts : List Id) → Rising level_order lasts → Rising level_order (given i lasts)
given_rises i lasts rise = at (is_given lasts i)
  where
    at : (b : Bool) → Rising level_order (cond b lasts (inserted level_order i lasts))
    at true = rise
    at false = lasts_rise i lasts rise

given_itself : (i : Id) (lasts : List Id) → is_given (given i lasts) i ≡ true
given_itself i lasts = at (is_given lasts i) refl
  where
    at : (b : Bool) → is_given lasts i ≡ b → is_given (cond b lasts (inserted level_order i lasts)) i ≡ true
    at true is = is
    at false is = given_own i lasts

given_still : (i j : Id) (lasts : List Id) → is_given lasts j ≡ true → is_given (given i lasts) j ≡ true
given_still i j lasts there = at (is_given lasts i) refl
  where
    at : (b : Bool) → is_given lasts i ≡ b → is_given (cond b lasts (inserted level_order i lasts)) j ≡ true
    at true is = there
    at false is = grind (arith, nat_tests, last_of-inserted i lasts j.level, is, there)

module _ (w : World) (own : Locks) (facts : LockFacts w own) (s : ℕ) (l : Lock) (gone : List Lock) (set : IsSet w own s l gone) where
  abbrev left : List Lock
  left = filter (λ x. not (is_one_of gone x)) own.locks

  left_rises : Rising lock_order left
  left_rises = rising_filter lock_order (λ x. not (is_one_of gone x)) own.locks facts.rise

  -- ---- how many there are

  -- of its own level
  own_after : filter (λ x. x.id.level == s) (inserted lock_order l left) ≡ inserted lock_order l (filter (λ x. not (is_one_of gone x)) (filter (λ x. x.id.level == l.id.level && is_live w x) own.locks))
  own_after =
      let at_level : Lock → Bool = λ x. x.id.level == s in
      sym (kept_is_filter at_level (inserted lock_order l left))
      ∙ inserted_within lock_order at_level at_level l (λ x e. level_same (λ a b. b == a) s l.id x.id (id_equal l.id x.id e)) (λ a b. id_before l.id a.id b.id) left left_rises (all_anyway _ (λ x is. is) left)
      ∙ kept_is_filter at_level (inserted lock_order l (kept at_level (λ x. x) left))
      ∙ ap (λ xs. filter at_level (inserted lock_order l xs)) (kept_is_filter at_level left)
      ∙ filter_all at_level (inserted lock_order l (filter at_level left)) (all_inserted lock_order (λ x. at_level x ≡ true) l (filter at_level left) set.level (all_weaker _ _ (λ x is. is.0) _ (all_filter (λ x. Unit {0}) at_level left (all_anyway _ (λ x. tt) left))))
      ∙ ap (inserted lock_order l) (filter_both at_level (λ x. not (is_one_of gone x)) own.locks
      ∙ filter_agree (λ x. not (is_one_of gone x) && at_level x) (λ x. (x.id.level == l.id.level && is_live w x) && not (is_one_of gone x)) own.locks (all_weaker _ _ (λ x live. agree x live) own.locks set.left_live)
      ∙ sym (filter_both (λ x. not (is_one_of gone x)) (λ x. x.id.level == l.id.level && is_live w x) own.locks))
    where
      tests : (b c d : Bool) → (b ≡ true → c ≡ true → d ≡ true) → (c && b) ≡ ((b && d) && c)
      tests true true d h = ap (λ t. t && true) (sym (h refl refl))
      tests true false true h = refl
      tests true false false h = refl
      tests false true d h = refl
      tests false false d h = refl

      agree : (x : Lock) → ((x.id.level == s) ≡ true → not (is_one_of gone x) ≡ true → is_live w x ≡ true) → (not (is_one_of gone x) && (x.id.level == s)) ≡ ((x.id.level == l.id.level && is_live w x) && not (is_one_of gone x))
      agree x live =
          let same : (x.id.level == l.id.level) ≡ (x.id.level == s) = (let here = set.level in grind (arith, nat_tests, here)) in
          tests (x.id.level == s) (not (is_one_of gone x)) (is_live w x) live ∙ ap (λ t. (t && is_live w x) && not (is_one_of gone x)) (sym same)

  other_after : (level : ℕ) → (level == s) ≡ false → filter (λ x. x.id.level == level) (inserted lock_order l left) ≡ filter (λ x. x.id.level == level) own.locks
  other_after level other =
      let at_level : Lock → Bool = λ x. x.id.level == level in
      sym (kept_is_filter at_level (inserted lock_order l left))
      ∙ inserted_unseen lock_order at_level (λ x. x) l (λ x e. level_same (λ a b. b == a) level l.id x.id (id_equal l.id x.id e)) (let here = set.level in grind (arith, nat_tests, here, other)) left
      ∙ filter_unseen at_level (λ x. x) (λ x. not (is_one_of gone x)) own.locks (all_anyway _ (λ x is. not_gone x is gone set.gone_own) own.locks)
      ∙ kept_is_filter at_level own.locks
    where
      not_gone : (x : Lock) → (x.id.level == level) ≡ true → (gs : List Lock) → AllByRecursion (λ g. (g.id.level == s) ≡ true) gs → not (is_one_of gs x) ≡ true
      not_gone x is [] all = refl
      not_gone x is (g ∷ gs) all = let here = all.0 in grind (arith, nat_tests, is, other, here, not_gone x is gs all.1)

  locks_after : (level : ℕ) → locks_at level (inserted lock_order l left) ≤ LOCKS_OF_A_LEVEL
  locks_after level = at (level == s) refl
    where
      at : (b : Bool) → (level == s) ≡ b → locks_at level (inserted lock_order l left) ≤ LOCKS_OF_A_LEVEL
      at true is =
          let same : level ≡ s = grind (arith, nat_tests, is) in
          let few = set.few in
          let set_few = set_among_fewer (λ x. 1) lock_order l (λ x. not (is_one_of gone x)) (filter (λ x. x.id.level == l.id.level && is_live w x) own.locks) in
          let counted : locks_at s (inserted lock_order l left) ≡ sum_by (λ x. 1) (inserted lock_order l (filter (λ x. not (is_one_of gone x)) (filter (λ x. x.id.level == l.id.level && is_live w x) own.locks))) = count_is_sum (λ x. x.id.level == s) (inserted lock_order l left) ∙ ap (sum_by (λ x. 1)) own_after in
          let whole = length_is_sum (live_with w l own.locks) in
          subst (λ n. locks_at n (inserted lock_order l left) ≤ LOCKS_OF_A_LEVEL) (sym same) (omega (arith, few, set_few, counted, whole))
      at false is =
          let before = facts.locks level in
          let counted : locks_at level (inserted lock_order l left) ≡ locks_at level own.locks =
          count_is_sum (λ x. x.id.level == level) (inserted lock_order l left) ∙ ap (sum_by (λ x. 1)) (other_after level is) ∙ sym (count_is_sum (λ x. x.id.level == level) own.locks) in
          omega (arith, before, counted)

  ranges_after : (level : ℕ) → ranges_at level (inserted lock_order l left) ≤ RANGES_OF_A_LEVEL
  ranges_after level = at (level == s) refl
    where
      at : (b : Bool) → (level == s) ≡ b → ranges_at level (inserted lock_order l left) ≤ RANGES_OF_A_LEVEL
      at true is =
          let same : level ≡ s = grind (arith, nat_tests, is) in
          let short = set.short in
          let set_few = set_among_fewer (λ x. length x.ranges) lock_order l (λ x. not (is_one_of gone x)) (filter (λ x. x.id.level == l.id.level && is_live w x) own.locks) in
          let counted : ranges_at s (inserted lock_order l left) ≡ sum_by (λ x. length x.ranges) (inserted lock_order l (filter (λ x. not (is_one_of gone x)) (filter (λ x. x.id.level == l.id.level && is_live w x) own.locks))) = sum_filter (λ x. length x.ranges) (λ x. x.id.level == s) (inserted lock_order l left) ∙ ap (sum_by (λ x. length x.ranges)) own_after in
          subst (λ n. ranges_at n (inserted lock_order l left) ≤ RANGES_OF_A_LEVEL) (sym same) (omega (arith, short, set_few, counted))
      at false is =
          let before = facts.ranges level in
          let counted : ranges_at level (inserted lock_order l left) ≡ ranges_at level own.locks =
          sum_filter (λ x. length x.ranges) (λ x. x.id.level == level) (inserted lock_order l left) ∙ ap (sum_by (λ x. length x.ranges)) (other_after level is) ∙ sym (sum_filter (λ x. length x.ranges) (λ x. x.id.level == level) own.locks) in
          omega (arith, before, counted)

  -- ---- all of it

  pub facts_after : LockFacts w (kept_with l gone own)
  facts_after = record {
    rise = row_rises (λ x. x.id) l left left_rises;
    lasts_rise = given_rises l.id own.lasts facts.lasts_rise;
    given = all_inserted lock_order _ l left (given_itself l.id own.lasts) (all_weaker _ _ (λ x there. given_still l.id x.id own.lasts there) left (all_left _ _ own.locks facts.given));
    opening_given = all_inserted lock_order _ l left set.opening (all_left _ _ own.locks facts.opening_given);
    under = all_inserted lock_order _ l left set.under (all_left _ _ own.locks facts.under);
    apart = row_apart (are_doubles w) (λ x. x.id) l left (doubles_turn w) left_rises (all_left _ _ own.locks set.alone) (apart_filter (are_doubles w) _ own.locks facts.apart);
    owners = all_inserted lock_order _ l left set.owner (all_left _ _ own.locks facts.owners);
    runs = all_inserted lock_order _ l left set.runs (all_left _ _ own.locks facts.runs);
    locks = locks_after;
    ranges = ranges_after;
  }
