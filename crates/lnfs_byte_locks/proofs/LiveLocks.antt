-- What the opens and the clients tell of locks is what is defined of a world, where the facts of its locks hold.
use Rattle.std.proofs.Common.{◌≡◌, ℕ, Bool, true, false, not, ◌&&◌, ◌||◌, cond, List, [], ◌∷◌, Option, Some, None, refl, sym, ap, ◌∙◌, arith}
use Rattle.std.specs.Prelude.{◌==◌, filter, find, is_some, if◌then◌else◌, length, sum_by}
use Rattle.std.specs.List.{AllByRecursion}
use Rattle.std.specs.Option.{option_map, option_or}
use Rattle.std.proofs.lemmas.Bool.Decides.{nat_tests}
use Rattle.lnfs_types.specs.declared.event.Moment.{Moment}
use Rattle.lnfs_world.specs.Rows.{inserted}
use Rattle.lnfs_world.specs.World.{Id, Open, World, same_id}
use Rattle.lnfs_world.proofs.Rows.{all_weaker}
use Rattle.lnfs_ranges.specs.Modes.{conflicts}
use Rattle.lnfs_locks.specs.Arguments.{Asked}
use Rattle.lnfs_locks.specs.Locks.{Lock, Locks, lock_order, opening_id, is_live}
use Rattle.lnfs_locks.specs.Denial.{Asker, Denial, is_own, is_rival, denied_by, denial, first_of, is_leased, counts_at}
use Rattle.lnfs_locks.specs.Ranges.{for_write, last_asked}
use Rattle.lnfs_locks.specs.Effects.{live_with, gone_by_locking, gone_by_unlocking}
use Rattle.lnfs_locks.specs.Facts.{IsUnder, LockFacts}
use Rattle.lnfs_locking.specs.Usage.{standing_with}
use Rattle.lnfs_locking.proofs.Dropping.{filter_agree}
use Rattle.lnfs_locking.proofs.Going.{goes, gone_locking}
use Rattle.lnfs_byte_locks.specs.Standing.{is_found, counts_by, goes_by}

-- ---- searches by tests that agree

pub find_agree : {X : Type 0} (p q : X → Bool) (xs : List X) → AllByRecursion (λ x. p x ≡ q x) xs → find p xs ≡ find q xs
find_agree p q [] all = refl
find_agree {X} p q (x ∷ xs) all = by (find p xs) (find q xs) (p x) (q x) all.0 (find_agree p q xs all.1)
  where
    by : (r s : Option X) (a b : Bool) → a ≡ b → r ≡ s → (if a then Some x else r) ≡ (if b then Some x else s)
    by r s a b is same = cc

-- ---- a lock's open

pub number_itself : (n : ℕ) → (n == n) ≡ true
number_itself n = grind arith

pub is_its_own : (l : Lock) (o : Open) → IsUnder l o → (same_id (opening_id l) o.id && (l.client == o.client && same_id l.node o.node)) ≡ same_id (opening_id l) o.id
is_its_own l o under = by (same_id (opening_id l) o.id) refl
  where
    by : (b : Bool) → same_id (opening_id l) o.id ≡ b → (b && (l.client == o.client && same_id l.node o.node)) ≡ b
    by false is = refl
    by true is =
        let client : (l.client == o.client) ≡ true = ap (λ (n : ℕ). l.client == n) (under is).0 ∙ number_itself l.client in
        rw (client, (under is).1) refl

pub found_is_live : (w : World) (l : Lock) → AllByRecursion (IsUnder l) w.opens → is_found w.opens l ≡ is_live w l
found_is_live w l under =
    ap (λ (b : Bool). is_some (cond b (find (λ o. same_id (opening_id l) o.id && (l.client == o.client && same_id l.node o.node)) w.opens) None)) (number_itself l.id.level)
    ∙ ap is_some (find_agree _ _ w.opens (all_weaker _ _ (λ o is. is_its_own l o is) w.opens under))

-- ---- tests of locks

module _ (w : World) (own : Locks) (facts : LockFacts w own) where
  pub all_found : AllByRecursion (λ l. is_found w.opens l ≡ is_live w l) own.locks
  all_found = all_weaker _ _ (λ l under. found_is_live w l under) own.locks facts.under

  pub all_count : (moment : Moment) → AllByRecursion (λ l. counts_by w.opens w.clients moment l ≡ counts_at w moment l) own.locks
  all_count moment = all_weaker _ _ (λ l is. ap (λ (b : Bool). b && is_leased w moment l) is) own.locks all_found

  -- the limits of a level
  pub standing_live : (l : Lock) → standing_with (is_found w.opens) l own.locks ≡ live_with w l own.locks
  standing_live l =
      ap (inserted lock_order l)
      (filter_agree _ _ own.locks (all_weaker _ _ (λ x is. ap (λ (b : Bool). x.id.level == l.id.level && b) is) own.locks all_found))

  -- locks that go
  pub dead_gone : (level : ℕ) → filter (λ x. x.id.level == level && not (is_found w.opens x)) own.locks ≡ gone_by_unlocking w level own.locks
  dead_gone level =
      filter_agree _ _ own.locks (all_weaker _ _ (λ x is. ap (λ (b : Bool). x.id.level == level && not b) is) own.locks all_found)

  going_agrees : (moment : Moment) (who : Asker) (node : Id) (a : Asked) (x : Lock) → is_found w.opens x ≡ is_live w x →
      goes_by w.opens w.clients moment who node a.offset (last_asked a) (for_write a) x ≡ goes w moment who node a x
  going_agrees moment who node a x is =
      ap (λ (b : Bool). not b || (not (is_leased w moment x) && (same_id node x.node && (not (is_own who x) && is_some (find (conflicts a.offset (last_asked a) (for_write a)) x.ranges))))) is
      ∙ by (is_live w x) (is_leased w moment x) (same_id node x.node) (is_own who x) (is_some (find (conflicts a.offset (last_asked a) (for_write a)) x.ranges))
    where
      by : (live leased node own found : Bool) → (not live || (not leased && (node && (not own && found)))) ≡ (not live || (node && (not own && (live && (not leased && found)))))
      by true true true true found = refl
      by true true true false found = refl
      by true true false own found = refl
      by true false true true found = refl
      by true false true false found = refl
      by true false false own found = refl
      by false leased node own found = refl

  pub going_gone : (moment : Moment) (who : Asker) (node : Id) (a : Asked) →
      filter (λ x. x.id.level == who.subject && goes_by w.opens w.clients moment who node a.offset (last_asked a) (for_write a) x) own.locks
      ≡ gone_by_locking w moment who node a own.locks
  going_gone moment who node a =
      filter_agree _ _ own.locks (all_weaker _ _ (λ x is. ap (λ (b : Bool). x.id.level == who.subject && b) (going_agrees moment who node a x is)) own.locks all_found)
      ∙ sym (gone_locking w moment who node a own.locks)

  -- what stands in the way
  pub denial_counts : (dom : ℕ → ℕ → Bool) (moment : Moment) (who : Asker) (node : Id) (first last : ℕ) (write : Bool) →
      denial (is_rival dom (counts_by w.opens w.clients moment) who) node first last write own.locks
      ≡ denial (is_rival dom (counts_at w moment) who) node first last write own.locks
  denial_counts dom moment who node first last write = first_agree own.locks (all_count moment)
    where
      first_agree : (locks : List Lock) → AllByRecursion (λ l. counts_by w.opens w.clients moment l ≡ counts_at w moment l) locks →
          denial (is_rival dom (counts_by w.opens w.clients moment) who) node first last write locks
          ≡ denial (is_rival dom (counts_at w moment) who) node first last write locks
      first_agree [] all = refl
      first_agree (l ∷ locks) all =
          ap (λ (b : Bool). option_or (cond (same_id node l.node) (cond (dom who.subject l.id.level && (not (is_own who l) && b)) (option_map (λ r. record { lock = l; range = r }) (find (conflicts first last write) l.ranges)) None) None)
          (denial (is_rival dom (counts_by w.opens w.clients moment) who) node first last write locks)) all.0
          ∙ ap (option_or (cond (same_id node l.node) (denied_by (is_rival dom (counts_at w moment) who) first last write l) None)) (first_agree locks all.1)
