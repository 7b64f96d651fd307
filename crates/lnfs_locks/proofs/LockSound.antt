-- What LOCK, LOCKT and LOCKU come to: a refusal has a status other than 0, a lock that is told is one that is kept, and what
-- holds of all locks holds of those that are left.
use Rattle.std.proofs.Common.{◌≡◌, ◌≤◌, ℕ, Bool, true, false, not, ◌&&◌, ◌||◌, cond, List, Option, Some, None, Ok, Err, length, refl, sym, ap, ◌∙◌, subst, arith}
use Rattle.std.specs.Prelude.{◌==◌, ◌≢◌, find, is_some, nat_le, sum_by}
use Rattle.std.specs.List.{AllByRecursion}
use Rattle.std.specs.Str.{bytes_eq}
use Rattle.std.proofs.lemmas.Bool.{and_parts, eqb-true}
use Rattle.std.proofs.lemmas.Bool.Decides.{nat_tests}
use Rattle.lnfs_xdr.specs.Reading.{Read, read}
use Rattle.lnfs_arguments.specs.declared.numbers.TheConstants.{OWNER_LIMIT}
use Rattle.lnfs_arguments.specs.declared.statuses.TheConstants.{NFS4ERR_NOTSUPP}
use Rattle.lnfs_arguments.specs.declared.stateid.StateId.{StateId}
use Rattle.lnfs_world.specs.declared.numbers.TheConstants.{LAST_NUMBER}
use Rattle.lnfs_world.specs.Opens.{has_any}
use Rattle.lnfs_world.specs.Outcome.{Site, Place, Outcome}
use Rattle.lnfs_world.specs.Rows.{Rising}
use Rattle.lnfs_world.specs.World.{Id, Node, Open, World, open_order, same_id, is_given, node_at, is_directory}
use Rattle.lnfs_world.proofs.Keys.{id_same}
use Rattle.lnfs_world.proofs.Rows.{all_anyway, all_find, all_weaker}
use Rattle.lnfs_world.proofs.Views.{found_by_id}
use Rattle.lnfs_monitor.specs.Rules.{Read as Reads, Deny, allows}
use Rattle.lnfs_operations.specs.declared.Gate.TheVariants.{Outside}
use Rattle.lnfs_operations.specs.Chain.{Answer, Done, Refused}
use Rattle.lnfs_operations.specs.Handles.{handle_named}
use Rattle.lnfs_operations.specs.Lookup.{is_link}
use Rattle.lnfs_operations.specs.StateIds.{special, is_client, open_at}
use Rattle.lnfs_operations.proofs.Chains.{demand_any, where_any}
use Rattle.lnfs_ranges.proofs.Rising.{set_runs}
use Rattle.lnfs_locks.specs.declared.numbers.TheConstants.{OP_LOCK, OP_LOCKT, OP_LOCKU, LOCKS_OF_A_LEVEL, RANGES_OF_A_LEVEL}
use Rattle.lnfs_locks.specs.Arguments.{Asked, Locker, New, Known, LockArgs, LockTArgs, LockUArgs, lock_args, lockt_args, locku_args}
use Rattle.lnfs_locks.specs.Locks.{Lock, Locks, opening_id, opening_of, is_live}
use Rattle.lnfs_locks.specs.Denial.{Asker, counts_at, is_rival, denial}
use Rattle.lnfs_locks.specs.StateIds.{told_id, lock_at, where_lock}
use Rattle.lnfs_locks.specs.Ranges.{is_kind, is_range, for_write, access_for, last_asked, where_range}
use Rattle.lnfs_locks.specs.Effects.{Came, Denied, Free, Holds, with_mode, locked, unlocked, is_dead, gives_way, is_one_of, gone_by_locking, gone_by_unlocking, has_lock_left, has_ranges_left, kept_with, live_with}
use Rattle.lnfs_locks.specs.Facts.{LockFacts}
use Rattle.lnfs_locks.specs.Lock.{asker, where_free, lock_under, begun, lock_or, where_locker, lock}
use Rattle.lnfs_locks.specs.LockT.{lockt}
use Rattle.lnfs_locks.specs.LockU.{locku}
use Rattle.lnfs_locks.specs.Outcome.{with_arguments, answered}
use Rattle.lnfs_locks.proofs.KeptFacts.{facts_after}
use Rattle.lnfs_locks.proofs.LockBefore.{IsBefore, there_before, begun_before, live_few, passing_gone, denial_of_kept}
use Rattle.lnfs_locks.proofs.LockLevels.{gone_by_locking_own, gone_by_unlocking_own}
use Rattle.lnfs_locks.proofs.LockViews.{lock_at_level}
use Rattle.lnfs_locks.proofs.ReadOwner.{IsShort, locker_short}

abbrev pub IsSound : World → Locks → Answer Came → Type 0
IsSound w own (Refused why) = why.status ≢ 0
IsSound w own (Done (Denied d)) = length d.lock.owner ≤ OWNER_LIMIT
IsSound w own (Done Free) = Unit {0}
IsSound w own (Done (Holds l gone)) = LockFacts w (kept_with l gone own)

range_rises : (a : Asked) → is_range a ≡ true → a.offset ≤ last_asked a
range_rises a is = grind (arith, nat_tests, is)

-- of what is left nothing has lost its open
left_is_live : (level live gives gone : Bool) → ((level && not live || gives) ≡ true → gone ≡ true) → level ≡ true → not gone ≡ true → live ≡ true
left_is_live true true gives gone goes own left = refl
left_is_live true false gives true goes own left = absurd cc
left_is_live true false gives false goes own left = absurd (let is = goes refl in cc)
left_is_live false live gives gone goes own left = absurd cc

left_live : (level live gone : Bool) → ((level && not live) ≡ true → gone ≡ true) → level ≡ true → not gone ≡ true → live ≡ true
left_live true true gone goes own left = refl
left_live true false true goes own left = absurd cc
left_live true false false goes own left = absurd (let is = goes refl in cc)
left_live false live gone goes own left = absurd cc

module _ (p : Place) (w : World) (own : Locks) (facts : LockFacts w own) (rise : Rising open_order w.opens) (open_given : AllByRecursion (λ o. is_given w.lasts.opens o.id ≡ true) w.opens) where
  abbrev P : Outcome (Answer Came) → Type 0
  P o = IsSound w own o.answer

  abbrev Before : Open → Lock → Type 0
  Before o l = IsBefore p.subject w own o l

  -- ---- a lock in its new state

  opening_given : (o : Open) (l : Lock) → opening_of w l ≡ Some o → is_given w.lasts.opens (opening_id l) ≡ true
  opening_given o l opened =
      let there = all_find (λ x. is_given w.lasts.opens x.id ≡ true) (λ x. same_id (opening_id l) x.id) w.opens o open_given opened in
      subst (λ i. is_given w.lasts.opens i ≡ true) (sym (id_same (opening_id l) o.id there.1)) there.0

  left_facts : (a : Asked) (mode : Option Bool) (o : Open) (l : Lock) (gone : List Lock) → is_range a ≡ true → Before o l → AllByRecursion (λ g. (g.id.level == p.subject) ≡ true) gone →
      AllByRecursion (λ x. (x.id.level == p.subject) ≡ true → not (is_one_of gone x) ≡ true → is_live w x ≡ true) own.locks →
      length (live_with w (with_mode a mode l) own.locks) ≤ LOCKS_OF_A_LEVEL → has_ranges_left w (with_mode a mode l) own.locks ≡ true → LockFacts w (kept_with (with_mode a mode l) gone own)
  left_facts a mode o l gone range before gone_own live few short = facts_after w own facts p.subject (with_mode a mode l) gone (record {
    level = before.level;
    gone_own = gone_own;
    left_live = live;
    opening = opening_given o l before.opened;
    under = before.under;
    alone = before.alone;
    owner = before.owner;
    runs = set_runs l.ranges a.offset (last_asked a) mode (range_rises a range) before.runs;
    few = few;
    short = at_most (sum_by (λ x. length x.ranges) (live_with w (with_mode a mode l) own.locks)) RANGES_OF_A_LEVEL short;
  })
    where
      at_most : (m n : ℕ) → nat_le m n ≡ true → m ≤ n
      at_most m n is = grind (arith, nat_tests, is)

  locked_facts : (a : Asked) (o : Open) (l : Lock) (n : Node) (client : ℕ) → is_range a ≡ true → Before o l → has_lock_left w (locked a l) own.locks ≡ true → has_ranges_left w (locked a l) own.locks ≡ true →
      LockFacts w (kept_with (locked a l) (gone_by_locking w p.moment (asker p client l.owner) n.id a own.locks) own)
  locked_facts a o l n client range before few short =
      left_facts a (Some (for_write a)) o l (gone_by_locking w p.moment (asker p client l.owner) n.id a own.locks) range before (gone_by_locking_own w p client l.owner n a own.locks)
      (all_weaker goes stays (λ x is. left_is_live (x.id.level == p.subject) (is_live w x) (gives_way w p.moment (asker p client l.owner) n.id a x) (is_one_of gone x) is) own.locks (passing_gone test own.locks))
      (at_most (length (live_with w (locked a l) own.locks)) LOCKS_OF_A_LEVEL (and_parts (nat_le (length (live_with w (locked a l) own.locks)) LOCKS_OF_A_LEVEL) (nat_le l.id.number LAST_NUMBER) few).0) short
    where
      test : Lock → Bool
      test x = is_dead w p.subject x || gives_way w p.moment (asker p client l.owner) n.id a x

      gone : List Lock
      gone = gone_by_locking w p.moment (asker p client l.owner) n.id a own.locks

      goes : Lock → Type 0
      goes x = test x ≡ true → is_one_of gone x ≡ true

      stays : Lock → Type 0
      stays x = (x.id.level == p.subject) ≡ true → not (is_one_of gone x) ≡ true → is_live w x ≡ true

      at_most : (m n : ℕ) → nat_le m n ≡ true → m ≤ n
      at_most m n is = grind (arith, nat_tests, is)

  unlocked_facts : (a : Asked) (o : Open) (l : Lock) (q : Lock → Bool) → is_range a ≡ true → find q own.locks ≡ Some l → Before o l → has_ranges_left w (unlocked a l) own.locks ≡ true →
      LockFacts w (kept_with (unlocked a l) (gone_by_unlocking w p.subject own.locks) own)
  unlocked_facts a o l q range found before short =
      left_facts a None o l gone range before (gone_by_unlocking_own w p.subject own.locks)
      (all_weaker goes stays (λ x is. left_live (x.id.level == p.subject) (is_live w x) (is_one_of gone x) is) own.locks (passing_gone (is_dead w p.subject) own.locks))
      (live_few p.subject w own facts q o l (unlocked a l) found before.opened refl) short
    where
      gone : List Lock
      gone = gone_by_unlocking w p.subject own.locks

      goes : Lock → Type 0
      goes x = is_dead w p.subject x ≡ true → is_one_of gone x ≡ true

      stays : Lock → Type 0
      stays x = (x.id.level == p.subject) ≡ true → not (is_one_of gone x) ≡ true → is_live w x ≡ true

  -- ---- behind the tests

  range_of : (a : Asked) (next : Outcome (Answer Came)) → (is_range a ≡ true → P next) → P (where_range p a next)
  range_of a next is = demand_any P (is_kind a.kind) _ _ (λ e. omega (arith, e)) (λ kind. demand_any P (is_range a) _ _ (λ e. omega (arith, e)) is)

  lock_of : (n : Node) (id : StateId) (next : Open → Lock → Outcome (Answer Came)) → ((o : Open) (l : Lock) → (q : Lock → Bool) → find q own.locks ≡ Some l → Before o l → P (next o l)) → P (where_lock own p w n id next)
  lock_of n id next is =
      demand_any P ((handle_named id.other).level == p.subject) _ _ (λ e. omega (arith, e)) (λ level.
      where_any P (lock_at p own.locks n (handle_named id.other)) _ _ (λ l there.
      where_any P (opening_of w l) _ _ (λ o opened.
      demand_any P (nat_le id.seqid l.sequence) _ _ (λ e. omega (arith, e)) (λ known.
      demand_any P (id.seqid == 0 || id.seqid == l.sequence) _ _ (λ e. omega (arith, e)) (λ now.
      is o l test there (there_before p.subject w own facts test o l there opened (lock_at_level p own.locks n (handle_named id.other) l level there)))))
      (λ e. omega (arith, e))) (λ e. omega (arith, e)))
    where
      test : Lock → Bool
      test x = same_id (handle_named id.other) (told_id x.id) && (is_client p.client x.client && same_id n.id x.node)

  module _ (client : ℕ) (came : p.client ≡ Some client) (n : Node) where
    begun_or : (i : Id) (o : Open) (owner : List ℕ) → (i.level == p.subject) ≡ true → open_at p w n i ≡ Some o → length owner ≤ OWNER_LIMIT → Before o (lock_or (begun own p client n o owner) (lock_under p own.locks o owner))
    begun_or i o owner own_level there short = at (lock_under p own.locks o owner) refl
      where
        test : Open → Bool
        test x = same_id i x.id && (is_client p.client x.client && same_id n.id x.node)

        passed : (same_id i o.id ≡ true) × ((is_client p.client o.client && same_id n.id o.node) ≡ true)
        passed = and_parts (same_id i o.id) _ (all_find (λ x. Unit {0}) test w.opens o (all_anyway _ (λ x. tt) w.opens) there).1

        level : o.id.level ≡ p.subject
        level = ap (λ (j : Id). j.level) (sym (id_same i o.id passed.0)) ∙ eqb-true i.level p.subject own_level

        rest : (is_client p.client o.client ≡ true) × (same_id n.id o.node ≡ true)
        rest = and_parts (is_client p.client o.client) _ passed.1

        of_client : o.client ≡ client
        of_client = sym (eqb-true client o.client (subst (λ c. is_client c o.client ≡ true) came rest.0))

        at : (u : Option Lock) → lock_under p own.locks o owner ≡ u → Before o (lock_or (begun own p client n o owner) u)
        at None none = begun_before p.subject w own rise p client n o owner test refl there level of_client rest.1 short none
        at (Some l) found =
            let under : Lock → Bool = λ x. same_id (record { level = p.subject; number = o.id.number }) (opening_id x) && bytes_eq x.owner owner in
            let passes = (all_find (λ x. Unit {0}) under own.locks l (all_anyway _ (λ x. tt) own.locks) found).1 in
            let same = (and_parts (same_id (record { level = p.subject; number = o.id.number }) (opening_id l)) (bytes_eq l.owner owner) passes).0 in
            let id : opening_id l ≡ o.id = sym (id_same (record { level = p.subject; number = o.id.number }) (opening_id l) same) ∙ (λ k. record { level = sym level k; number = o.id.number }) in
            let opened : opening_of w l ≡ Some o = ap (λ (j : Id). find (λ x. same_id j x.id) w.opens) id ∙ found_by_id (λ x. x.id) test w.opens o rise there in
            there_before p.subject w own facts under o l found opened (let l_level = ap (λ (j : Id). j.level) id in grind (arith, nat_tests, l_level, level))

    locker_of : (locker : Locker) (next : Open → Lock → Outcome (Answer Came)) → IsShort locker → ((o : Open) (l : Lock) → Before o l → P (next o l)) → P (where_locker own p w client n locker next)
    locker_of (New opening owner) next short is =
        demand_any P (not (is_some (special opening))) _ _ (λ e. omega (arith, e)) (λ plain.
        demand_any P ((handle_named opening.other).level == p.subject) _ _ (λ e. omega (arith, e)) (λ level.
        where_any P (open_at p w n (handle_named opening.other)) _ _ (λ o there.
        demand_any P (nat_le opening.seqid o.sequence) _ _ (λ e. omega (arith, e)) (λ known.
        demand_any P (opening.seqid == 0 || opening.seqid == o.sequence) _ _ (λ e. omega (arith, e)) (λ now.
        is o _ (begun_or (handle_named opening.other) o owner level there short)))) (λ e. omega (arith, e))))
    locker_of (Known id) next short is = lock_of n id next (λ o l q there before. is o l before)

  free_of : (site : Site) (n : Node) (who : Asker) (a : Asked) (next : Outcome (Answer Came)) → P next → P (where_free site own p w n who a next)
  free_of site n who a next is = where_any P (denial (is_rival site.dom (counts_at w p.moment) who) n.id a.offset (last_asked a) (for_write a) own.locks) _ _
      (λ d there. denial_of_kept (λ l. length l.owner ≤ OWNER_LIMIT) n.id (is_rival site.dom (counts_at w p.moment) who) a.offset (last_asked a) (for_write a) own.locks d facts.owners there) is

  locking_of : (site : Site) (args : LockArgs) → IsShort args.locker → P (lock site args own p w)
  locking_of site args short =
      where_any P p.client _ _ (λ client came.
      range_of args.asked _ (λ range.
      where_any P p.current _ _ (λ i handle.
      where_any P (node_at w.nodes i) _ _ (λ n there.
      demand_any P (not (is_directory n.kind)) _ _ (λ e. omega (arith, e)) (λ file.
      demand_any P (not (is_link n.kind)) _ _ (λ e. omega (arith, e)) (λ plain.
      demand_any P (not args.reclaim) _ _ (λ e. omega (arith, e)) (λ fresh.
      demand_any P (allows site.dom p.subject (Deny n.label)) _ _ (λ e. omega (arith, e)) (λ label.
      locker_of client came n args.locker _ short (λ o l before.
      demand_any P (has_any o.access (access_for args.asked)) _ _ (λ e. omega (arith, e)) (λ may.
      free_of site n (asker p client l.owner) args.asked _ (
      demand_any P (has_lock_left w (locked args.asked l) own.locks) _ _ (λ e. omega (arith, e)) (λ few.
      demand_any P (has_ranges_left w (locked args.asked l) own.locks) _ _ (λ e. omega (arith, e)) (λ ranges.
      locked_facts args.asked o l n client range before few ranges))))))))))
      (λ e. omega (arith, e))) (λ e. omega (arith, e)))) (λ e. omega (arith, e))

  testing_of : (site : Site) (args : LockTArgs) → P (lockt site args own p w)
  testing_of site args =
      where_any P p.client _ _ (λ client came.
      range_of args.asked _ (λ range.
      where_any P p.current _ _ (λ i handle.
      where_any P (node_at w.nodes i) _ _ (λ n there.
      demand_any P (not (is_directory n.kind)) _ _ (λ e. omega (arith, e)) (λ file.
      demand_any P (not (is_link n.kind)) _ _ (λ e. omega (arith, e)) (λ plain.
      demand_any P (allows site.dom p.subject (Reads n.label)) _ _ (λ e. omega (arith, e)) (λ label.
      free_of site n (asker p client args.owner) args.asked _ tt))))
      (λ e. omega (arith, e))) (λ e. omega (arith, e)))) (λ e. omega (arith, e))

  unlocking_of : (args : LockUArgs) → P (locku args own p w)
  unlocking_of args =
      range_of args.asked _ (λ range.
      where_any P p.current _ _ (λ i handle.
      where_any P (node_at w.nodes i) _ _ (λ n there.
      demand_any P (not (is_directory n.kind)) _ _ (λ e. omega (arith, e)) (λ file.
      demand_any P (not (is_link n.kind)) _ _ (λ e. omega (arith, e)) (λ plain.
      lock_of n args.lock _ (λ o l q found before.
      demand_any P (has_ranges_left w (unlocked args.asked l) own.locks) _ _ (λ e. omega (arith, e)) (λ ranges.
      unlocked_facts args.asked o l q range found before ranges)))))
      (λ e. omega (arith, e))) (λ e. omega (arith, e)))

  pub sound : (site : Site) (number : ℕ) (arguments : List ℕ) → IsSound w own (answered site number arguments own p w)
  sound site number arguments = by (number == OP_LOCK) (number == OP_LOCKT) (number == OP_LOCKU)
    where
      locking : (r : Read ⊥ LockArgs) → read lock_args arguments ≡ r → IsSound w own (with_arguments r (λ args. (lock site args own p w).answer))
      locking (Ok x) is = locking_of site x.0 (locker_short arguments x is)
      locking (Err stuck) is = λ e. omega (arith, e)

      testing : (r : Read ⊥ LockTArgs) → IsSound w own (with_arguments r (λ args. (lockt site args own p w).answer))
      testing (Ok x) = testing_of site x.0
      testing (Err stuck) = λ e. omega (arith, e)

      unlocking : (r : Read ⊥ LockUArgs) → IsSound w own (with_arguments r (λ args. (locku args own p w).answer))
      unlocking (Ok x) = unlocking_of x.0
      unlocking (Err stuck) = λ e. omega (arith, e)

      by : (b c d : Bool) → IsSound w own (cond b (with_arguments (read lock_args arguments) (λ args. (lock site args own p w).answer)) (cond c (with_arguments (read lockt_args arguments) (λ args. (lockt site args own p w).answer)) (cond d (with_arguments (read locku_args arguments) (λ args. (locku args own p w).answer)) (Refused (record { gate = Outside; status = NFS4ERR_NOTSUPP })))))
      by true c d = locking (read lock_args arguments) refl
      by false true d = testing (read lockt_args arguments)
      by false false true = unlocking (read locku_args arguments)
      by false false false = λ e. omega (arith, e)
