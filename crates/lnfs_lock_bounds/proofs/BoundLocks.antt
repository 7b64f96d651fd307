-- LOCK, LOCKT and LOCKU leave locks within their bounds.
use Rattle.std.proofs.Common.{◌≡◌, ◌≤◌, ◌+◌, ℕ, Bool, true, false, cond, not, ◌&&◌, ◌||◌, List, Option, Some, None, Ok, Err, length, refl, sym, subst, arith}
use Rattle.std.specs.Prelude.{◌==◌, is_some, nat_le}
use Rattle.std.specs.List.{AllByRecursion}
use Rattle.std.specs.Str.{bytes_eq}
use Rattle.std.proofs.lemmas.Bool.{and_parts}
use Rattle.std.proofs.lemmas.Bool.Decides.{nat_tests}
use Rattle.lnfs_xdr.specs.Reading.{Read, read}
use Rattle.lnfs_arguments.specs.declared.stateid.StateId.{StateId}
use Rattle.lnfs_arguments.specs.declared.statuses.TheConstants.{NFS4ERR_NOTSUPP}
use Rattle.lnfs_world.specs.declared.numbers.TheConstants.{LAST_NUMBER, LAST_SEQUENCE}
use Rattle.lnfs_world.specs.Both.{Both, BothStand}
use Rattle.lnfs_world.specs.Facts.{is_confirmed}
use Rattle.lnfs_world.specs.Opens.{has_any, sequence_after}
use Rattle.lnfs_world.specs.Outcome.{Site, Place, Outcome, serves_client, serves_session, may_hold}
use Rattle.lnfs_world.specs.Rows.{inserted}
use Rattle.lnfs_world.specs.World.{Id, Client, Node, Open, World, level_order, same_id, client_at, node_at, is_directory, is_given}
use Rattle.lnfs_world.proofs.Keys.{id_same}
use Rattle.lnfs_world.proofs.Rows.{all_find, all_left}
use Rattle.lnfs_world.proofs.Sorted.{all_inserted}
use Rattle.lnfs_monitor.specs.Rules.{Read as Reads, Deny, allows}
use Rattle.lnfs_operations.specs.declared.Gate.TheVariants.{Outside}
use Rattle.lnfs_operations.specs.Bounds.{IsGivenBy, ClientBounds, NodeBounds, OpenBounds, RowBounds, Bounds}
use Rattle.lnfs_operations.specs.Chain.{Answer, Done, Refused}
use Rattle.lnfs_operations.specs.Extra.{Spot, spot_of, place_at, further_deed}
use Rattle.lnfs_operations.specs.Handles.{handle_named}
use Rattle.lnfs_operations.specs.Lookup.{is_link}
use Rattle.lnfs_operations.specs.Sizes.{IsBetween, is_level}
use Rattle.lnfs_operations.specs.StateIds.{special, is_client, open_at}
use Rattle.lnfs_operations.proofs.Chains.{demand_any, where_any}
use Rattle.lnfs_beside.proofs.SidesLaws.{lefts-both, rights-both}
use Rattle.lnfs_locks.specs.declared.numbers.TheConstants.{OP_LOCK, OP_LOCKT, OP_LOCKU, LAST_OFFSET, LOCKS_OF_A_LEVEL}
use Rattle.lnfs_locks.specs.Arguments.{Asked, Locker, New, Known, LockArgs, LockTArgs, LockUArgs, lock_args, lockt_args, locku_args}
use Rattle.lnfs_locks.specs.Locks.{Lock, Locks, Row, lock_order, opening_id, opening_of, rows_of, locks_of}
use Rattle.lnfs_locks.specs.Denial.{Asker, counts_at, is_rival, denial}
use Rattle.lnfs_locks.specs.StateIds.{told_id, lock_at, where_lock}
use Rattle.lnfs_locks.specs.Ranges.{is_kind, is_range, for_write, access_for, last_asked, where_range}
use Rattle.lnfs_locks.specs.Effects.{Came, Denied, Free, Holds, with_mode, locked, unlocked, is_one_of, gone_by_locking, gone_by_unlocking, given, has_lock_left, has_ranges_left, kept_with, live_with}
use Rattle.lnfs_locks.specs.Facts.{AreKept}
use Rattle.lnfs_locks.specs.Lock.{asker, where_free, lock_under, begun, lock_or, where_locker, lock}
use Rattle.lnfs_locks.specs.LockT.{lockt}
use Rattle.lnfs_locks.specs.LockU.{locku}
use Rattle.lnfs_locks.specs.Outcome.{with_arguments, concluded, answered, locking}
use Rattle.lnfs_lock_rows.specs.Bounds.{LockBounds, LocksBounded}
use Rattle.lnfs_lock_bounds.proofs.RangeEnds.{ends-set}

-- ---- numbers

after_bound : (n : ℕ) → n ≤ LAST_SEQUENCE → IsBetween 1 LAST_SEQUENCE (sequence_after n)
after_bound n within = at (n == LAST_SEQUENCE) refl
  where
    at : (b : Bool) → (n == LAST_SEQUENCE) ≡ b → IsBetween 1 LAST_SEQUENCE (cond b 1 (n + 1))
    at true is = (omega arith, omega arith)
    at false is = (omega arith, grind (arith, nat_tests, is, within))

at_most : (m n : ℕ) → nat_le m n ≡ true → m ≤ n
at_most m n is = grind (arith, nat_tests, is)

last_within : (a : Asked) → is_range a ≡ true → last_asked a ≤ LAST_OFFSET
last_within a is = grind (arith, nat_tests, is)

module _ (site : Site) where
  -- ---- a lock before it gets its new state, which may have nothing yet

  record IsBegun (l : Lock) : Type 0 where
    level : is_level site l.id.level ≡ true
    number : 1 ≤ l.id.number
    client : IsBetween 1 LAST_NUMBER l.client
    opening : IsBetween 1 LAST_NUMBER l.opening
    node : IsGivenBy site l.node
    sequence : l.sequence ≤ LAST_SEQUENCE
    ranges : AllByRecursion (λ r. r.last ≤ LAST_OFFSET) l.ranges

  there_begun : (l : Lock) → LockBounds site l → IsBegun l
  there_begun l is = record {
    level = is.id.level;
    number = is.id.number.0;
    client = is.client;
    opening = is.opening;
    node = is.node;
    sequence = is.sequence.1;
    ranges = is.ranges;
  }

  mode_bounds : (a : Asked) (mode : Option Bool) (l : Lock) → is_range a ≡ true → IsBegun l → l.id.number ≤ LAST_NUMBER → LockBounds site (with_mode a mode l)
  mode_bounds a mode l range begun few = record {
    id = record { level = begun.level; number = (begun.number, few) };
    client = begun.client;
    opening = begun.opening;
    node = begun.node;
    sequence = after_bound l.sequence begun.sequence;
    ranges = ends-set LAST_OFFSET l.ranges a.offset (last_asked a) mode (last_within a range) begun.ranges;
  }

  -- ---- what is left

  given_bounds : (i : Id) (lasts : List Id) → IsGivenBy site i → AllByRecursion (IsGivenBy site) lasts → AllByRecursion (IsGivenBy site) (given i lasts)
  given_bounds i lasts is all = at (is_given lasts i)
    where
      at : (b : Bool) → AllByRecursion (IsGivenBy site) (cond b lasts (inserted level_order i lasts))
      at true = all
      at false = all_inserted level_order (IsGivenBy site) i lasts is all

  left_bounds : (l : Lock) (gone : List Lock) (own : Locks) → LocksBounded site own → LockBounds site l → LocksBounded site (kept_with l gone own)
  left_bounds l gone own bounded is = record {
    locks = all_inserted lock_order (LockBounds site) l _ is (all_left (LockBounds site) (λ x. not (is_one_of gone x)) own.locks bounded.locks);
    lasts = given_bounds l.id own.lasts is.id bounded.lasts;
  }

  abbrev Leaves : Locks → Answer Came → Type 0
  Leaves own (Refused why) = Unit {0}
  Leaves own (Done (Denied d)) = Unit {0}
  Leaves own (Done Free) = Unit {0}
  Leaves own (Done (Holds l gone)) = LocksBounded site (kept_with l gone own)

  -- ---- the operations

  module _ (p : Place) (w : World) (own : Locks) (level : is_level site p.subject ≡ true) (serves : serves_client p.subject p.client w ≡ true) (rows : RowBounds site w) (bounded : LocksBounded site own) where
    abbrev P : Outcome (Answer Came) → Type 0
    P o = Leaves own o.answer

    -- the client under which the operation came is there
    client_number : (client : ℕ) → p.client ≡ Some client → IsBetween 1 LAST_NUMBER client
    client_number client came = at (client_at w.clients i) refl (subst (λ o. serves_client p.subject o w ≡ true) came serves)
      where
        i : Id
        i = record { level = p.subject; number = client }

        at : (o : Option Client) → client_at w.clients i ≡ o → is_confirmed o ≡ true → IsBetween 1 LAST_NUMBER client
        at None found confirmed = absurd cc
        at (Some c) found confirmed =
            let there = all_find (ClientBounds site) (λ c. same_id i c.id) w.clients c rows.clients found in
            subst (λ (j : Id). IsBetween 1 LAST_NUMBER j.number) (sym (id_same i c.id there.1)) there.0.id.number

    range_of : (a : Asked) (next : Outcome (Answer Came)) → (is_range a ≡ true → P next) → P (where_range p a next)
    range_of a next is = demand_any P (is_kind a.kind) _ _ tt (λ kind. demand_any P (is_range a) _ _ tt is)

    node_of : (i : Id) (n : Node) → node_at w.nodes i ≡ Some n → IsGivenBy site n.id
    node_of i n there = (all_find (NodeBounds site) (λ n. same_id i n.id) w.nodes n rows.nodes there).0.id

    lock_of : (n : Node) (id : StateId) (next : Open → Lock → Outcome (Answer Came)) → ((o : Open) (l : Lock) → LockBounds site l → P (next o l)) → P (where_lock own p w n id next)
    lock_of n id next is =
        demand_any P ((handle_named id.other).level == p.subject) _ _ tt (λ own_level.
        where_any P (lock_at p own.locks n (handle_named id.other)) _ _ (λ l there.
        where_any P (opening_of w l) _ _ (λ o opened.
        demand_any P (nat_le id.seqid l.sequence) _ _ tt (λ known.
        demand_any P (id.seqid == 0 || id.seqid == l.sequence) _ _ tt (λ now.
        is o l (all_find (LockBounds site) test own.locks l bounded.locks there).0))) tt) tt)
      where
        test : Lock → Bool
        test x = same_id (handle_named id.other) (told_id x.id) && (is_client p.client x.client && same_id n.id x.node)

    module _ (client : ℕ) (came : p.client ≡ Some client) (n : Node) (node : IsGivenBy site n.id) where
      begun_or : (i : Id) (o : Open) (owner : List ℕ) → open_at p w n i ≡ Some o → IsBegun (lock_or (begun own p client n o owner) (lock_under p own.locks o owner))
      begun_or i o owner there = at (lock_under p own.locks o owner) refl
        where
          test : Open → Bool
          test x = same_id i x.id && (is_client p.client x.client && same_id n.id x.node)

          under : Lock → Bool
          under x = same_id (record { level = p.subject; number = o.id.number }) (opening_id x) && bytes_eq x.owner owner

          at : (u : Option Lock) → lock_under p own.locks o owner ≡ u → IsBegun (lock_or (begun own p client n o owner) u)
          at None none = record {
            level = level;
            number = omega arith;
            client = client_number client came;
            opening = (all_find (OpenBounds site) test w.opens o rows.opens there).0.id.number;
            node = node;
            sequence = omega arith;
            ranges = tt;
          }
          at (Some l) found = there_begun l (all_find (LockBounds site) under own.locks l bounded.locks found).0

      locker_of : (locker : Locker) (next : Open → Lock → Outcome (Answer Came)) → ((o : Open) (l : Lock) → IsBegun l → P (next o l)) → P (where_locker own p w client n locker next)
      locker_of (New opening owner) next is =
          demand_any P (not (is_some (special opening))) _ _ tt (λ plain.
          demand_any P ((handle_named opening.other).level == p.subject) _ _ tt (λ own_level.
          where_any P (open_at p w n (handle_named opening.other)) _ _ (λ o there.
          demand_any P (nat_le opening.seqid o.sequence) _ _ tt (λ known.
          demand_any P (opening.seqid == 0 || opening.seqid == o.sequence) _ _ tt (λ now.
          is o _ (begun_or (handle_named opening.other) o owner there)))) tt))
      locker_of (Known id) next is = lock_of n id next (λ o l bounds. is o l (there_begun l bounds))

    free_of : (n : Node) (who : Asker) (a : Asked) (next : Outcome (Answer Came)) → P next → P (where_free site own p w n who a next)
    free_of n who a next is = where_any P (denial (is_rival site.dom (counts_at w p.moment) who) n.id a.offset (last_asked a) (for_write a) own.locks) _ _ (λ d there. tt) is

    locking_of : (args : LockArgs) → P (lock site args own p w)
    locking_of args =
        where_any P p.client _ _ (λ client came.
        range_of args.asked _ (λ range.
        where_any P p.current _ _ (λ i handle.
        where_any P (node_at w.nodes i) _ _ (λ n there.
        demand_any P (not (is_directory n.kind)) _ _ tt (λ file.
        demand_any P (not (is_link n.kind)) _ _ tt (λ plain.
        demand_any P (not args.reclaim) _ _ tt (λ fresh.
        demand_any P (allows site.dom p.subject (Deny n.label)) _ _ tt (λ label.
        locker_of client came n (node_of i n there) args.locker _ (λ o l begun.
        demand_any P (has_any o.access (access_for args.asked)) _ _ tt (λ may.
        free_of n (asker p client l.owner) args.asked _ (
        demand_any P (has_lock_left w (locked args.asked l) own.locks) _ _ tt (λ few.
        demand_any P (has_ranges_left w (locked args.asked l) own.locks) _ _ tt (λ ranges.
        left_bounds (locked args.asked l) (gone_by_locking w p.moment (asker p client l.owner) n.id args.asked own.locks) own bounded
        (mode_bounds args.asked (Some (for_write args.asked)) l range begun (at_most l.id.number LAST_NUMBER (and_parts (nat_le (length (live_with w (locked args.asked l) own.locks)) LOCKS_OF_A_LEVEL) (nat_le l.id.number LAST_NUMBER) few).1))))))))))))
        tt) tt)) tt

    testing_of : (args : LockTArgs) → P (lockt site args own p w)
    testing_of args =
        where_any P p.client _ _ (λ client came.
        range_of args.asked _ (λ range.
        where_any P p.current _ _ (λ i handle.
        where_any P (node_at w.nodes i) _ _ (λ n there.
        demand_any P (not (is_directory n.kind)) _ _ tt (λ file.
        demand_any P (not (is_link n.kind)) _ _ tt (λ plain.
        demand_any P (allows site.dom p.subject (Reads n.label)) _ _ tt (λ label.
        free_of n (asker p client args.owner) args.asked _ tt))))
        tt) tt)) tt

    unlocking_of : (args : LockUArgs) → P (locku args own p w)
    unlocking_of args =
        range_of args.asked _ (λ range.
        where_any P p.current _ _ (λ i handle.
        where_any P (node_at w.nodes i) _ _ (λ n there.
        demand_any P (not (is_directory n.kind)) _ _ tt (λ file.
        demand_any P (not (is_link n.kind)) _ _ tt (λ plain.
        lock_of n args.lock _ (λ o l bounds.
        demand_any P (has_ranges_left w (unlocked args.asked l) own.locks) _ _ tt (λ ranges.
        left_bounds (unlocked args.asked l) (gone_by_unlocking w p.subject own.locks) own bounded (mode_bounds args.asked None l range (there_begun l bounds) bounds.id.number.1))))))
        tt) tt)

    answer_leaves : (number : ℕ) (arguments : List ℕ) → Leaves own (answered site number arguments own p w)
    answer_leaves number arguments = by (number == OP_LOCK) (number == OP_LOCKT) (number == OP_LOCKU)
      where
        by_lock : (r : Read ⊥ LockArgs) → Leaves own (with_arguments r (λ args. (lock site args own p w).answer))
        by_lock (Ok x) = locking_of x.0
        by_lock (Err stuck) = tt

        by_test : (r : Read ⊥ LockTArgs) → Leaves own (with_arguments r (λ args. (lockt site args own p w).answer))
        by_test (Ok x) = testing_of x.0
        by_test (Err stuck) = tt

        by_unlock : (r : Read ⊥ LockUArgs) → Leaves own (with_arguments r (λ args. (locku args own p w).answer))
        by_unlock (Ok x) = unlocking_of x.0
        by_unlock (Err stuck) = tt

        by : (b c d : Bool) → Leaves own (cond b (with_arguments (read lock_args arguments) (λ args. (lock site args own p w).answer)) (cond c (with_arguments (read lockt_args arguments) (λ args. (lockt site args own p w).answer)) (cond d (with_arguments (read locku_args arguments) (λ args. (locku args own p w).answer)) (Refused (record { gate = Outside; status = NFS4ERR_NOTSUPP })))))
        by true c d = by_lock (read lock_args arguments)
        by false true d = by_test (read lockt_args arguments)
        by false false true = by_unlock (read locku_args arguments)
        by false false false = tt

  -- ---- as a further operation

  again : (own : Locks) → locks_of (rows_of own) ≡ own
  again own = λ k. record { lasts = lefts-both own.lasts own.locks k; locks = rights-both own.lasts own.locks k }

  concluded_bounds : (x : Answer Came) (at : Spot) (b : Both Row) → Leaves (locks_of b.own) x → LocksBounded site (locks_of b.own) → LocksBounded site (locks_of (concluded x at b).state.own)
  concluded_bounds (Refused why) at b leaves bounded = bounded
  concluded_bounds (Done (Denied d)) at b leaves bounded = bounded
  concluded_bounds (Done Free) at b leaves bounded = bounded
  concluded_bounds (Done (Holds l gone)) at b leaves bounded = subst (LocksBounded site) (sym (again (kept_with l gone (locks_of b.own)))) leaves

  pub deed_bounds : (number : ℕ) (arguments : List ℕ) (p : Place) (b : Both Row) → BothStand AreKept site.dom p b → is_level site p.subject ≡ true → Bounds site b.world → LocksBounded site (locks_of b.own) →
      LocksBounded site (locks_of (further_deed locking site number arguments p b).state.own)
  deed_bounds number arguments p b stands level bounds bounded =
      let serves = (and_parts (serves_client p.subject p.client b.world) (serves_session p.subject p.client p.session b.world && (may_hold site.dom p.subject p.current && may_hold site.dom p.subject p.saved)) stands.world.place).0 in
      concluded_bounds (answered site number arguments (locks_of b.own) (place_at (spot_of p)) b.world) (spot_of p) b
      (answer_leaves (place_at (spot_of p)) b.world (locks_of b.own) level serves bounds.rows bounded number arguments) bounded
