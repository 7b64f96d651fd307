-- LOCK, LOCKT and LOCKU look at what their subject sees alone.
use Rattle.std.proofs.Common.{◌≡◌, ℕ, ◌+◌, true, not, ◌&&◌, ◌||◌, List, [], Option, Some, None, length, refl, ap, ◌∙◌, arith}
use Rattle.std.specs.Prelude.{◌==◌, is_some, nat_le, sum_by, if◌then◌else◌}
use Rattle.std.specs.Str.{bytes_eq}
use Rattle.std.proofs.lemmas.Bool.{and_parts}
use Rattle.std.proofs.lemmas.Bool.Decides.{nat_tests}
use Rattle.lnfs_calipso.specs.Label.{IsPreorderWithBottom}
use Rattle.lnfs_xdr.specs.Reading.{read}
use Rattle.lnfs_arguments.specs.declared.stateid.StateId.{StateId}
use Rattle.lnfs_arguments.specs.declared.statuses.TheConstants.{NFS4ERR_NOSPC, NFS4ERR_OLD_STATEID, NFS4ERR_BAD_STATEID, NFS4ERR_NOTSUPP}
use Rattle.lnfs_world.specs.declared.numbers.TheConstants.{LAST_NUMBER}
use Rattle.lnfs_world.specs.Erased.{erased, shrunk}
use Rattle.lnfs_world.specs.Opens.{has_any}
use Rattle.lnfs_world.specs.Outcome.{Site, Place, Outcome, Stands}
use Rattle.lnfs_world.specs.World.{Id, Node, Open, World, same_id}
use Rattle.lnfs_world.proofs.Rows.{all_anyway, all_find}
use Rattle.lnfs_operations.specs.declared.Gate.TheVariants as gates
use Rattle.lnfs_operations.specs.Chain.{Answer, Refused, refuse, done, demand, where_there}
use Rattle.lnfs_operations.specs.Handles.{handle_named}
use Rattle.lnfs_operations.specs.StateIds.{special, is_client}
use Rattle.lnfs_operations.proofs.Chains.{demand_alike, where_alike}
use Rattle.lnfs_operations.proofs.CurrentLaws.{with_current-seen}
use Rattle.lnfs_operations.proofs.FileLaws.{file_alike}
use Rattle.lnfs_operations.proofs.StateIdLaws.{where_open-seen}
use Rattle.lnfs_locks.specs.declared.numbers.TheConstants.{OP_LOCK, OP_LOCKT, OP_LOCKU, LOCKS_OF_A_LEVEL, RANGES_OF_A_LEVEL}
use Rattle.lnfs_locks.specs.Arguments.{Asked, Locker, New, Known, LockArgs, LockTArgs, LockUArgs, lock_args, lockt_args, locku_args}
use Rattle.lnfs_locks.specs.Locks.{Lock, Locks, opening_id, opening_of}
use Rattle.lnfs_locks.specs.StateIds.{told_id, lock_at, where_lock}
use Rattle.lnfs_locks.specs.Ranges.{for_write, access_for, last_asked, where_range}
use Rattle.lnfs_locks.specs.Effects.{Came, Denied, Holds, locked, unlocked, has_lock_left, has_ranges_left, gone_by_locking, gone_by_unlocking}
use Rattle.lnfs_locks.specs.Lock.{asker, where_free, lock_under, begun, lock_or, where_locker, lock}
use Rattle.lnfs_locks.specs.LockT.{lockt}
use Rattle.lnfs_locks.specs.LockU.{locku}
use Rattle.lnfs_locks.specs.Outcome.{with_arguments, answered}
use Rattle.lnfs_locks.proofs.SeenLocks.{seen_of, last_seen, opening_of-seen, denial-seen, gone_by_locking-seen, gone_by_unlocking-seen, live_with-seen, lock_at-seen, lock_under-seen}

-- ---- the lock that is found is of the subject's level

pub begun_level : (own : Locks) (p : Place) (client : ℕ) (n : Node) (o : Open) (owner : List ℕ) → ((lock_or (begun own p client n o owner) (lock_under p own.locks o owner)).id.level == p.subject) ≡ true
begun_level own p client n o owner = at (lock_under p own.locks o owner) refl
  where
    at : (u : Option Lock) → lock_under p own.locks o owner ≡ u → ((lock_or (begun own p client n o owner) u).id.level == p.subject) ≡ true
    at None is = grind (arith, nat_tests)
    at (Some l) is =
        let passed = (all_find (λ x. Unit {0}) (λ x. same_id (record { level = p.subject; number = o.id.number }) (opening_id x) && bytes_eq x.owner owner) own.locks l (all_anyway _ (λ x. tt) own.locks) is).1 in
        let level : (p.subject == l.id.level) ≡ true = (and_parts _ _ (and_parts (same_id (record { level = p.subject; number = o.id.number }) (opening_id l)) _ passed).0).0 in
        grind (arith, nat_tests, level)

pub lock_at_passed : (p : Place) (locks : List Lock) (n : Node) (i : Id) (l : Lock) → lock_at p locks n i ≡ Some l → (same_id i (told_id l.id) && (is_client p.client l.client && same_id n.id l.node)) ≡ true
lock_at_passed p locks n i l is = (all_find (λ x. Unit {0}) (λ x. same_id i (told_id x.id) && (is_client p.client x.client && same_id n.id x.node)) locks l (all_anyway _ (λ x. tt) locks) is).1

pub lock_at_level : (p : Place) (locks : List Lock) (n : Node) (i : Id) (l : Lock) → (i.level == p.subject) ≡ true → lock_at p locks n i ≡ Some l → (l.id.level == p.subject) ≡ true
lock_at_level p locks n i l own is =
    let level : (i.level == l.id.level) ≡ true = (and_parts _ _ (and_parts (same_id i (told_id l.id)) _ (lock_at_passed p locks n i l is)).0).0 in
    grind (arith, nat_tests, own, level)

-- ---- the tests

module _ (site : Site) (lattice : IsPreorderWithBottom site.dom) (p : Place) (w : World) (own : Locks) where
  abbrev seen_world : World
  seen_world = erased site.dom p.subject w

  abbrev seen_locks : Locks
  seen_locks = seen_of site.dom p.subject own

  abbrev seen_node : Node → Node
  seen_node n = shrunk site.dom p.subject n

  where_free-seen : (n : Node) (client : ℕ) (owner : List ℕ) (a : Asked) (shown found : Outcome (Answer Came)) → shown ≡ found →
      where_free site seen_locks p seen_world (seen_node n) (asker p client owner) a shown ≡ where_free site own p w n (asker p client owner) a found
  where_free-seen n client owner a shown found same =
      let told = denial-seen site.dom lattice p.subject w p.moment (record { level = p.subject; number = client }) owner n.id a.offset (last_asked a) (for_write a) own.locks in
      λ k. where_there (told k) (λ d. done p (Denied d) []) (same k)

  where_lock-seen : {R : Type 0} (n : Node) (id : StateId) (shown found : Open → Lock → Outcome (Answer R)) → ((o : Open) (l : Lock) → (l.id.level == p.subject) ≡ true → shown o l ≡ found o l) →
      where_lock seen_locks p seen_world (seen_node n) id shown ≡ where_lock own p w n id found
  where_lock-seen {R} n id shown found same =
      demand_alike ((handle_named id.other).level == p.subject) _ _ _ (λ level.
      ap (λ o. where_there o (at seen_world shown) bad) (lock_at-seen site.dom lattice p own.locks n (handle_named id.other) level)
      ∙ where_alike (lock_at p own.locks n (handle_named id.other)) (at seen_world shown) (at w found) bad (λ l there.
      behind l (lock_at_level p own.locks n (handle_named id.other) l level there)))
    where
      bad : Outcome (Answer R)
      bad = refuse p gates.Open NFS4ERR_BAD_STATEID

      tested : (Open → Lock → Outcome (Answer R)) → Lock → Open → Outcome (Answer R)
      tested next l o = demand (nat_le id.seqid l.sequence) bad (demand (id.seqid == 0 || id.seqid == l.sequence) (refuse p gates.Open NFS4ERR_OLD_STATEID) (next o l))

      at : World → (Open → Lock → Outcome (Answer R)) → Lock → Outcome (Answer R)
      at v next l = where_there (opening_of v l) (tested next l) bad

      behind : (l : Lock) → (l.id.level == p.subject) ≡ true → at seen_world shown l ≡ at w found l
      behind l level =
          ap (λ o. where_there o (tested shown l) bad) (opening_of-seen site.dom lattice p.subject w l (grind (arith, nat_tests, level, lattice.reflexive p.subject)))
          ∙ where_alike (opening_of w l) (tested shown l) (tested found l) bad (λ o is.
          demand_alike (nat_le id.seqid l.sequence) _ _ _ (λ known.
          demand_alike (id.seqid == 0 || id.seqid == l.sequence) _ _ _ (λ now. same o l level)))

  begun_seen : (client : ℕ) (n : Node) (o : Open) (owner : List ℕ) → begun seen_locks p client (seen_node n) o owner ≡ begun own p client n o owner
  begun_seen client n o owner =
      ap (λ last. record { id = record { level = p.subject; number = last + 1 }; client = client; opening = o.id.number; owner = owner; node = n.id; sequence = 0; ranges = [] })
      (last_seen site.dom p.subject own.lasts (lattice.reflexive p.subject))

  where_locker-seen : {R : Type 0} (client : ℕ) (n : Node) (locker : Locker) (shown found : Open → Lock → Outcome (Answer R)) → ((o : Open) (l : Lock) → (l.id.level == p.subject) ≡ true → shown o l ≡ found o l) →
      where_locker seen_locks p seen_world client (seen_node n) locker shown ≡ where_locker own p w client n locker found
  where_locker-seen client n (New opening owner) shown found same =
      demand_alike (not (is_some (special opening))) _ _ _ (λ plain.
      where_open-seen site.dom lattice p w n opening _ _ (λ o.
      (λ k. shown o (lock_or (begun_seen client n o owner k) (lock_under-seen site.dom lattice p own.locks o owner k)))
      ∙ same o _ (begun_level own p client n o owner)))
  where_locker-seen client n (Known id) shown found same = where_lock-seen n id shown found same

  -- ---- the limits, and what goes

  locking_seen : (client : ℕ) (n : Node) (owner : List ℕ) (a : Asked) (l : Lock) → (l.id.level == p.subject) ≡ true →
      demand (has_lock_left seen_world l seen_locks.locks) (refuse p gates.Quota NFS4ERR_NOSPC) (
      demand (has_ranges_left seen_world l seen_locks.locks) (refuse p gates.Quota NFS4ERR_NOSPC) (
      done p (Holds l (gone_by_locking seen_world p.moment (asker p client owner) n.id a seen_locks.locks)) []))
      ≡ demand (has_lock_left w l own.locks) (refuse p gates.Quota NFS4ERR_NOSPC) (
      demand (has_ranges_left w l own.locks) (refuse p gates.Quota NFS4ERR_NOSPC) (
      done p (Holds l (gone_by_locking w p.moment (asker p client owner) n.id a own.locks)) []))
  locking_seen client n owner a l level =
      let live = live_with-seen site.dom lattice p.subject w l own.locks level in
      let gone = gone_by_locking-seen site.dom lattice p.subject w p.moment (record { level = p.subject; number = client }) owner n.id a own.locks in
      λ k. demand (nat_le (length (live k)) LOCKS_OF_A_LEVEL && nat_le l.id.number LAST_NUMBER) (refuse p gates.Quota NFS4ERR_NOSPC) (
      demand (nat_le (sum_by (λ x. length x.ranges) (live k)) RANGES_OF_A_LEVEL) (refuse p gates.Quota NFS4ERR_NOSPC) (
      done p (Holds l (gone k)) []))

  unlocking_seen : (l : Lock) → (l.id.level == p.subject) ≡ true →
      demand (has_ranges_left seen_world l seen_locks.locks) (refuse p gates.Quota NFS4ERR_NOSPC) (done p (Holds l (gone_by_unlocking seen_world p.subject seen_locks.locks)) [])
      ≡ demand (has_ranges_left w l own.locks) (refuse p gates.Quota NFS4ERR_NOSPC) (done p (Holds l (gone_by_unlocking w p.subject own.locks)) [])
  unlocking_seen l level =
      let live = live_with-seen site.dom lattice p.subject w l own.locks level in
      let gone = gone_by_unlocking-seen site.dom lattice p.subject w own.locks in
      λ k. demand (nat_le (sum_by (λ x. length x.ranges) (live k)) RANGES_OF_A_LEVEL) (refuse p gates.Quota NFS4ERR_NOSPC) (done p (Holds l (gone k)) [])

  -- ---- the operations

  module _ (stands : Stands site.dom p w) where
    lock_seen : (args : LockArgs) → lock site args seen_locks p seen_world ≡ lock site args own p w
    lock_seen args =
        where_alike p.client _ _ _ (λ client at.
        ap (where_range p args.asked) (
        with_current-seen site.dom p w stands _ _ (λ n held.
        file_alike p n _ _ (
        demand_alike (not args.reclaim) _ _ _ (λ fresh.
        demand_alike (p.subject == n.label) _ _ _ (λ label.
        where_locker-seen client n args.locker _ _ (λ o l level.
        demand_alike (has_any o.access (access_for args.asked)) _ _ _ (λ may.
        where_free-seen n client l.owner args.asked _ _ (locking_seen client n l.owner args.asked (locked args.asked l) level)))))))))

    lockt_seen : (args : LockTArgs) → lockt site args seen_locks p seen_world ≡ lockt site args own p w
    lockt_seen args =
        where_alike p.client _ _ _ (λ client at.
        ap (where_range p args.asked) (
        with_current-seen site.dom p w stands _ _ (λ n held.
        file_alike p n _ _ (
        demand_alike (site.dom p.subject n.label) _ _ _ (λ above.
        where_free-seen n client args.owner args.asked _ _ refl)))))

    locku_seen : (args : LockUArgs) → locku args seen_locks p seen_world ≡ locku args own p w
    locku_seen args =
        ap (where_range p args.asked) (
        with_current-seen site.dom p w stands _ _ (λ n held.
        file_alike p n _ _ (
        where_lock-seen n args.lock _ _ (λ o l level. unlocking_seen (unlocked args.asked l) level))))

    pub answered_seen : (number : ℕ) (arguments : List ℕ) → answered site number arguments seen_locks p seen_world ≡ answered site number arguments own p w
    answered_seen number arguments = λ k.
        if number == OP_LOCK then with_arguments (read lock_args arguments) (λ args. (lock_seen args k).answer) else
        if number == OP_LOCKT then with_arguments (read lockt_args arguments) (λ args. (lockt_seen args k).answer) else
        if number == OP_LOCKU then with_arguments (read locku_args arguments) (λ args. (locku_seen args k).answer) else
        Refused (record { gate = gates.Outside; status = NFS4ERR_NOTSUPP })
