-- The lock that an operation sets, and those that go, are of the subject's level.
use Rattle.std.proofs.Common.{◌≡◌, ℕ, Bool, true, false, not, ◌&&◌, ◌||◌, cond, List, Ok, Err, refl}
use Rattle.std.specs.Prelude.{◌==◌, is_some, nat_le}
use Rattle.std.specs.List.{AllByRecursion}
use Rattle.std.proofs.lemmas.Bool.{and_parts}
use Rattle.lnfs_xdr.specs.Reading.{Read, read}
use Rattle.lnfs_arguments.specs.declared.statuses.TheConstants.{NFS4ERR_NOTSUPP}
use Rattle.lnfs_arguments.specs.declared.stateid.StateId.{StateId}
use Rattle.lnfs_world.specs.Opens.{has_any}
use Rattle.lnfs_world.specs.Outcome.{Site, Place, Outcome}
use Rattle.lnfs_world.specs.World.{Node, Open, World, node_at}
use Rattle.lnfs_world.proofs.Rows.{all_anyway, all_filter, all_weaker}
use Rattle.lnfs_operations.specs.declared.Gate.TheVariants.{Outside}
use Rattle.lnfs_operations.specs.Chain.{Refusal, Answer, Done, Refused}
use Rattle.lnfs_operations.specs.Handles.{handle_named}
use Rattle.lnfs_operations.specs.Lookup.{is_link}
use Rattle.lnfs_operations.specs.StateIds.{special, open_at}
use Rattle.lnfs_operations.proofs.Chains.{demand_any, where_any}
use Rattle.lnfs_monitor.specs.Rules.{Read as Reads, Deny, allows}
use Rattle.lnfs_world.specs.World.{is_directory}
use Rattle.lnfs_locks.specs.declared.numbers.TheConstants.{OP_LOCK, OP_LOCKT, OP_LOCKU}
use Rattle.lnfs_locks.specs.Arguments.{Asked, Locker, New, Known, LockArgs, LockTArgs, LockUArgs, lock_args, lockt_args, locku_args}
use Rattle.lnfs_locks.specs.Locks.{Lock, Locks, opening_of}
use Rattle.lnfs_locks.specs.Denial.{Asker, counts_at, is_rival, denial}
use Rattle.lnfs_locks.specs.StateIds.{lock_at, where_lock}
use Rattle.lnfs_locks.specs.Ranges.{is_kind, is_range, for_write, access_for, last_asked, where_range}
use Rattle.lnfs_locks.specs.Effects.{Came, Denied, Free, Holds, locked, unlocked, is_dead, gives_way, gone_by_locking, gone_by_unlocking, has_lock_left, has_ranges_left}
use Rattle.lnfs_locks.specs.Lock.{asker, where_free, where_locker, lock}
use Rattle.lnfs_locks.specs.LockT.{lockt}
use Rattle.lnfs_locks.specs.LockU.{locku}
use Rattle.lnfs_locks.specs.Outcome.{with_arguments, answered}
use Rattle.lnfs_locks.proofs.LockViews.{begun_level, lock_at_level}

-- ---- what goes

pub gone_by_locking_own : (w : World) (p : Place) (client : ℕ) (owner : List ℕ) (n : Node) (a : Asked) (locks : List Lock) → AllByRecursion (λ l. (l.id.level == p.subject) ≡ true) (gone_by_locking w p.moment (asker p client owner) n.id a locks)
gone_by_locking_own w p client owner n a locks =
    all_weaker _ _ (λ l is. either (l.id.level == p.subject) _ _ is.0) _ (all_filter (λ l. Unit {0}) (λ l. is_dead w p.subject l || gives_way w p.moment (asker p client owner) n.id a l) locks (all_anyway _ (λ l. tt) locks))
  where
    either : (b x y : Bool) → (b && x || b && y) ≡ true → b ≡ true
    either true x y e = refl
    either false x y e = e

pub gone_by_unlocking_own : (w : World) (s : ℕ) (locks : List Lock) → AllByRecursion (λ l. (l.id.level == s) ≡ true) (gone_by_unlocking w s locks)
gone_by_unlocking_own w s locks = all_weaker _ _ (λ l is. (and_parts (l.id.level == s) _ is.0).0) _ (all_filter (λ l. Unit {0}) (is_dead w s) locks (all_anyway _ (λ l. tt) locks))

-- ---- behind the tests

abbrev pub AreOf : (level : ℕ) → Answer Came → Type 0
AreOf level (Refused why) = Unit {0}
AreOf level (Done (Denied d)) = Unit {0}
AreOf level (Done Free) = Unit {0}
AreOf level (Done (Holds l gone)) = ((l.id.level == level) ≡ true) × AllByRecursion (λ x. (x.id.level == level) ≡ true) gone

module _ (p : Place) (w : World) where
  abbrev P : Outcome (Answer Came) → Type 0
  P o = AreOf p.subject o.answer

  range_of : (a : Asked) (next : Outcome (Answer Came)) → P next → P (where_range p a next)
  range_of a next is = demand_any P (is_kind a.kind) _ _ tt (λ kind. demand_any P (is_range a) _ _ tt (λ range. is))

  module _ (own : Locks) where
    lock_of : (n : Node) (id : StateId) (next : Open → Lock → Outcome (Answer Came)) → ((o : Open) (l : Lock) → (l.id.level == p.subject) ≡ true → P (next o l)) → P (where_lock own p w n id next)
    lock_of n id next is =
        demand_any P ((handle_named id.other).level == p.subject) _ _ tt (λ level.
        where_any P (lock_at p own.locks n (handle_named id.other)) _ _ (λ l there.
        where_any P (opening_of w l) _ _ (λ o under.
        demand_any P (nat_le id.seqid l.sequence) _ _ tt (λ known.
        demand_any P (id.seqid == 0 || id.seqid == l.sequence) _ _ tt (λ now.
        is o l (lock_at_level p own.locks n (handle_named id.other) l level there)))) tt) tt)

    locker_of : (client : ℕ) (n : Node) (locker : Locker) (next : Open → Lock → Outcome (Answer Came)) → ((o : Open) (l : Lock) → (l.id.level == p.subject) ≡ true → P (next o l)) → P (where_locker own p w client n locker next)
    locker_of client n (New opening owner) next is =
        demand_any P (not (is_some (special opening))) _ _ tt (λ plain.
        demand_any P ((handle_named opening.other).level == p.subject) _ _ tt (λ level.
        where_any P (open_at p w n (handle_named opening.other)) _ _ (λ o there.
        demand_any P (nat_le opening.seqid o.sequence) _ _ tt (λ known.
        demand_any P (opening.seqid == 0 || opening.seqid == o.sequence) _ _ tt (λ now.
        is o _ (begun_level own p client n o owner)))) tt))
    locker_of client n (Known id) next is = lock_of n id next is

    free_of : (site : Site) (n : Node) (who : Asker) (a : Asked) (next : Outcome (Answer Came)) → P next → P (where_free site own p w n who a next)
    free_of site n who a next is = where_any P (denial (is_rival site.dom (counts_at w p.moment) who) n.id a.offset (last_asked a) (for_write a) own.locks) _ _ (λ d there. tt) is

    locking_of : (site : Site) (args : LockArgs) → P (lock site args own p w)
    locking_of site args =
        where_any P p.client _ _ (λ client at.
        range_of args.asked _ (
        where_any P p.current _ _ (λ i set.
        where_any P (node_at w.nodes i) _ _ (λ n there.
        demand_any P (not (is_directory n.kind)) _ _ tt (λ file.
        demand_any P (not (is_link n.kind)) _ _ tt (λ plain.
        demand_any P (not args.reclaim) _ _ tt (λ fresh.
        demand_any P (allows site.dom p.subject (Deny n.label)) _ _ tt (λ label.
        locker_of client n args.locker _ (λ o l level.
        demand_any P (has_any o.access (access_for args.asked)) _ _ tt (λ may.
        free_of site n (asker p client l.owner) args.asked _ (
        demand_any P (has_lock_left w (locked args.asked l) own.locks) _ _ tt (λ few.
        demand_any P (has_ranges_left w (locked args.asked l) own.locks) _ _ tt (λ short.
        (level, gone_by_locking_own w p client l.owner n args.asked own.locks))))))))))) tt) tt)) tt

    testing_of : (site : Site) (args : LockTArgs) → P (lockt site args own p w)
    testing_of site args =
        where_any P p.client _ _ (λ client at.
        range_of args.asked _ (
        where_any P p.current _ _ (λ i set.
        where_any P (node_at w.nodes i) _ _ (λ n there.
        demand_any P (not (is_directory n.kind)) _ _ tt (λ file.
        demand_any P (not (is_link n.kind)) _ _ tt (λ plain.
        demand_any P (allows site.dom p.subject (Reads n.label)) _ _ tt (λ label.
        free_of site n (asker p client args.owner) args.asked _ tt)))) tt) tt)) tt

    unlocking_of : (args : LockUArgs) → P (locku args own p w)
    unlocking_of args =
        range_of args.asked _ (
        where_any P p.current _ _ (λ i set.
        where_any P (node_at w.nodes i) _ _ (λ n there.
        demand_any P (not (is_directory n.kind)) _ _ tt (λ file.
        demand_any P (not (is_link n.kind)) _ _ tt (λ plain.
        lock_of n args.lock _ (λ o l level.
        demand_any P (has_ranges_left w (unlocked args.asked l) own.locks) _ _ tt (λ short.
        (level, gone_by_unlocking_own w p.subject own.locks)))))) tt) tt)

-- what holds of each answer to arguments that are read holds of the answer
pub arguments_any : {A : Type 0} (Q : Answer Came → Type 0) (x : Read ⊥ A) (next : A → Answer Came) → ((why : Refusal) → Q (Refused why)) → ((args : A) → Q (next args)) → Q (with_arguments x next)
arguments_any Q (Ok x) next refused is = is x.0
arguments_any Q (Err stuck) next refused is = refused _

pub are_of : (site : Site) (number : ℕ) (arguments : List ℕ) (own : Locks) (p : Place) (w : World) → AreOf p.subject (answered site number arguments own p w)
are_of site number arguments own p w = by (number == OP_LOCK) (number == OP_LOCKT) (number == OP_LOCKU)
  where
    by : (b c d : Bool) → AreOf p.subject (cond b (with_arguments (read lock_args arguments) (λ args. (lock site args own p w).answer)) (cond c (with_arguments (read lockt_args arguments) (λ args. (lockt site args own p w).answer)) (cond d (with_arguments (read locku_args arguments) (λ args. (locku args own p w).answer)) (Refused (record { gate = Outside; status = NFS4ERR_NOTSUPP })))))
    by true c d = arguments_any (AreOf p.subject) (read lock_args arguments) _ (λ why. tt) (λ args. locking_of p w own site args)
    by false true d = arguments_any (AreOf p.subject) (read lockt_args arguments) _ (λ why. tt) (λ args. testing_of p w own site args)
    by false false true = arguments_any (AreOf p.subject) (read locku_args arguments) _ (λ why. tt) (λ args. unlocking_of p w own args)
    by false false false = tt
