-- LOCK (RFC 8881 section 18.10).
use Rattle.std.specs.Prelude.{ℕ, ◌&&◌, not, List, [], Option, Some, None, is_some, find}
use Rattle.std.specs.Str.{bytes_eq}
use Rattle.lnfs_arguments.specs.declared.statuses.TheConstants.{NFS4ERR_NOSPC, NFS4ERR_BAD_STATEID, NFS4ERR_OPENMODE, NFS4ERR_OP_NOT_IN_SESSION}
use Rattle.lnfs_world.specs.Effects.{next_id}
use Rattle.lnfs_world.specs.Opens.{has_any}
use Rattle.lnfs_world.specs.World.{Node, Open, World, same_id}
use Rattle.lnfs_world.specs.Outcome.{Site, Place, Outcome, Act}
use Rattle.lnfs_monitor.specs.Rules.{Deny}
use Rattle.lnfs_operations.specs.declared.Gate.TheVariants as gates
use Rattle.lnfs_operations.specs.Chain.{Answer, refuse, done, demand, where_there}
use Rattle.lnfs_operations.specs.Judged.{where_allowed}
use Rattle.lnfs_operations.specs.Handles.{with_current}
use Rattle.lnfs_operations.specs.Files.{where_file}
use Rattle.lnfs_operations.specs.StateIds.{special, where_open}
use Rattle.lnfs_locks.specs.declared.numbers.TheConstants.{NFS4ERR_NO_GRACE}
use Rattle.lnfs_locks.specs.Arguments.{Asked, Locker, New, Known, LockArgs}
use Rattle.lnfs_locks.specs.Locks.{Lock, Locks, opening_id}
use Rattle.lnfs_locks.specs.Denial.{Asker, counts_at, is_rival, denial}
use Rattle.lnfs_locks.specs.StateIds.{where_lock}
use Rattle.lnfs_locks.specs.Ranges.{for_write, access_for, last_asked, where_range}
use Rattle.lnfs_locks.specs.Effects.{Came, Denied, Holds, locked, gone_by_locking, has_lock_left, has_ranges_left}

abbrev pub asker : Place → (client : ℕ) → (owner : List ℕ) → Asker
asker p client owner = record { subject = p.subject; client = record { level = p.subject; number = client }; owner = owner }

-- the next test, or the first lock of another that stands in the way
abbrev pub where_free : Site → Locks → Place → World → Node → Asker → Asked → Outcome (Answer Came) → Outcome (Answer Came)
where_free site own p w n who a next =
    where_there (denial (is_rival site.dom (counts_at w p.moment) who) n.id a.offset (last_asked a) (for_write a) own.locks)
    (λ d. done p (Denied d) [])
    next

-- ---- whose lock it is

-- what an owner has locked under an open of the subject's level
abbrev pub lock_under : Place → List Lock → Open → (owner : List ℕ) → Option Lock
lock_under p locks o owner = find (λ l. same_id (record { level = p.subject; number = o.id.number }) (opening_id l) && bytes_eq l.owner owner) locks

-- a lock that has nothing yet
abbrev pub begun : Locks → Place → (client : ℕ) → Node → Open → (owner : List ℕ) → Lock
begun own p client n o owner = record {
  id = next_id own.lasts p.subject;
  client = client;
  opening = o.id.number;
  owner = owner;
  node = n.id;
  sequence = 0;
  ranges = [];
}

abbrev pub lock_or : Lock → Option Lock → Lock
lock_or new None = new
lock_or new (Some l) = l

-- The open and the lock, by the open and a lock owner, or by the lock (RFC 8881 section 18.10.3).
abbrev pub where_locker : {R : Type 0} → Locks → Place → World → (client : ℕ) → Node → Locker → (Open → Lock → Outcome (Answer R)) → Outcome (Answer R)
where_locker own p w client n (New opening owner) next =
    demand (not (is_some (special opening))) (refuse p gates.Open NFS4ERR_BAD_STATEID) (
    where_open p w n opening (λ o.
    next o (lock_or (begun own p client n o owner) (lock_under p own.locks o owner))))
where_locker own p w client n (Known lock) next = where_lock own p w n lock next

-- ---- the operation

abbrev pub lock : Site → LockArgs → Locks → Act (Answer Came)
lock site args own p w =
    where_there p.client
    (λ client.
    where_range p args.asked (
    with_current p w (λ n.
    where_file p n (
    demand (not args.reclaim) (refuse p gates.Open NFS4ERR_NO_GRACE) (
    where_allowed site p (Deny n.label) (
    where_locker own p w client n args.locker (λ o l.
    demand (has_any o.access (access_for args.asked)) (refuse p gates.Open NFS4ERR_OPENMODE) (
    where_free site own p w n (asker p client l.owner) args.asked (
    demand (has_lock_left w (locked args.asked l) own.locks) (refuse p gates.Quota NFS4ERR_NOSPC) (
    demand (has_ranges_left w (locked args.asked l) own.locks) (refuse p gates.Quota NFS4ERR_NOSPC) (
    done p (Holds (locked args.asked l) (gone_by_locking w p.moment (asker p client l.owner) n.id args.asked own.locks)) [])))))))))))
    (refuse p gates.Session NFS4ERR_OP_NOT_IN_SESSION)
