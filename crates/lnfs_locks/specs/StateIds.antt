-- State ids of locks (RFC 8881 section 8.2): a level, and a number above those of all opens.
use Rattle.std.specs.Prelude.{◌+◌, ◌^◌, ◌==◌, ◌&&◌, ◌||◌, List, Option, find, nat_le}
use Rattle.lnfs_arguments.specs.declared.stateid.StateId.{StateId}
use Rattle.lnfs_arguments.specs.declared.statuses.TheConstants.{NFS4ERR_OLD_STATEID, NFS4ERR_BAD_STATEID}
use Rattle.lnfs_world.specs.World.{Id, Node, Open, World, same_id}
use Rattle.lnfs_world.specs.Outcome.{Place, Outcome}
use Rattle.lnfs_monitor.specs.declared.rule.Rule.TheVariants.{M9}
use Rattle.lnfs_operations.specs.declared.Gate.TheVariants as gates
use Rattle.lnfs_operations.specs.Chain.{Answer, refuse, demand, where_there}
use Rattle.lnfs_operations.specs.Handles.{handle_of, handle_named}
use Rattle.lnfs_operations.specs.StateIds.{is_client}
use Rattle.lnfs_locks.specs.Locks.{Lock, Locks, opening_of}

-- Opens have numbers of 32 bits, so that no state id is of an open and of a lock.
abbrev pub told_id : Id → Id
told_id i = record { level = i.level; number = 2 ^ 32 + i.number }

abbrev pub state_of : Lock → StateId
state_of l = record { seqid = l.sequence; other = handle_of (told_id l.id) }

-- the lock of a told identifier that is of the client under which the operation came, and of a node
abbrev pub lock_at : Place → List Lock → Node → Id → Option Lock
lock_at p locks n i = find (λ l. same_id i (told_id l.id) && (is_client p.client l.client && same_id n.id l.node)) locks

-- The lock that a state id names, in its present state, and its open, which has to be there. The sequence 0 stands for any
-- (RFC 8881 section 8.2.2).
abbrev pub where_lock : {R : Type 0} → Locks → Place → World → Node → StateId → (Open → Lock → Outcome (Answer R)) → Outcome (Answer R)
where_lock own p w n id next =
    demand ((handle_named id.other).level == p.subject) (refuse p (gates.Monitor M9) NFS4ERR_BAD_STATEID) (
    where_there (lock_at p own.locks n (handle_named id.other))
    (λ l. where_there (opening_of w l)
    (λ o.
    demand (nat_le id.seqid l.sequence) (refuse p gates.Open NFS4ERR_BAD_STATEID) (
    demand (id.seqid == 0 || id.seqid == l.sequence) (refuse p gates.Open NFS4ERR_OLD_STATEID) (
    next o l)))
    (refuse p gates.Open NFS4ERR_BAD_STATEID))
    (refuse p gates.Open NFS4ERR_BAD_STATEID))
