-- The lock that a state id names, and its open, as the code finds them.
use Rattle.std.specs.Prelude.{◌≡◌, ◌≤◌, ◌==◌, ◌||◌, ℕ, true, Some, nat_le, Result, Ok, Err}
use Rattle.lnfs_arguments.specs.declared.stateid.StateId.{StateId}
use Rattle.lnfs_arguments.specs.declared.statuses.TheConstants.{NFS4ERR_OLD_STATEID, NFS4ERR_BAD_STATEID}
use Rattle.lnfs_world.specs.declared.numbers.TheConstants.{LAST_NUMBER}
use Rattle.lnfs_world.specs.World.{Node, Open, World, same_id}
use Rattle.lnfs_world.specs.Outcome.{Place, Outcome}
use Rattle.lnfs_monitor.specs.declared.rule.Rule.TheVariants.{M9}
use Rattle.lnfs_operations.specs.declared.Gate.TheVariants as gates
use Rattle.lnfs_operations.specs.declared.Refusal.{Refusal}
use Rattle.lnfs_operations.specs.Chain.{Answer, refuse, demand, where_there}
use Rattle.lnfs_operations.specs.Handles.{handle_named}
use Rattle.lnfs_open.specs.Listed.{row_of}
use Rattle.lnfs_locks.specs.Locks.{Lock, Locks, opening_of}
use Rattle.lnfs_locks.specs.StateIds as locks
use Rattle.lnfs_locks.specs.StateIds.{where_lock}
use Rattle.lnfs_locks.specs.Effects.{Came}
use Rattle.lnfs_locking.specs.Keys.{id_of}
use Rattle.lnfs_locking.specs.Rows.{lock_of, lock_at}
use Rattle.lnfs_byte_locks.specs.declared.naming.Named.{Named}
use Rattle.lnfs_byte_locks.specs.declared.naming.Told.{Told}

-- ---- the tests of a state id, one after the other

-- the lock that it names, whatever its state
abbrev pub where_told : Locks → Place → Node → StateId → (Lock → Outcome (Answer Came)) → Outcome (Answer Came)
where_told own p n id next =
    demand ((handle_named id.other).level == p.subject) (refuse p (gates.Monitor M9) NFS4ERR_BAD_STATEID) (
    where_there (locks.lock_at p own.locks n (handle_named id.other)) next (refuse p gates.Open NFS4ERR_BAD_STATEID))

-- a lock of a sequence in the state that it names
abbrev pub where_state : Place → StateId → (sequence : ℕ) → Outcome (Answer Came) → Outcome (Answer Came)
where_state p id sequence next =
    demand (nat_le id.seqid sequence) (refuse p gates.Open NFS4ERR_BAD_STATEID) (
    demand (id.seqid == 0 || id.seqid == sequence) (refuse p gates.Open NFS4ERR_OLD_STATEID) next)

-- its open, and then its state
abbrev pub where_opened : Place → World → StateId → (Open → Lock → Outcome (Answer Came)) → Lock → Outcome (Answer Came)
where_opened p w id next l =
    where_there (opening_of w l) (λ o. where_state p id l.sequence (next o l)) (refuse p gates.Open NFS4ERR_BAD_STATEID)

-- ---- what the code finds

abbrev pub lock_told : Told → Lock
lock_told x = lock_of (id_of x.id) x.row.now

-- a lock that a state id names
pub record IsTold (own : Locks) (p : Place) (n : Node) (id : StateId) (x : Told) : Type 0 where
  pub level : x.id.level ≡ p.subject
  pub number : x.id.number ≤ LAST_NUMBER
  pub client : p.client ≡ Some x.row.now.client.number
  pub node : same_id n.id (lock_told x).node ≡ true
  pub there : lock_at own.locks (id_of x.id) ≡ Some (lock_told x)
  pub leads : (next : Lock → Outcome (Answer Came)) → where_told own p n id next ≡ next (lock_told x)

abbrev pub Tells : Locks → Place → Node → StateId → Result Told Refusal → Type 0
Tells own p n id (Ok x) = IsTold own p n id x
Tells own p n id (Err why) = (next : Lock → Outcome (Answer Came)) → where_told own p n id next ≡ refuse p why.gate why.status

abbrev pub lock_in : Named → Lock
lock_in x = lock_of (id_of x.id) x.row.now

abbrev pub open_in : Named → Open
open_in x = row_of (record { level = x.id.level; number = x.row.now.opening }) x.opening.now

-- a lock that a state id names in its present state, and its open
pub record IsNamed (own : Locks) (p : Place) (w : World) (n : Node) (id : StateId) (x : Named) : Type 0 where
  pub level : x.id.level ≡ p.subject
  pub number : x.id.number ≤ LAST_NUMBER
  pub client : p.client ≡ Some x.row.now.client.number
  pub node : same_id n.id (lock_in x).node ≡ true
  pub there : lock_at own.locks (id_of x.id) ≡ Some (lock_in x)
  pub opened : opening_of w (lock_in x) ≡ Some (open_in x)
  pub leads : (next : Open → Lock → Outcome (Answer Came)) → where_lock own p w n id next ≡ next (open_in x) (lock_in x)

-- it is found, or an operation on it is refused
abbrev pub Names : Locks → Place → World → Node → StateId → Result Named Refusal → Type 0
Names own p w n id (Ok x) = IsNamed own p w n id x
Names own p w n id (Err why) = (next : Open → Lock → Outcome (Answer Came)) → where_lock own p w n id next ≡ refuse p why.gate why.status
