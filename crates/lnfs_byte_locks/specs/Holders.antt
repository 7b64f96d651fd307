-- Whose lock is asked for, as the code finds it (RFC 8881 section 18.10.3).
use Rattle.std.specs.Prelude.{◌≡◌, ℕ, true, List, [], Option, Some, None, Result, Ok, Err}
use Rattle.lnfs_world.specs.Effects.{next_id}
use Rattle.lnfs_world.specs.World.{Id, Node, Open, World}
use Rattle.lnfs_world.specs.Outcome.{Place, Outcome}
use Rattle.lnfs_operations.specs.declared.Refusal.{Refusal}
use Rattle.lnfs_operations.specs.Chain.{Answer, refuse}
use Rattle.lnfs_ranges.specs.declared.range.LockRange.{LockRange}
use Rattle.lnfs_locks.specs.Arguments.{Locker}
use Rattle.lnfs_locks.specs.Locks.{Lock, Locks}
use Rattle.lnfs_locks.specs.Effects.{Came}
use Rattle.lnfs_locks.specs.Lock.{where_locker}
use Rattle.lnfs_locking.specs.Keys.{id_of}
use Rattle.lnfs_locking.specs.Rows.{lock_at}
use Rattle.lnfs_byte_locks.specs.declared.holders.Holder.{Holder}
use Rattle.lnfs_byte_locks.specs.declared.naming.Told.{Told}
use Rattle.lnfs_byte_locks.specs.Naming.{lock_told}
use Rattle.lnfs_byte_locks.specs.Standing.{is_found}

-- the lock that is there, or one that has nothing yet, under the next number of the subject's level
abbrev pub lock_by : Locks → Place → (client : ℕ) → Node → Holder → Option Told → Lock
lock_by own p client n x None = record {
  id = next_id own.lasts p.subject;
  client = client;
  opening = x.opening;
  owner = x.owner.now;
  node = n.id;
  sequence = 0;
  ranges = [];
}
lock_by own p client n x (Some told) = lock_told told

abbrev pub lock_held : Locks → Place → (client : ℕ) → Node → Holder → Lock
lock_held own p client n x = lock_by own p client n x x.lock

-- what the lock of a holder has, in parts

abbrev pub id_by : Locks → (level : ℕ) → Option Told → Id
id_by own level None = next_id own.lasts level
id_by own level (Some told) = id_of told.id

abbrev pub sequence_by : Option Told → ℕ
sequence_by None = 0
sequence_by (Some told) = told.row.now.seq

abbrev pub ranges_by : Option Told → List LockRange
ranges_by None = []
ranges_by (Some told) = told.row.now.ranges

-- of one that comes, the number of its open
abbrev pub opening_by : Holder → Option Told → Option ℕ
opening_by x None = Some x.opening
opening_by x (Some told) = None

-- one that is there is of the subject's level
abbrev pub IsKeptBy : Locks → (subject : ℕ) → Option Told → Type 0
IsKeptBy own subject None = Unit {0}
IsKeptBy own subject (Some told) = (told.id.level ≡ subject) × (lock_at own.locks (id_of told.id) ≡ Some (lock_told told))

-- Of a lock that is there: its level, its client and its owner, and its open is there. One that comes has such an open.
pub record IsLockOf (own : Locks) (p : Place) (w : World) (client : ℕ) (n : Node) (x : Holder) : Type 0 where
  pub kept : IsKeptBy own p.subject x.lock
  pub client_is : (lock_held own p client n x).client ≡ client
  pub owner_is : (lock_held own p client n x).owner ≡ x.owner.now
  pub found : is_found w.opens (lock_held own p client n x) ≡ true

-- a client and an owner, their open, and what they have locked
pub record IsHolder (own : Locks) (p : Place) (w : World) (client : ℕ) (n : Node) (locker : Locker) (x : Holder) : Type 0 where
  pub opening : Open
  pub access : opening.access ≡ x.access
  pub lock_is : IsLockOf own p w client n x
  pub leads : (next : Open → Lock → Outcome (Answer Came)) → where_locker own p w client n locker next ≡ next opening (lock_held own p client n x)

-- they are found, or an operation for them is refused
abbrev pub FindsHolder : Locks → Place → World → (client : ℕ) → Node → Locker → Result Holder Refusal → Type 0
FindsHolder own p w client n locker (Ok x) = IsHolder own p w client n locker x
FindsHolder own p w client n locker (Err why) = (next : Open → Lock → Outcome (Answer Came)) → where_locker own p w client n locker next ≡ refuse p why.gate why.status
