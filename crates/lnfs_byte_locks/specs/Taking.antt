-- A lock that LOCK takes, by the code's values.
use Rattle.std.specs.Prelude.{◌≡◌, ◌&&◌, ℕ, true, false, List, [], Option, Some, None}
use Rattle.lnfs_world.specs.Effects.{next_id}
use Rattle.lnfs_world.specs.World.{Node, World}
use Rattle.lnfs_world.specs.Outcome.{Place}
use Rattle.lnfs_operations.specs.Chain.{Answer, Done}
use Rattle.lnfs_open.specs.Listed.{node_id}
use Rattle.lnfs_ranges.specs.declared.range.LockRange.{LockRange}
use Rattle.lnfs_locks.specs.Arguments.{Asked}
use Rattle.lnfs_locks.specs.Locks.{Lock, Locks}
use Rattle.lnfs_locks.specs.Ranges.{for_write, last_asked}
use Rattle.lnfs_locks.specs.Effects.{Came, Holds, locked, gone_by_locking, has_lock_left, has_ranges_left}
use Rattle.lnfs_locks.specs.Lock.{asker}
use Rattle.lnfs_locking.specs.Keys.{id_of}
use Rattle.lnfs_locking.specs.Rows.{lock_at, with_ranges}
use Rattle.lnfs_byte_locks.specs.declared.taking.Taken.{Taken}
use Rattle.lnfs_byte_locks.specs.declared.taking.Taking.{Taking}
use Rattle.lnfs_byte_locks.specs.Standing.{is_found}

-- the lock before: one that is there, or a new one under an open
abbrev pub IsBefore : Locks → (subject : ℕ) → Taken → Option ℕ → Lock → Type 0
IsBefore own subject x None l = lock_at own.locks (id_of x.id) ≡ Some l
IsBefore own subject x (Some opening) l =
    (id_of x.id ≡ next_id own.lasts subject)
    × (l ≡ record { id = id_of x.id; client = x.client.number; opening = opening; owner = x.owner; node = node_id x.node; sequence = 0; ranges = [] })

-- whose lock is taken, of which file, and in which state
pub record IsTaken (a : Asked) (own : Locks) (p : Place) (w : World) (client : ℕ) (n : Node) (l : Lock) (x : Taken) (ranges : List LockRange) : Type 0 where
  pub before : IsBefore own p.subject x x.opening l
  pub id : l.id ≡ id_of x.id
  pub level : x.id.level ≡ p.subject
  pub client_level : x.client.level.0 ≡ p.subject
  pub asking : x.client.number ≡ client
  pub client_is : l.client ≡ x.client.number
  pub node : node_id x.node ≡ n.id
  pub owner : l.owner ≡ x.owner
  pub found : is_found w.opens l ≡ true
  pub first : x.wanted.first ≡ a.offset
  pub last : x.wanted.last ≡ last_asked a
  pub write : x.wanted.write ≡ for_write a
  pub state : locked a l ≡ with_ranges x.seq ranges l

-- It is taken where the limits of the level allow it.
abbrev pub MayTake : Asked → Locks → Place → World → (client : ℕ) → Node → Lock → Option Taking → Type 0
MayTake a own p w client n l None = (has_lock_left w (locked a l) own.locks && has_ranges_left w (locked a l) own.locks) ≡ false
MayTake a own p w client n l (Some x) =
    ((has_lock_left w (locked a l) own.locks && has_ranges_left w (locked a l) own.locks) ≡ true)
    × IsTaken a own p w client n l x.taken x.ranges

-- what is answered of it
abbrev pub answer_of : Asked → Locks → Place → World → (client : ℕ) → Node → Lock → Answer Came
answer_of a own p w client n l = Done (Holds (locked a l) (gone_by_locking w p.moment (asker p client l.owner) n.id a own.locks))
