-- What the rows of locks stand for.
use Rattle.std.specs.Prelude.{◌≡◌, ℕ, List, Option, Some, None, find}
use Rattle.std.specs.List.{AllByRecursion}
use Rattle.std.specs.Borrow.{Bor}
use Rattle.lnfs_world.specs.Rows.{inserted}
use Rattle.lnfs_world.specs.World.{Id, same_id}
use Rattle.lnfs_counts.specs.Counted.{order_by}
use Rattle.lnfs_open.specs.Listed.{node_id}
use Rattle.lnfs_ranges.specs.declared.range.LockRange.{LockRange}
use Rattle.lnfs_locks.specs.Locks.{Lock}
use Rattle.lnfs_locking.specs.declared.keys.Key.{Key}
use Rattle.lnfs_locking.specs.declared.keys.LockRow.{LockRow}
use Rattle.lnfs_locking.specs.Keys.{id_of}

abbrev pub lock_id : Lock → Id
lock_id l = l.id

abbrev pub lock_at : List Lock → Id → Option Lock
lock_at locks i = find (λ l. same_id i l.id) locks

-- the lock of an identifier
abbrev pub lock_of : Id → LockRow → Lock
lock_of i r = record {
  id = i;
  client = r.client.number;
  opening = r.opening;
  owner = r.owner;
  node = node_id r.node;
  sequence = r.seq;
  ranges = r.ranges;
}

abbrev pub entry_of : Key × LockRow → Lock
entry_of e = lock_of (id_of e.0) e.1

-- what was found, under its identifier
abbrev pub found_of : Key × Bor LockRow → Lock
found_of f = lock_of (id_of f.0) f.1.now

-- each lock is of the level of its client
abbrev pub AreOwn : List (Key × LockRow) → Type 0
AreOwn es = AllByRecursion (λ e. e.1.client.level.0 ≡ e.0.level) es

-- a lock with other ranges and another sequence
abbrev pub with_ranges : (sequence : ℕ) → List LockRange → Lock → Lock
with_ranges sequence ranges l = record l { sequence = sequence; ranges = ranges }

-- the locks after one of them, where it is there, has another state
abbrev pub rows_with : (Lock → Lock) → Option Lock → List Lock → List Lock
rows_with g None locks = locks
rows_with g (Some l) locks = inserted (order_by lock_id) (g l) locks
