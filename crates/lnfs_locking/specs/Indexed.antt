-- How locks are found by their node, and what is kept beside them.
use Rattle.std.specs.Prelude.{◌≡◌, ℕ, Bool, false, map, List, Option, Some, None}
use Rattle.lnfs_world.specs.World.{Id, same_id, last_of}
use Rattle.lnfs_world.specs.Rows.{Rising}
use Rattle.lnfs_counts.specs.Counted.{order_by}
use Rattle.lnfs_counts.specs.Counters.{Counters, last_at, lasts_of}
use Rattle.lnfs_locks.specs.Locks.{Lock}
use Rattle.lnfs_locking.specs.declared.keys.Key.{Key}
use Rattle.lnfs_locking.specs.declared.keys.LockRow.{LockRow}
use Rattle.lnfs_locking.specs.declared.groups.Groups.{Groups}
use Rattle.lnfs_locking.specs.Rows.{lock_id, lock_at, entry_of, AreOwn}
use Rattle.lnfs_locking.specs.Groups.{holds}

-- whether there is one that passes a test
abbrev pub passes : (Lock → Bool) → Option Lock → Bool
passes test None = false
passes test (Some l) = test l

pub record AreIndexed (rows : List (Key × LockRow)) (index : Groups) : Type 0 where
  pub own : AreOwn rows
  pub rise : Rising (order_by lock_id) (map entry_of rows)
  pub nodes : (node i : Id) → holds index node i ≡ passes (λ l. same_id node l.node) (lock_at (map entry_of rows) i)

pub record IsKept (rows : List (Key × LockRow)) (counters : Counters) (index : Groups) : Type 0 where
  pub indexed : AreIndexed rows index
  -- the last number of a level is found under it
  pub lasting : (level : ℕ) → last_of level (lasts_of counters.entries) ≡ last_at counters level
