-- A lock is kept, and others go with it, by the code's values.
use Rattle.std.specs.Prelude.{◌≡◌, Bool, true, false, List}
use Rattle.std.specs.List.{AllByRecursion}
use Rattle.lnfs_world.specs.World.{is_given}
use Rattle.lnfs_open.specs.Listed.{node_id}
use Rattle.lnfs_ranges.specs.declared.range.LockRange.{LockRange}
use Rattle.lnfs_locks.specs.Locks.{Lock, Locks}
use Rattle.lnfs_locking.specs.Asking.{asker_of}
use Rattle.lnfs_locking.specs.Keys.{id_of}
use Rattle.lnfs_locking.specs.Rows.{with_ranges}
use Rattle.lnfs_byte_locks.specs.declared.standing.Going.{Going}
use Rattle.lnfs_byte_locks.specs.declared.taking.Taken.{Taken}
use Rattle.lnfs_byte_locks.specs.Standing.{goes_by}
use Rattle.lnfs_byte_locks.specs.Taking.{IsBefore}

-- whether a lock goes
abbrev pub goes : Going → Lock → Bool
goes g l =
    goes_by g.counting.opens.now.opens g.counting.clients.now.clients g.counting.moment (asker_of g.rival) (node_id g.node)
    g.wanted.first g.wanted.last g.wanted.write l

-- a lock before, which doesn't go in its new state
pub record Keeps (own : Locks) (x : Taken) (ranges : List LockRange) (going : Going) : Type 0 where
  pub lock : Lock
  pub before : IsBefore own x.client.level.0 x x.opening lock
  pub level : x.client.level.0 ≡ x.id.level
  pub id : lock.id ≡ id_of x.id
  pub given : AllByRecursion (λ l. is_given own.lasts l.id ≡ true) own.locks
  pub stays : goes going (with_ranges x.seq ranges lock) ≡ false
