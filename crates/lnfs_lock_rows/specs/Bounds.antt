-- What bounds the rows of all locks that are kept, beside what holds of them in their world (`LockFacts`): levels and numbers,
-- by the levels of the site.
use Rattle.std.specs.Prelude.{◌≤◌}
use Rattle.std.specs.List.{AllByRecursion}
use Rattle.lnfs_world.specs.Outcome.{Site}
use Rattle.lnfs_world.specs.World.{World}
use Rattle.lnfs_world.specs.declared.numbers.TheConstants.{LAST_NUMBER, LAST_SEQUENCE}
use Rattle.lnfs_operations.specs.Sizes.{IsBetween}
use Rattle.lnfs_operations.specs.Bounds.{IsGivenBy}
use Rattle.lnfs_locks.specs.declared.numbers.TheConstants.{LAST_OFFSET}
use Rattle.lnfs_locks.specs.Locks.{Lock, Locks}
use Rattle.lnfs_locks.specs.Facts.{LockFacts}

-- A client and an open are of the lock's level.
pub record LockBounds (site : Site) (l : Lock) : Type 0 where
  pub id : IsGivenBy site l.id
  pub client : IsBetween 1 LAST_NUMBER l.client
  pub opening : IsBetween 1 LAST_NUMBER l.opening
  pub node : IsGivenBy site l.node
  -- the sequence of a state id never is 0 (RFC 8881 section 8.2.2)
  pub sequence : IsBetween 1 LAST_SEQUENCE l.sequence
  -- no range goes past the last offset of a file (section 18.10.3)
  pub ranges : AllByRecursion (λ r. r.last ≤ LAST_OFFSET) l.ranges

pub record LocksBounded (site : Site) (own : Locks) : Type 0 where
  pub locks : AllByRecursion (LockBounds site) own.locks
  -- last numbers, of levels that gave one
  pub lasts : AllByRecursion (IsGivenBy site) own.lasts

-- all that holds of the locks that a server has beside a world
pub record LocksFit (site : Site) (w : World) (own : Locks) : Type 0 where
  pub facts : LockFacts w own
  pub bounds : LocksBounded site own
