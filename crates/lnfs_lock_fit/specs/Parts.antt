-- What is asked of each lock, but for its identifier.
use Rattle.std.specs.Prelude.{◌≡◌, ◌≤◌, true, length}
use Rattle.std.specs.List.{AllByRecursion}
use Rattle.lnfs_arguments.specs.declared.numbers.TheConstants.{OWNER_LIMIT}
use Rattle.lnfs_world.specs.Outcome.{Site}
use Rattle.lnfs_world.specs.World.{World, is_given}
use Rattle.lnfs_world.specs.declared.numbers.TheConstants.{LAST_NUMBER, LAST_SEQUENCE}
use Rattle.lnfs_operations.specs.Sizes.{IsBetween}
use Rattle.lnfs_operations.specs.Bounds.{IsGivenBy}
use Rattle.lnfs_ranges.specs.Modes.{AreRuns}
use Rattle.lnfs_locks.specs.declared.numbers.TheConstants.{LAST_OFFSET}
use Rattle.lnfs_locks.specs.Locks.{Lock, opening_id}
use Rattle.lnfs_locks.specs.Facts.{IsUnder}

-- its numbers and its owner
pub record HasNumbers (l : Lock) : Type 0 where
  pub client : IsBetween 1 LAST_NUMBER l.client
  pub opening : IsBetween 1 LAST_NUMBER l.opening
  pub sequence : IsBetween 1 LAST_SEQUENCE l.sequence
  pub owner : length l.owner ≤ OWNER_LIMIT

-- its ranges
pub record HasRanges (l : Lock) : Type 0 where
  pub runs : AreRuns l.ranges
  pub ends : AllByRecursion (λ r. r.last ≤ LAST_OFFSET) l.ranges

-- its open, beside those that are there
pub record HasOpening (w : World) (l : Lock) : Type 0 where
  pub given : is_given w.lasts.opens (opening_id l) ≡ true
  pub under : AllByRecursion (IsUnder l) w.opens

pub record IsFitLock (site : Site) (w : World) (l : Lock) : Type 0 where
  pub numbers : HasNumbers l
  pub node : IsGivenBy site l.node
  pub ranges : HasRanges l
  pub opening : HasOpening w l
