-- Of what locks can be made.
use Rattle.std.specs.Prelude.{◌≤◌, List}
use Rattle.std.specs.List.{AllByRecursion}
use Rattle.lnfs_world.specs.Rows.{Rising}
use Rattle.lnfs_world.specs.declared.numbers.TheConstants.{LAST_NUMBER}
use Rattle.lnfs_counts.specs.Counters.{FitsCounter}
use Rattle.lnfs_ranges.specs.Modes.{AreRuns}
use Rattle.lnfs_locks.specs.Locks.{Lock, Locks, lock_order}

-- the lock is under a number that can be given, and so is all that it names
pub record IsStorable (l : Lock) : Type 0 where
  pub number : l.id.number ≤ LAST_NUMBER
  pub client : l.client ≤ LAST_NUMBER
  pub opening : l.opening ≤ LAST_NUMBER
  pub node : l.node.number ≤ LAST_NUMBER
  pub runs : AreRuns l.ranges

pub record MakesRows (locks : List Lock) : Type 0 where
  -- in the order of their identifiers, no two of which are the same
  pub rise : Rising lock_order locks
  pub storable : AllByRecursion IsStorable locks

pub record MakesLocks (own : Locks) : Type 0 where
  pub rows : MakesRows own.locks
  -- last numbers that can be given, of levels that can give one
  pub lasts : AllByRecursion FitsCounter own.lasts
