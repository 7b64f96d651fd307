-- LOCK by the code's values.
use Rattle.std.specs.Prelude.{◌≡◌, ℕ, List, Result, Ok, Err}
use Rattle.lnfs_world.specs.World.{Node, World}
use Rattle.lnfs_world.specs.Outcome.{Site, Place}
use Rattle.lnfs_ranges.specs.declared.range.LockRange.{LockRange}
use Rattle.lnfs_engine.specs.declared.extra.ExtraRan.{ExtraRan}
use Rattle.lnfs_locks.specs.Arguments.{Asked, LockArgs}
use Rattle.lnfs_locks.specs.Locks.{Lock, Locks}
use Rattle.lnfs_locks.specs.Lock.{lock}
use Rattle.lnfs_byte_locks.specs.declared.taking.Taken.{Taken}
use Rattle.lnfs_byte_locks.specs.declared.taking.Taking.{Taking}
use Rattle.lnfs_byte_locks.specs.Answers.{Ends}
use Rattle.lnfs_byte_locks.specs.Taking.{IsTaken, answer_of}

-- the lock that is taken, its client and its file
pub record Takes (a : Asked) (own : Locks) (p : Place) (w : World) (x : Taken) (ranges : List LockRange) : Type 0 where
  pub client : ℕ
  pub node : Node
  pub lock : Lock
  pub taken : IsTaken a own p w client node lock x ranges

-- A lock is taken, and answered, or else the locks stay and all is said.
pub record WillTake (site : Site) (args : LockArgs) (own : Locks) (p : Place) (w : World) (x : Taking) : Type 0 where
  pub takes : Takes args.asked own p w x.taken x.ranges
  pub answer : (lock site args own p w).answer ≡ answer_of args.asked own p w takes.client takes.node takes.lock

abbrev pub Comes : Site → LockArgs → Locks → Place → World → Result Taking ExtraRan → Type 0
Comes site args own p w (Ok x) = WillTake site args own p w x
Comes site args own p w (Err ran) = Ends (lock site args own p w).answer ran own own
