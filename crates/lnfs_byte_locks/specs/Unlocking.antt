-- LOCKU by the code's values.
use Rattle.std.specs.Prelude.{◌≡◌, ◌≤◌, true, Some, Result, Ok, Err}
use Rattle.lnfs_world.specs.declared.numbers.TheConstants.{LAST_NUMBER}
use Rattle.lnfs_world.specs.World.{Open, World}
use Rattle.lnfs_world.specs.Outcome.{Place, Outcome}
use Rattle.lnfs_operations.specs.declared.Refusal.{Refusal}
use Rattle.lnfs_operations.specs.Chain.{Answer, Done, Refused, refuse}
use Rattle.lnfs_nodes.specs.Trees.{refusal_of}
use Rattle.lnfs_locks.specs.Arguments.{LockUArgs}
use Rattle.lnfs_locks.specs.Locks.{Lock, Locks, opening_of, is_live}
use Rattle.lnfs_locks.specs.StateIds.{where_lock}
use Rattle.lnfs_locks.specs.Ranges.{is_range}
use Rattle.lnfs_locks.specs.Effects.{Came, Holds, gone_by_unlocking}
use Rattle.lnfs_locks.specs.LockU.{locku}
use Rattle.lnfs_locking.specs.Keys.{id_of}
use Rattle.lnfs_locking.specs.Rows.{lock_at, with_ranges}
use Rattle.lnfs_byte_locks.specs.Files.{where_asked_file}
use Rattle.lnfs_byte_locks.specs.Naming.{lock_in, open_in}
use Rattle.lnfs_byte_locks.specs.declared.naming.Named.{Named}
use Rattle.lnfs_byte_locks.specs.declared.locku.Unlocked.{Unlocked}

-- the tests before the limits
abbrev pub where_asked_lock : LockUArgs → Locks → Place → World → (Open → Lock → Outcome (Answer Came)) → Outcome (Answer Came)
where_asked_lock args own p w next = where_asked_file p w args.asked (λ n. where_lock own p w n args.lock next)

-- a lock behind them
pub record IsAsked (args : LockUArgs) (own : Locks) (p : Place) (w : World) (x : Named) : Type 0 where
  pub range : is_range args.asked ≡ true
  pub level : x.id.level ≡ p.subject
  pub number : x.id.number ≤ LAST_NUMBER
  pub there : lock_at own.locks (id_of x.id) ≡ Some (lock_in x)
  pub opened : opening_of w (lock_in x) ≡ Some (open_in x)
  pub leads : (next : Open → Lock → Outcome (Answer Came)) → where_asked_lock args own p w next ≡ next (open_in x) (lock_in x)

abbrev pub FindsAsked : LockUArgs → Locks → Place → World → Result Named Refusal → Type 0
FindsAsked args own p w (Ok x) = IsAsked args own p w x
FindsAsked args own p w (Err why) = (next : Open → Lock → Outcome (Answer Came)) → where_asked_lock args own p w next ≡ refuse p why.gate why.status

-- a lock in the state that it gets
pub record IsUnlocked (args : LockUArgs) (own : Locks) (p : Place) (w : World) (x : Unlocked) : Type 0 where
  pub lock : Lock
  pub same : lock.id ≡ id_of x.id
  pub level : lock.id.level ≡ p.subject
  pub there : lock_at own.locks (id_of x.id) ≡ Some lock
  pub live : is_live w lock ≡ true
  pub answer : (locku args own p w).answer ≡ Done (Holds (with_ranges x.seq x.ranges lock) (gone_by_unlocking w p.subject own.locks))

-- it is changed, or that is refused
abbrev pub Unlocks : LockUArgs → Locks → Place → World → Result Unlocked Refusal → Type 0
Unlocks args own p w (Ok x) = IsUnlocked args own p w x
Unlocks args own p w (Err why) = (locku args own p w).answer ≡ Refused (refusal_of why)
