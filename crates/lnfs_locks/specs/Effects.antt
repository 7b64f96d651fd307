-- What LOCK and LOCKU do to locks, and the limits of a level.
use Rattle.std.specs.Prelude.{ℕ, ◌==◌, ◌&&◌, ◌||◌, Bool, not, cond, List, length, filter, find, Option, Some, None, is_some, nat_le, sum_by}
use Rattle.std.specs.List.{list_any}
use Rattle.lnfs_types.specs.declared.event.Moment.{Moment}
use Rattle.lnfs_world.specs.declared.numbers.TheConstants.{LAST_NUMBER}
use Rattle.lnfs_world.specs.Opens.{sequence_after}
use Rattle.lnfs_world.specs.Rows.{inserted}
use Rattle.lnfs_world.specs.World.{Id, World, same_id, level_order, is_given}
use Rattle.lnfs_ranges.specs.Modes.{set, conflicts}
use Rattle.lnfs_locks.specs.declared.numbers.TheConstants.{LOCKS_OF_A_LEVEL, RANGES_OF_A_LEVEL}
use Rattle.lnfs_locks.specs.Arguments.{Asked}
use Rattle.lnfs_locks.specs.Locks.{Lock, Locks, lock_order, is_live}
use Rattle.lnfs_locks.specs.Denial.{Asker, Denial, is_own, is_leased}
use Rattle.lnfs_locks.specs.Ranges.{for_write, last_asked}

-- what an operation comes to whose other tests are passed
pub data Came : Type 0 where
  -- another's lock stands in the way
  Denied : Denial → Came
  -- none does
  Free : Came
  -- a lock in its new state, and the locks that go
  Holds : (lock : Lock) (gone : List Lock) → Came

-- ---- the lock

-- with what is asked at each offset of the range, and one sequence later (RFC 8881 section 9.2)
abbrev pub with_mode : Asked → (mode : Option Bool) → Lock → Lock
with_mode a mode l = record l { sequence = sequence_after l.sequence; ranges = set l.ranges a.offset (last_asked a) mode }

abbrev pub locked : Asked → Lock → Lock
locked a l = with_mode a (Some (for_write a)) l

abbrev pub unlocked : Asked → Lock → Lock
unlocked a l = with_mode a None l

-- ---- the locks that go, all of its level

-- one whose open has ended
abbrev pub is_dead : World → (level : ℕ) → Lock → Bool
is_dead w level l = l.id.level == level && not (is_live w l)

-- One of the asker's own level, of another client or owner, that would stand in the way if its client's lease weren't over
-- (RFC 8881 section 8.4.3).
abbrev pub gives_way : World → Moment → Asker → (node : Id) → Asked → Lock → Bool
gives_way w moment asker node a l =
    l.id.level == asker.subject && (same_id node l.node && (not (is_own asker l) && (is_live w l && (not (is_leased w moment l)
    && is_some (find (conflicts a.offset (last_asked a) (for_write a)) l.ranges)))))

abbrev pub gone_by_locking : World → Moment → Asker → (node : Id) → Asked → List Lock → List Lock
gone_by_locking w moment asker node a locks = filter (λ l. is_dead w asker.subject l || gives_way w moment asker node a l) locks

abbrev pub gone_by_unlocking : World → (level : ℕ) → List Lock → List Lock
gone_by_unlocking w level locks = filter (is_dead w level) locks

-- ---- what is kept

-- an identifier that is given is the last one of its level
abbrev pub given : Id → List Id → List Id
given i lasts = cond (is_given lasts i) lasts (inserted level_order i lasts)

abbrev pub is_one_of : List Lock → Lock → Bool
is_one_of gone l = list_any (λ x. same_id x.id l.id) gone

-- with a lock in its new state, and without those that go
abbrev pub kept_with : Lock → (gone : List Lock) → Locks → Locks
kept_with l gone own = record { lasts = given l.id own.lasts; locks = inserted lock_order l (filter (λ x. not (is_one_of gone x)) own.locks) }

-- ---- limits

-- the locks of its level with a lock in its new state: those whose opens are there, also where they would give way
abbrev pub live_with : World → Lock → List Lock → List Lock
live_with w l locks = inserted lock_order l (filter (λ x. x.id.level == l.id.level && is_live w x) locks)

-- whether the level may have so many, and has a number for this one
abbrev pub has_lock_left : World → Lock → List Lock → Bool
has_lock_left w l locks = nat_le (length (live_with w l locks)) LOCKS_OF_A_LEVEL && nat_le l.id.number LAST_NUMBER

abbrev pub has_ranges_left : World → Lock → List Lock → Bool
has_ranges_left w l locks = nat_le (sum_by (λ x. length x.ranges) (live_with w l locks)) RANGES_OF_A_LEVEL
