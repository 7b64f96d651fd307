-- What holds of all locks that are kept, beside a world.
use Rattle.std.specs.Prelude.{◌≡◌, ◌≤◌, ◌==◌, ◌&&◌, ℕ, Bool, true, cond, List, length, count_by, sum_by}
use Rattle.std.specs.List.{AllByRecursion}
use Rattle.std.specs.Str.{bytes_eq}
use Rattle.lnfs_arguments.specs.declared.numbers.TheConstants.{OWNER_LIMIT}
use Rattle.lnfs_world.specs.Rows.{Rising, Apart}
use Rattle.lnfs_world.specs.World.{Open, World, level_order, same_id, is_given}
use Rattle.lnfs_ranges.specs.Modes.{AreRuns}
use Rattle.lnfs_locks.specs.declared.numbers.TheConstants.{LOCKS_OF_A_LEVEL, RANGES_OF_A_LEVEL}
use Rattle.lnfs_locks.specs.Locks.{Lock, Locks, Row, lock_order, opening_id, is_live, rows_of, locks_of}

-- its open, if it is there, is of its client and its node
abbrev pub IsUnder : Lock → Open → Type 0
IsUnder l o = same_id (opening_id l) o.id ≡ true → (o.client ≡ l.client) × (same_id l.node o.node ≡ true)

-- two of one open and owner, while the open is there
abbrev pub are_doubles : World → Lock → Lock → Bool
are_doubles w a b = same_id (opening_id a) (opening_id b) && (bytes_eq a.owner b.owner && is_live w a)

abbrev pub locks_at : (level : ℕ) → List Lock → ℕ
locks_at level locks = count_by (λ l. l.id.level == level) locks

abbrev pub ranges_at : (level : ℕ) → List Lock → ℕ
ranges_at level locks = sum_by (λ l. cond (l.id.level == level) (length l.ranges) 0) locks

pub record LockFacts (w : World) (own : Locks) : Type 0 where
  -- both lie in their order, so that identifiers differ
  pub rise : Rising lock_order own.locks
  pub lasts_rise : Rising level_order own.lasts
  -- no identifier is above the last that its level was given, and none of its open above the last open's
  pub given : AllByRecursion (λ l. is_given own.lasts l.id ≡ true) own.locks
  pub opening_given : AllByRecursion (λ l. is_given w.lasts.opens (opening_id l) ≡ true) own.locks
  pub under : AllByRecursion (λ l. AllByRecursion (IsUnder l) w.opens) own.locks
  pub apart : Apart (are_doubles w) own.locks
  pub owners : AllByRecursion (λ l. length l.owner ≤ OWNER_LIMIT) own.locks
  -- rising, disjoint, and as long as their kind lasts
  pub runs : AllByRecursion (λ l. AreRuns l.ranges) own.locks
  pub locks : (level : ℕ) → locks_at level own.locks ≤ LOCKS_OF_A_LEVEL
  pub ranges : (level : ℕ) → ranges_at level own.locks ≤ RANGES_OF_A_LEVEL

-- of the rows: last numbers come first
pub record AreKept (w : World) (rows : List Row) : Type 0 where
  pub facts : LockFacts w (locks_of rows)
  pub order : rows ≡ rows_of (locks_of rows)
