-- Locks: what is kept of each, and of each level the last number that was given.
use Rattle.std.specs.Prelude.{ℕ, Bool, List, Option, is_some, find, ◌⊎◌}
use Rattle.std.proofs.Common.{inl, inr}
use Rattle.std.specs.declared.cmp.Ordering.{Ordering}
use Rattle.lnfs_world.specs.World.{Id, Open, World, id_order, same_id}
use Rattle.lnfs_ranges.specs.declared.range.LockRange.{LockRange}
use Rattle.lnfs_beside.specs.Sides.{lefts, rights, both_rows}

-- What a lock owner has locked of a file under an open (RFC 8881 section 9.1).
pub record Lock : Type 0 where
  pub id : Id
  -- the number of its client, which is of the same level
  pub client : ℕ
  -- the number of its open in that level
  pub opening : ℕ
  -- the opaque name of the lock owner
  pub owner : List ℕ
  pub node : Id
  pub sequence : ℕ
  pub ranges : List LockRange

pub record Locks : Type 0 where
  -- of each level the last identifier that was given, in the order of levels
  pub lasts : List Id
  -- in the order of their identifiers
  pub locks : List Lock

abbrev pub lock_order : Lock → Lock → Ordering
lock_order a b = id_order a.id b.id

abbrev pub client_of : Lock → Id
client_of l = record { level = l.id.level; number = l.client }

abbrev pub opening_id : Lock → Id
opening_id l = record { level = l.id.level; number = l.opening }

-- the open under which it was taken
abbrev pub opening_of : World → Lock → Option Open
opening_of w l = find (λ o. same_id (opening_id l) o.id) w.opens

-- A lock lasts as long as its open (RFC 8881 section 18.2.3).
abbrev pub is_live : World → Lock → Bool
is_live w l = is_some (opening_of w l)

-- ---- as rows of a level each

abbrev pub Row : Type 0
Row = Id ⊎ Lock

abbrev pub level_of : Row → ℕ
level_of (inl last) = last.level
level_of (inr l) = l.id.level

abbrev pub rows_of : Locks → List Row
rows_of own = both_rows own.lasts own.locks

abbrev pub locks_of : List Row → Locks
locks_of rows = record { lasts = lefts rows; locks = rights rows }
