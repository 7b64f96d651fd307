-- Regions of zeros: bytes that are cleared, and blocks without data.
use Rattle.std.specs.Prelude.{◌≡◌, ◌<◌, ◌≤◌, ℕ, zero, suc, ◌+◌, ◌-◌, ◌*◌, ◌/◌, ◌==◌, ◌&&◌, ◌||◌, Bool, true, false, not, cond, min, max, List, [], ◌∷◌, ◌++◌, length, take, drop, replicate, nat_le, nat_lt}
use Rattle.lnfs_world.specs.Effects.{read_at}
use Rattle.lnfs_content.specs.declared.limits.TheConstants.{BLOCK}

-- bytes with zeros from one offset up to another; how many there are stays
abbrev pub zeroed : (first end : ℕ) → List ℕ → List ℕ
zeroed first end content = take first content ++ (replicate (min end (length content) - first) 0 ++ drop (max first end) content)

-- whether a byte is in the region
abbrev pub has_region : (first end : ℕ) → List ℕ → Bool
has_region first end content = nat_lt first (min end (length content))

-- whether two ranges of so many bytes have none in common
abbrev pub lie_apart : (from to count : ℕ) → Bool
lie_apart from to count = nat_le (from + count) to || nat_le (to + count) from

-- zeros alone
abbrev pub is_zeros : List ℕ → Bool
is_zeros [] = true
is_zeros (b ∷ bytes) = (b == 0) && is_zeros bytes

-- the bytes of the block in which an offset is
abbrev pub block_at : ℕ → List ℕ → List ℕ
block_at offset content = read_at (BLOCK * (offset / BLOCK)) BLOCK content

-- whether an offset is in a block of the wanted sort: with data, or a hole, which is zeros alone
abbrev pub is_data : List ℕ → ℕ → Bool
is_data content offset = not (is_zeros (block_at offset content))

abbrev pub is_hole : List ℕ → ℕ → Bool
is_hole content offset = is_zeros (block_at offset content)

-- the first of so many offsets that is wanted, or the one behind them
abbrev pub first_from : (ℕ → Bool) → (offset count : ℕ) → ℕ
first_from wanted offset zero = offset
first_from wanted offset (suc count) = cond (wanted offset) offset (first_from wanted (offset + 1) count)

-- the least offset not below one that is in a block with data, or in a hole, and how many bytes there are where none is
abbrev pub next_data : (from : ℕ) → List ℕ → ℕ
next_data from content = min (length content) (first_from (is_data content) from (length content - from))

abbrev pub next_hole : (from : ℕ) → List ℕ → ℕ
next_hole from content = min (length content) (first_from (is_hole content) from (length content - from))

-- whether bytes are of the wanted sort
abbrev pub has_sort : (filled : Bool) → List ℕ → Bool
has_sort filled bytes = cond filled (not (is_zeros bytes)) (is_zeros bytes)

-- the first place from one on that is wanted, or the end
pub record IsFirst (wanted : ℕ → Bool) (from end answer : ℕ) : Type 0 where
  pub begun : from ≤ answer
  pub within : answer ≤ end
  pub before : (i : ℕ) → from ≤ i → i < answer → wanted i ≡ false
  pub here : answer < end → wanted answer ≡ true
