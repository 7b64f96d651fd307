-- Which range may come next in a list of runs.
use Rattle.std.specs.Prelude.{◌≡◌, ◌<◌, ◌≤◌, false, Option, Some, None}
use Rattle.lnfs_ranges.specs.declared.range.LockRange.{LockRange}
use Rattle.lnfs_ranges.specs.Modes.{touches}

-- it has an offset, and lies behind the last one so far, but is no part of its run
abbrev pub IsNext : (end : Option LockRange) → LockRange → Type 0
IsNext None r = r.first ≤ r.last
IsNext (Some end) r = (r.first ≤ r.last) × (end.last < r.first) × (touches end r ≡ false)
