use Rattle.std.proofs.Common.{◌≤◌, ◌+◌, ◌++◌, List, take}
use Rattle.lnfs_ranges.specs.declared.range.LockRange.{LockRange}
use Rattle.lnfs_ranges.specs.Modes.{joined, below, AreApart}
use Rattle.lnfs_ranges.specs.Tallying.{Tells}
use Rattle.lnfs_ranges.proofs.tally.count_below.Given as goal

abbrev pub invariant-loop-range : goal.invariant-loop-range
invariant-loop-range l = record {
  told : (xs : List LockRange) → AreApart xs → Tells l.fn.tally xs → Tells l.tally (joined (xs ++ below l.first (take l.range-index l.ranges)));
  long : l.tally.len ≤ l.fn.tally.len + l.range-index;
}
