use Rattle.std.proofs.Common.{◌≡◌, ◌++◌, take}
use Rattle.lnfs_ranges.specs.Modes.{joined, below, AreApart}
use Rattle.lnfs_ranges.proofs.joining.push_below.Given as goal

abbrev pub invariant-loop-range : goal.invariant-loop-range
invariant-loop-range l = record {
  told : l.out.items ≡ joined (l.fn.out.items ++ below l.first (take l.range-index l.ranges));
  apart : AreApart l.out.items;
}
