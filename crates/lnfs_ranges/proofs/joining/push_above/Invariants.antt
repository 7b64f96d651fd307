use Rattle.std.proofs.Common.{◌≡◌, ◌++◌, take}
use Rattle.lnfs_ranges.specs.Modes.{joined, above, AreApart}
use Rattle.lnfs_ranges.proofs.joining.push_above.Given as goal

abbrev pub invariant-loop-range : goal.invariant-loop-range
invariant-loop-range l = record {
  told : l.out.items ≡ joined (l.fn.out.items ++ above l.last (take l.range-index l.ranges));
  apart : AreApart l.out.items;
}
