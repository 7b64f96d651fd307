use Rattle.std.proofs.Common.{◌≡◌, ◌+◌, ◌≤◌, max}
use Rattle.lnfs_format.proofs.RangeLemmas.{between}
use Rattle.lnfs_format.proofs.reading.insert_range.Given as goal

abbrev pub invariant-loop-comp : goal.invariant-loop-comp
invariant-loop-comp l = record {
  most : l.comp ≤ max l.low (l.high + 1);
  label : l.label ≡ between l.fn.label l.low l.comp;
}
