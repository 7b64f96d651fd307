use Rattle.std.proofs.Common.{◌≡◌, ◌++◌, length, map, take}
use Rattle.std.specs.List.{flat_map, AllByRecursion}
use Rattle.lnfs_xdr.specs.Canon.{long}
use Rattle.lnfs_layout.specs.Texts.{range_text}
use Rattle.lnfs_layout.specs.Fits.{RangeFits}
use Rattle.lnfs_layout.proofs.put_locks.put_ranges.Given as goal

abbrev pub invariant-loop-range : goal.invariant-loop-range
invariant-loop-range l = record {
  text : l.out ≡ l.fn.out ++ (long (length l.ranges) ++ flat_map range_text (map (λ r. r) (take l.range-index l.ranges)));
  fit : AllByRecursion RangeFits (map (λ r. r) (take l.range-index l.ranges));
}
