use Rattle.std.proofs.Common.{◌<◌, map}
use Rattle.std.specs.Prelude.{◌^◌}
use Rattle.std.specs.List.{AllByRecursion}
use Rattle.std.specs.Map.Iter.{deref}
use Rattle.lnfs_tree.proofs.laws.law_levels.Given as goal

-- those so far
abbrev pub invariant-loop-level : goal.invariant-loop-level
invariant-loop-level l = AllByRecursion (λ k. k.0 < 2 ^ 32) (map deref l.yielded)
