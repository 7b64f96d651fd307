use Rattle.std.proofs.Common.{drop}
use Rattle.lnfs_ranges.proofs.Followed.{AreTold}
use Rattle.lnfs_ranges.proofs.runs.are_runs.Given as goal

-- what is left to be looked at
abbrev pub invariant-loop-range : goal.invariant-loop-range
invariant-loop-range l = AreTold l.ranges l.end (drop l.range-index l.ranges)
