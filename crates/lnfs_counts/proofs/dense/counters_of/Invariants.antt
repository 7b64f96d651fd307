use Rattle.std.proofs.Common.{drop}
use Rattle.lnfs_rows.specs.Lasts.{given_of}
use Rattle.lnfs_counts.proofs.Made.{IsMade}
use Rattle.lnfs_counts.proofs.dense.counters_of.Given as goal

-- the counters of the levels before
abbrev pub invariant-loop-level : goal.invariant-loop-level
invariant-loop-level l = IsMade (given_of l.lasts) l.counters.entries l.level (drop l.level l.lasts)
