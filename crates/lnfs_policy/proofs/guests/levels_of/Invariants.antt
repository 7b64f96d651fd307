use Rattle.std.proofs.Common.{take}
use Rattle.lnfs_policy.specs.Guests.{AreLevelsOf}
use Rattle.lnfs_policy.proofs.guests.levels_of.Given as goal

-- the levels are those of the lines so far
abbrev pub invariant-loop-line : goal.invariant-loop-line
invariant-loop-line l = AreLevelsOf (take l.line-index l.lines) l.levels
