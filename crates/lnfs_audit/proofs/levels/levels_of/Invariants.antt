use Rattle.std.proofs.Common.{take}
use Rattle.lnfs_audit.specs.Levels.{AreLevels}
use Rattle.lnfs_audit.proofs.levels.levels_of.Given as goal

abbrev pub invariant-loop-event : goal.invariant-loop-event
invariant-loop-event g l = AreLevels g.M.Mechanism.signing l.policy (take l.event-index l.events) l.levels.items
