use Rattle.std.proofs.Common.{◌∙◌}
use Rattle.lnfs_session.proofs.LastNumbers.{told_next}
use Rattle.lnfs_session.proofs.records.Records.last_numbers.Goals as goal

pub loop-level-preserved : goal.loop-level-preserved
loop-level-preserved c = told_next c.args.self.now.lasts c.loop-level.level _ _ _ c.loop-level.invariant (c.from.ensures ∙ c.last.ensures) c.in_ok-push.ensures.items
