use Rattle.std.proofs.Common.{◌∙◌}
use Rattle.lnfs_counts.proofs.Made.{one_told}
use Rattle.lnfs_counts.proofs.dense.last_numbers.Goals as goal

pub loop-level-preserved : goal.loop-level-preserved
loop-level-preserved c =
    one_told c.args.counters.now.entries c.loop-level.level c.loop-level.numbers.items c.push.new.self.items c.from.result c.len-count.ensures.ordered c.loop-level.invariant (c.from.ensures ∙ c.last_given.ensures) c.in_ok-push.ensures.items
