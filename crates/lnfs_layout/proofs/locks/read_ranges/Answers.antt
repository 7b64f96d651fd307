use Rattle.std.proofs.Common.{◌∙◌}
use Rattle.lnfs_layout.specs.Grammar.{range_row}
use Rattle.lnfs_layout.proofs.Steps.{item_read}
use Rattle.lnfs_layout.proofs.locks.read_ranges.Goals as goal

pub loop-preserved : goal.loop-preserved
loop-preserved c = record {
  so_far = item_read range_row _ _ _ _ _ _ _ _ c.in_ok-push.ensures.items c.loop-test.true c.in_ok-read_range.ensures.0 c.loop.invariant.so_far;
  total = c.in_ok-read_range.ensures.1 ∙ c.loop.invariant.total;
}
