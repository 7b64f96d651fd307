use Rattle.std.proofs.Common.{◌∙◌}
use Rattle.lnfs_rows.specs.Told.{open_of}
use Rattle.lnfs_layout.specs.Grammar.{open_row}
use Rattle.lnfs_layout.proofs.Steps.{row_read}
use Rattle.lnfs_layout.proofs.lists.read_opens.Goals as goal

pub loop-preserved : goal.loop-preserved
loop-preserved c = record {
  so_far = row_read open_row open_of _ _ _ _ _ _ _ _ c.in_ok-push.ensures.items c.loop-test.true c.in_ok-read_open.ensures.0 c.loop.invariant.so_far;
  total = c.in_ok-read_open.ensures.1 ∙ c.loop.invariant.total;
}
