use Rattle.std.proofs.Common.{◌∙◌}
use Rattle.lnfs_lock_rows.specs.Told.{lock_of}
use Rattle.lnfs_layout.specs.Grammar.{lock_row}
use Rattle.lnfs_layout.proofs.Steps.{row_read}
use Rattle.lnfs_layout.proofs.locks.read_locks.Goals as goal

pub loop-preserved : goal.loop-preserved
loop-preserved c = record {
  so_far = row_read lock_row lock_of _ _ _ _ _ _ _ _ c.in_ok-push.ensures.items c.loop-test.true c.in_ok-read_lock.ensures.0 c.loop.invariant.so_far;
  total = c.in_ok-read_lock.ensures.1 ∙ c.loop.invariant.total;
}
