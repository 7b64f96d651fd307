use Rattle.std.proofs.Common.{◌∙◌}
use Rattle.lnfs_rows.specs.Told.{entry_of}
use Rattle.lnfs_layout.specs.Grammar.{entry_row}
use Rattle.lnfs_layout.proofs.Steps.{row_read}
use Rattle.lnfs_layout.proofs.lists.read_entries.Goals as goal

pub loop-preserved : goal.loop-preserved
loop-preserved c = record {
  so_far = row_read entry_row entry_of _ _ _ _ _ _ _ _ c.in_ok-push.ensures.items c.loop-test.true c.in_ok-read_entry.ensures.0 c.loop.invariant.so_far;
  total = c.in_ok-read_entry.ensures.1 ∙ c.loop.invariant.total;
}
