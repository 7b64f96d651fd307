use Rattle.std.proofs.Common.{◌∙◌}
use Rattle.lnfs_rows.specs.Told.{client_of}
use Rattle.lnfs_layout.specs.Grammar.{client_row}
use Rattle.lnfs_layout.proofs.Steps.{row_read}
use Rattle.lnfs_layout.proofs.lists.read_clients.Goals as goal

pub loop-preserved : goal.loop-preserved
loop-preserved c = record {
  so_far = row_read client_row client_of _ _ _ _ _ _ _ _ c.in_ok-push.ensures.items c.loop-test.true c.in_ok-read_client.ensures.0 c.loop.invariant.so_far;
  total = c.in_ok-read_client.ensures.1 ∙ c.loop.invariant.total;
}
