use Rattle.std.proofs.Common.{◌∙◌}
use Rattle.lnfs_rows.specs.Told.{node_of}
use Rattle.lnfs_layout.specs.Grammar.{node_row}
use Rattle.lnfs_layout.proofs.Steps.{row_read}
use Rattle.lnfs_layout.proofs.lists.read_nodes.Goals as goal

pub loop-preserved : goal.loop-preserved
loop-preserved c = record {
  so_far = row_read node_row node_of _ _ _ _ _ _ _ _ c.in_ok-push.ensures.items c.loop-test.true c.in_ok-read_node.ensures.0 c.loop.invariant.so_far;
  total = c.in_ok-read_node.ensures.1 ∙ c.loop.invariant.total;
}
