use Rattle.std.proofs.Common.{map, take}
use Rattle.lnfs_rows.specs.Told.{node_of}
use Rattle.lnfs_quota.specs.Totals.{AreTotals}
use Rattle.lnfs_quota.proofs.quota.Quota.counted.Given as goal

-- the nodes so far are counted
abbrev pub invariant-loop-node : goal.invariant-loop-node
invariant-loop-node l = AreTotals l.quota (take l.node-index (map node_of l.nodes))
