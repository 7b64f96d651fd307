use Rattle.std.proofs.Common.{◌++◌, ◌∷◌, [], List, map, take, sym, subst}
use Rattle.lnfs_world.specs.World.{node_order}
use Rattle.lnfs_rows.specs.Told.{node_of}
use Rattle.lnfs_quota.specs.declared.quota.Row.{Row}
use Rattle.lnfs_quota.specs.Totals.{IsInBounds, AreTotals}
use Rattle.lnfs_quota.proofs.FromRows.{rising_take, all_at, taken_more, totals-counted}
use Rattle.lnfs_quota.proofs.quota.Quota.counted.Goals as goal

pub count-requires-clause-bounds : goal.count-requires-clause-bounds
count-requires-clause-bounds c = all_at node_of IsInBounds c.args.nodes.now c.loop-node.node-index c.node-item.result c.loop-node-test.true c.node-item.is c.requires.bounds

pub count-requires-clause-bytes_fit : goal.count-requires-clause-bytes_fit
count-requires-clause-bytes_fit c =
    let all = map node_of c.args.nodes.now in
    let i = c.loop-node.node-index in
    c.law_fitting.ensures c.loop-node.quota (take i all) c.node-item.result.label c.loop-node.invariant (rising_take node_order i all c.requires.rising)

pub loop-node-preserved : goal.loop-node-preserved
loop-node-preserved c =
    let nodes = c.args.nodes.now in
    let i = c.loop-node.node-index in
    let n = node_of c.node-item.result in
    let front = take i (map node_of nodes) in
    let bounds : IsInBounds n = all_at node_of IsInBounds nodes i c.node-item.result c.loop-node-test.true c.node-item.is c.requires.bounds in
    subst (AreTotals c.count.new.self) (sym (taken_more node_of nodes i c.node-item.result c.loop-node-test.true c.node-item.is))
    (subst (λ (rows : List Row). AreTotals rows (front ++ n ∷ [])) (sym c.count.ensures) (totals-counted c.loop-node.quota front n c.loop-node.invariant bounds))
