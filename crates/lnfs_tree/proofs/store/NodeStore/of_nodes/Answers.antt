use Rattle.std.proofs.Common.{◌+◌, map, take, drop, ap, sym, ◌∙◌, subst}
use Rattle.std.specs.List.{AllByRecursion}
use Rattle.lnfs_rows.specs.Told.{node_of}
use Rattle.lnfs_tree.specs.Flat.{row_of}
use Rattle.lnfs_tree.specs.Makes.{IsBare}
use Rattle.lnfs_tree.proofs.Sequences.{map-more-at}
use Rattle.lnfs_tree.proofs.Restored.{next_storable, absent, rows_more, bare_more, node_makes}
use Rattle.lnfs_tree.proofs.store.NodeStore.of_nodes.Goals as goal

pub bare_node-requires : goal.bare_node-requires
bare_node-requires c = next_storable (map node_of (take c.loop-row.row-index c.args.nodes.now)) (map node_of (drop (c.loop-row.row-index + 1) c.args.nodes.now)) (node_of c.row-item.result) (node_makes c.args.nodes.now c.loop-row.row-index c.row-item.result c.loop-row-test.true c.row-item.is c.requires)

pub insert-requires : goal.insert-requires
insert-requires c = absent (map node_of (take c.loop-row.row-index c.args.nodes.now)) (map node_of (drop (c.loop-row.row-index + 1) c.args.nodes.now)) (node_of c.row-item.result) (node_makes c.args.nodes.now c.loop-row.row-index c.row-item.result c.loop-row-test.true c.row-item.is c.requires) c.loop-row.store c.loop-row.invariant.0 c.in_ok-node.node c.in_ok-node.ensures.row

pub loop-row-preserved : goal.loop-row-preserved
loop-row-preserved c =
    let makes = node_makes c.args.nodes.now c.loop-row.row-index c.row-item.result c.loop-row-test.true c.row-item.is c.requires in (
      ap (map row_of) c.in_ok-insert.ensures.ok
          ∙ rows_more (map node_of (take c.loop-row.row-index c.args.nodes.now)) (map node_of (drop (c.loop-row.row-index + 1) c.args.nodes.now)) (node_of c.row-item.result) makes c.loop-row.store c.loop-row.invariant.0 c.in_ok-node.node c.in_ok-node.ensures.row
          ∙ sym (map-more-at node_of c.args.nodes.now c.loop-row.row-index c.row-item.result c.loop-row-test.true c.row-item.is),
      subst (AllByRecursion IsBare) (sym c.in_ok-insert.ensures.ok) (bare_more (map node_of (take c.loop-row.row-index c.args.nodes.now)) (map node_of (drop (c.loop-row.row-index + 1) c.args.nodes.now)) (node_of c.row-item.result) makes c.loop-row.store c.loop-row.invariant.0 c.in_ok-node.node c.in_ok-node.ensures.row c.loop-row.invariant.1 c.in_ok-node.ensures.bare),
    )
