use Rattle.std.proofs.Common.{map, ap, ◌∙◌, Bor}
use Rattle.std.proofs.lemmas.List.{take_all}
use Rattle.lnfs_tree.specs.declared.store.Node.{Node}
use Rattle.lnfs_tree.specs.Rows.{Rows}
use Rattle.lnfs_tree.specs.Flat.{row_of}
use Rattle.lnfs_tree.proofs.ToldRows.{rows_seen}
use Rattle.lnfs_tree.proofs.tree.Tree.node_rows.Goals as goal

pub returns : goal.returns
returns c =
    c.loop-node.invariant
    ∙ ap (map (λ (n : Bor Node). row_of n.now)) (take_all c.loop-node.node-index c.deref-node-items.result.now c.loop-node-test.false ∙ c.deref-node-items.ensures.value)
    ∙ rows_seen c.in_ok-nodes.nodes.items
    ∙ ap (map row_of) c.in_ok-nodes.ensures
    ∙ ap (λ (t : Rows). t.nodes) c.self.view_is
