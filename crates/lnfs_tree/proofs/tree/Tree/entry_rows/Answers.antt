use Rattle.std.proofs.Common.{◌++◌, List, map, ap, sym, ◌∙◌}
use Rattle.lnfs_world.specs.World.{Entry as NameRow}
use Rattle.lnfs_tree.specs.Rows.{id_of, row_of_entry}
use Rattle.lnfs_tree.proofs.ToldRows.{entries_more}
use Rattle.lnfs_tree.proofs.tree.Tree.entry_rows.Goals as goal

pub loop-node-preserved : goal.loop-node-preserved
loop-node-preserved c =
    c.in_ok-append_rows.ensures
    ∙ ap (λ (es : List NameRow). es ++ map (row_of_entry (id_of c.node-item.result.now.id)) c.node-item.result.now.names) c.loop-node.invariant
    ∙ sym (entries_more c.deref-node-items.result.now c.loop-node.node-index c.node-item.result c.loop-node-test.true c.node-item.is)
