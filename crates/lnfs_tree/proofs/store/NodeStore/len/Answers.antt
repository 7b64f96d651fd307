use Rattle.std.proofs.Common.{length, List, ◌∙◌, ap}
use Rattle.lnfs_tree.specs.declared.store.Node.{Node}
use Rattle.lnfs_tree.proofs.Above.{length-held}
use Rattle.lnfs_tree.proofs.store.NodeStore.len.Goals as goal

pub returns : goal.returns
returns c = c.len.ensures.len ∙ length-held c.self.inside.slots c.self.inside.by_id.entries c.self.invariant ∙ ap (λ (ns : List Node). length ns) c.self.view_is
