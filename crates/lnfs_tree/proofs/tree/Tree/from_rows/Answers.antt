use Rattle.lnfs_tree.proofs.tree.Tree.from_rows.Goals as goal

pub invariant_of-result : goal.invariant_of-result
invariant_of-result c = c.in_ok-store.ensures.tree

pub returns : goal.returns
returns c = λ k. record { nodes = c.in_ok-store.ensures.nodes k; entries = c.in_ok-store.ensures.entries k; lasts = c.in_ok-lasts.ensures k }
