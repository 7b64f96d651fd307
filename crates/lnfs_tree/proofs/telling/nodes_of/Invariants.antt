use Rattle.std.proofs.Common.{◌≡◌, map}
use Rattle.lnfs_tree.proofs.ToldRows.{held_at}
use Rattle.lnfs_tree.proofs.telling.nodes_of.Given as goal

-- the nodes at the keys so far
abbrev pub invariant-loop-key : goal.invariant-loop-key
invariant-loop-key l = map (λ n. n.now) l.nodes.items ≡ held_at l.slots (map (λ k. k.now) l.yielded)
