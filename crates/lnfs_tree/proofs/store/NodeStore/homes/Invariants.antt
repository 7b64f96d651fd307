use Rattle.std.proofs.Common.{◌≡◌, map}
use Rattle.lnfs_tree.proofs.store.NodeStore.homes.Given as goal

-- the homes of the identifiers so far
abbrev pub invariant-loop-id : goal.invariant-loop-id
invariant-loop-id l = l.homes.items ≡ map (λ i. i.now.home) l.yielded
