use Rattle.std.proofs.Common.{List, map, ap, ◌∙◌}
use Rattle.std.specs.Map.Iter.{deref}
use Rattle.std.proofs.lemmas.Map.Iter.{iter_end}
use Rattle.lnfs_tree.specs.declared.store.Node.{Node}
use Rattle.lnfs_tree.proofs.NodeHomes.{homes_are}
use Rattle.lnfs_tree.proofs.store.NodeStore.homes.Goals as goal

pub returns : goal.returns
returns c =
    let all = iter_end deref _ _ _ _ _ _ (c.into_iter-id-iterator.ensures.into_iter_gives ∙ c.keys-id-items.ensures.rest) c.loop-id.yielded_by c.in-None.is c.next.ensures.steps in
    c.loop-id.invariant
    ∙ homes_are c.self.inside.slots c.self.inside.by_id.entries c.loop-id.yielded c.self.invariant all.0
    ∙ ap (λ (ns : List Node). map (λ n. n.id.home) ns) c.self.view_is
