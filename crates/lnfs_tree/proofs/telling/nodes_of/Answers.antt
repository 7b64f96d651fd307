use Rattle.std.proofs.Common.{map, ap, refl, ◌∙◌, Bor}
use Rattle.std.specs.Map.Iter.{deref}
use Rattle.std.proofs.lemmas.Map.Iter.{iter_end}
use Rattle.lnfs_tree.specs.declared.store.Node.{Node}
use Rattle.lnfs_tree.proofs.ToldRows.{node_more, no_more, all_nodes}
use Rattle.lnfs_tree.proofs.telling.nodes_of.Goals as goal

pub loop-key-preserved : goal.loop-key-preserved
loop-key-preserved c = ap (map (λ (n : Bor Node). n.now)) c.in_ok-push.ensures.items ∙ node_more c.args.slots.now c.loop-key.nodes.items c.loop-key.yielded c.in-Some.key c.loop-key.invariant c.in-Some-get.node c.in-Some-get.ensures

pub loop-key-preserved-in_default : goal.loop-key-preserved-in_default
loop-key-preserved-in_default c = no_more c.args.slots.now c.loop-key.nodes.items c.loop-key.yielded c.in-Some.key c.loop-key.invariant c.in_default.ensures

pub returns : goal.returns
returns c =
    let all = iter_end deref _ _ _ _ _ _ (c.into_iter-key-iterator.ensures.into_iter_gives ∙ c.values-key-items.ensures.rest) c.loop-key.yielded_by c.in-None.is c.next.ensures.steps in
    all_nodes c.args.slots.now c.args.by_id.now.entries c.loop-key.yielded _ _ c.loop-key.invariant all.0 refl
