use Rattle.std.proofs.Common.{◌∙◌, subst}
use Rattle.std.specs.List.{AllByRecursion}
use Rattle.std.specs.Map.Iter.{deref}
use Rattle.std.proofs.lemmas.Map.Iter.{iter_end}
use Rattle.lnfs_tree.specs.Flat.{row_of}
use Rattle.lnfs_tree.specs.Makes.{IsStorable}
use Rattle.lnfs_tree.proofs.ToldRows.{node_holds, none_holds, walked}
use Rattle.lnfs_tree.proofs.laws.law_slots.Goals as goal

pub loop-key-preserved-in_default : goal.loop-key-preserved-in_default
loop-key-preserved-in_default c = none_holds c.args.slots.now c.loop-key.yielded c.in-Some.key (λ n. IsStorable (row_of n)) c.loop-key.invariant c.in_default.ensures

pub loop-key-preserved : goal.loop-key-preserved
loop-key-preserved c = node_holds c.args.slots.now c.loop-key.yielded c.in-Some.key (λ n. IsStorable (row_of n)) c.loop-key.invariant c.in-Some-get.node.now c.in-Some-get.ensures c.law_storable.ensures

pub returns : goal.returns
returns c =
    let all = iter_end deref _ _ _ _ _ _ (c.into_iter-key-iterator.ensures.into_iter_gives ∙ c.values-key-items.ensures.rest) c.loop-key.yielded_by c.in-None.is c.next.ensures.steps in
    subst (AllByRecursion (λ n. IsStorable (row_of n))) (walked c.args.slots.now c.args.by_id.now.entries c.loop-key.yielded all.0) c.loop-key.invariant
