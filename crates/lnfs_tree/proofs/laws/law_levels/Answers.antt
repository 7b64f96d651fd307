use Rattle.std.proofs.Common.{◌<◌, ◌∙◌, subst}
use Rattle.std.specs.Prelude.{◌^◌}
use Rattle.std.specs.List.{AllByRecursion}
use Rattle.std.specs.Map.Iter.{deref}
use Rattle.std.proofs.lemmas.Map.Iter.{iter_end}
use Rattle.lnfs_calipso.specs.declared.Level.{Level}
use Rattle.lnfs_tree.proofs.ToldRows.{all_seen}
use Rattle.lnfs_tree.proofs.laws.law_levels.Goals as goal

pub loop-level-preserved : goal.loop-level-preserved
loop-level-preserved c = all_seen (λ (k : Level). k.0 < 2 ^ 32) c.loop-level.yielded c.in-Some.level c.loop-level.invariant c.law_level.ensures

pub returns : goal.returns
returns c =
    let all = iter_end deref _ _ _ _ _ _ (c.into_iter-level-iterator.ensures.into_iter_gives ∙ c.keys-level-items.ensures.rest) c.loop-level.yielded_by c.in-None.is c.next.ensures.steps in
    subst (AllByRecursion (λ (k : Level). k.0 < 2 ^ 32)) all.0 c.loop-level.invariant
