use Rattle.std.proofs.Common.{◌≤◌, ℕ, ◌∙◌, subst}
use Rattle.std.specs.List.{AllByRecursion}
use Rattle.std.specs.Map.Iter.{deref}
use Rattle.std.proofs.lemmas.Map.Iter.{iter_end}
use Rattle.lnfs_world.specs.declared.numbers.TheConstants.{LAST_NUMBER}
use Rattle.lnfs_tree.proofs.ToldRows.{all_seen}
use Rattle.lnfs_tree.proofs.laws.law_numbers.Goals as goal

pub loop-number-preserved : goal.loop-number-preserved
loop-number-preserved c = all_seen (λ (n : ℕ). n ≤ LAST_NUMBER) c.loop-number.yielded c.in-Some.number c.loop-number.invariant c.law_number.ensures

pub returns : goal.returns
returns c =
    let all = iter_end deref _ _ _ _ _ _ (c.into_iter-number-iterator.ensures.into_iter_gives ∙ c.values-number-items.ensures.rest) c.loop-number.yielded_by c.in-None.is c.next.ensures.steps in
    subst (AllByRecursion (λ (n : ℕ). n ≤ LAST_NUMBER)) all.0 c.loop-number.invariant
