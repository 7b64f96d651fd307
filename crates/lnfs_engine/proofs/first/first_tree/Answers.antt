use Rattle.std.proofs.Common.{◌≤◌, ℕ, List, length, sym, subst}
use Rattle.std.specs.List.{AllByRecursion}
use Rattle.std.proofs.lemmas.Result.{IfOk-weaker}
use Rattle.lnfs_calipso.specs.Label.{Label}
use Rattle.lnfs_calipso.specs.declared.lattice.TheConstants.{MAX_LEVELS}
use Rattle.lnfs_policy.specs.Policy.{Policy}
use Rattle.lnfs_policy.specs.PolicyText.{IsPolicy}
use Rattle.lnfs_tree.specs.Rows.{Rows}
use Rattle.lnfs_quota.specs.Totals.{IsInBounds}
use Rattle.lnfs_engine.proofs.FirstBounds.{first_bounds}
use Rattle.lnfs_engine.proofs.first.first_tree.Goals as goal

pub returns-clause-bounds : goal.returns-clause-bounds
returns-clause-bounds c =
    let few : length c.lattice.result.now ≤ MAX_LEVELS = subst (λ (n : ℕ). n ≤ MAX_LEVELS) c.len-levels.ensures.value c.len-levels.ensures.few in
    let labels : length c.policy-policy.result.now.labels ≤ MAX_LEVELS = subst (λ (ls : List Label). length ls ≤ MAX_LEVELS) c.lattice.ensures few in
    let own : length c.args.site.now.labels ≤ MAX_LEVELS = subst (λ (p : Policy). length p.labels ≤ MAX_LEVELS) c.policy-policy.ensures labels in
    let is : IsPolicy c.args.site.now = subst IsPolicy c.policy-policy.ensures c.law_policy.ensures in
    IfOk-weaker c.first_directories.result _ (λ tree. AllByRecursion IsInBounds tree.nodes)
    (λ tree same. subst (λ (t : Rows). AllByRecursion IsInBounds t.nodes) (sym same) (first_bounds c.args.site.now.text c.args.site.now is own))
    c.first_directories.ensures
