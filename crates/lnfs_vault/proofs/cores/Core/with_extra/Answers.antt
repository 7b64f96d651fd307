use Rattle.std.proofs.Common.{◌≡◌, sym, ap, ◌∙◌, subst}
use Rattle.lnfs_policy.specs.PolicyText.{IsPolicy}
use Rattle.lnfs_world.specs.Both.{both}
use Rattle.lnfs_site.specs.Site.{first_world}
use Rattle.lnfs_tree.specs.Rows.{rows_of}
use Rattle.lnfs_step.specs.Journal.{IsKept, first_state}
use Rattle.lnfs_vault.proofs.Keeping.{begins_as}
use Rattle.lnfs_vault.proofs.cores.Core.with_extra.Goals as goal

pub returns-clause-state : goal.returns-clause-state
returns-clause-state g c =
    let X = g.X.ExtraRows.extra in
    let rows = g.X.ExtraRows.rows in
    let made = c.in_ok-stand in
    let site : c.site.result ≡ c.args.policy = c.site.ensures ∙ ap (λ k. k.policy) c.in_ok-front.ensures in
    ap (λ w. both w (rows made.stand.engine.extra)) made.ensures.store
    ∙ begins_as X c.args.policy (rows_of (first_world c.site.result)) (rows made.stand.engine.extra) (ap (λ q. rows_of (first_world q)) site) (ap rows made.ensures.extra ∙ c.requires)

pub returns-clause-kept : goal.returns-clause-kept
returns-clause-kept g c =
    let X = g.X.ExtraRows.extra in
    let p = c.in_ok-front.front.policy in
    let spelled : IsPolicy p = subst IsPolicy c.policy.ensures c.law_policy.ensures in
    let first = returns-clause-state g c ∙ ap (first_state X) (sym (ap (λ k. k.policy) c.in_ok-front.ensures)) in
    subst (IsKept X p) (sym first) (c.one_step.ensures.first p spelled).0
