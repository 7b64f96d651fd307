use Rattle.std.proofs.Common.{◌+◌, List, take, sym, ◌∙◌, subst}
use Rattle.std.proofs.lemmas.List.{take_all}
use Rattle.lnfs_calipso.specs.declared.Level.{Level}
use Rattle.lnfs_calipso.specs.declared.lattice.TheConstants.{MAX_LEVELS}
use Rattle.lnfs_quota.specs.declared.quota.Row.{Row}
use Rattle.lnfs_quota.proofs.FromHomes.{IsCounted, counted-none, counted-more, counted-passed, counted-totals}
use Rattle.lnfs_quota.proofs.quota.Quota.counted_homes.Goals.{then-knows, else-knows}
use Rattle.lnfs_quota.proofs.quota.Quota.counted_homes.Goals as goal

pub loop-home-init : goal.loop-home-init
loop-home-init c = subst (λ (rows : List Row). IsCounted MAX_LEVELS (take 0 c.args.homes.now) rows) (sym c.in_ok-quota.ensures) (counted-none MAX_LEVELS c.args.homes.now)

pub loop-home-preserved : goal.loop-home-preserved
loop-home-preserved c =
    let levels = MAX_LEVELS in
    let homes = c.args.homes.now in
    let i = c.loop-home.home-index in
    let d : Level = record { 0 = 0 } in
    elim c.if-knows.branch [
      | then-knows w ↦ subst (λ (rows : List Row). IsCounted levels (take (i + 1) homes) rows) (sym (w.quota-is ∙ w.charge_node.ensures)) (counted-more levels homes c.loop-home.quota i d c.loop-home-test.true (sym c.knows.ensures ∙ w.if-knows.true) c.loop-home.invariant)
      | else-knows w ↦ subst (λ (rows : List Row). IsCounted levels (take (i + 1) homes) rows) (sym w.quota-is) (counted-passed levels homes c.loop-home.quota i d c.loop-home-test.true (sym c.knows.ensures ∙ w.if-knows.false) c.loop-home.invariant)
    ]

pub returns : goal.returns
returns c nodes are empty bounds = counted-totals c.args.homes.now c.loop-home.quota nodes (subst (λ (homes : List Level). IsCounted MAX_LEVELS homes c.loop-home.quota) (take_all c.loop-home.home-index c.args.homes.now c.loop-home-test.false) c.loop-home.invariant) are empty bounds
