use Rattle.std.proofs.Common.{◌≡◌, ◌++◌, [], List, true≢false, sym, ap, ◌∙◌}
use Rattle.lnfs_types.specs.declared.event.Event.{Event}
use Rattle.lnfs_world.specs.Both.{both}
use Rattle.lnfs_site.specs.Site.{first_world}
use Rattle.lnfs_tree.specs.Rows.{rows_of}
use Rattle.lnfs_step.specs.Journal.{state_after}
use Rattle.lnfs_vault.proofs.Keeping.{begins}
use Rattle.lnfs_vault.proofs.books.Books.new.Goals as goal

pub invariant_of-result : goal.invariant_of-result
invariant_of-result g c =
    let X = g.X.ExtraRows.extra in
    let m = g.M.Mechanism.signing in
    let rows = g.X.ExtraRows.rows in
    let made = c.in_ok-stand in
    let p = c.of.result.value in
    let site : p ≡ c.args.site.now = c.of.ensures ∙ c.policy.ensures in (
      λ running.
          ap (λ w. both w (rows made.stand.engine.extra)) made.ensures.store
          ∙ begins X m p (rows_of (first_world c.args.site.now)) (rows made.stand.engine.extra) (ap (λ q. rows_of (first_world q)) (sym site)) (ap rows made.ensures.extra ∙ c.requires)
          ∙ ap (λ (j : List Event). state_after X m p (j ++ [])) (sym c.new.ensures.items),
      λ some. absurd (true≢false (sym some)),
    )
