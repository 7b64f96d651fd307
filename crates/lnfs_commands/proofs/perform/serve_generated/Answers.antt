use Rattle.std.proofs.Common.{rules, ap}
use Rattle.lnfs_vault.specs.Kept.{Kept}
use Rattle.lnfs_stage.proofs.Doing.{does_short}
use Rattle.lnfs_commands.proofs.perform.serve_generated.Goals as goal

pub returns-in_err-events : goal.returns-in_err-events
returns-in_err-events g c = does_short _ _ (search rules)

pub returns-in_err-vault : goal.returns-in_err-vault
returns-in_err-vault g c = does_short _ _ (search rules)

pub returns : goal.returns
returns g c =
    let journal = ap (λ (v : Kept). v.journal) c.in_ok-vault.ensures in
    let policy = ap (λ (v : Kept). v.policy) c.in_ok-vault.ensures in
    rw (policy, journal, c.in_ok-events.ensures.events) at c.sum_up.ensures
