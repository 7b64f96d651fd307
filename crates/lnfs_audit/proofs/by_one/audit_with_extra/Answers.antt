use Rattle.std.proofs.Common.{ap}
use Rattle.lnfs_vault.specs.Kept.{Kept}
use Rattle.lnfs_audit.proofs.by_one.audit_with_extra.Goals as goal

pub returns : goal.returns
returns g c =
    let policy = ap (λ (v : Kept). v.policy) c.in_ok-vault.ensures in
    rw policy at c.compare_served.ensures
