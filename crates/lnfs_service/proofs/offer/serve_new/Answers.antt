use Rattle.std.proofs.Common.{rules, refl, ap, arith}
use Rattle.lnfs_vault.specs.Kept.{Kept}
use Rattle.lnfs_stage.specs.declared.stop.Stop.TheVariants as stops
use Rattle.lnfs_service.proofs.Accepting.{none_for_memory, serves_stopped}
use Rattle.lnfs_service.proofs.Handing.{idle_same}
use Rattle.lnfs_service.proofs.offer.serve_new.Goals as goal

pub returns-in_err-vault-clause-serves : goal.returns-in_err-vault-clause-serves
returns-in_err-vault-clause-serves g c = serves_stopped _ _ _ _ _ _ stops.Memory (search rules) tt (omega arith) (none_for_memory c.args.team.now.links.items _ _ stops.Memory refl)

pub returns-in_err-vault-clause-idle : goal.returns-in_err-vault-clause-idle
returns-in_err-vault-clause-idle g c = idle_same _ _

pub returns-clause-serves : goal.returns-clause-serves
returns-clause-serves g c =
    let policy = ap (λ (v : Kept). v.policy) c.in_ok-vault.ensures in
    let journal = ap (λ (v : Kept). v.journal) c.in_ok-vault.ensures in
    rw (policy, journal) at c.serve.ensures.serves
