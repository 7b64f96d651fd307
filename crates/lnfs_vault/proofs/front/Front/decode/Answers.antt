use Rattle.std.proofs.Common.{◌≡◌, ℕ, List, ap, subst}
use Rattle.std.specs.Prelude.{IfOk}
use Rattle.lnfs_arguments.specs.Further.{Further}
use Rattle.lnfs_policy.specs.Policy.{Policy}
use Rattle.lnfs_vault.specs.Prepared.{IsPrepared}
use Rattle.lnfs_vault.proofs.front.Front.decode.Goals as goal

pub returns : goal.returns
returns g c =
    let policy : c.self.inside.policy ≡ c.args.self.now.policy = ap (λ k. k.policy) c.self.view_is in
    subst (λ (x : Further × Policy × List ℕ). IfOk c.prepare.result (IsPrepared x.0 g.M.Mechanism.signing x.1 c.args.event.now.class x.2))
    (λ i. (g.met.X.ReadExtra.same_reader i, policy i, c.as_slice.ensures i)) c.prepare.ensures
