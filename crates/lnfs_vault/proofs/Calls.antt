-- What is done for a call whose context, if it comes in one, is there, is the step of its event.
use Rattle.std.proofs.Common.{◌≡◌, ℕ, true, sym, subst}
use Rattle.std.specs.Prelude.{Result, IfOk, cond}
use Rattle.std.proofs.lemmas.Result.{IfOk-weaker}
use Rattle.lnfs_types.specs.declared.event.Event.{Event}
use Rattle.lnfs_policy.specs.Policy.{Policy}
use Rattle.lnfs_world.specs.Both.{Both}
use Rattle.lnfs_operations.specs.Extra.{Extra}
use Rattle.lnfs_gss3.specs.declared.numbers.TheConstants.{RPCSEC_GSS_CTXPROBLEM}
use Rattle.lnfs_gss3.specs.Mechanism.{Signing}
use Rattle.lnfs_step.specs.Wrapping.{caller}
use Rattle.lnfs_step.specs.Request.{Call, Task, Asked}
use Rattle.lnfs_step.specs.Contexts.{is_there}
use Rattle.lnfs_step.specs.Step.{step_of, done_for, refused_to}
use Rattle.lnfs_vault.specs.Says.{Says}
use Rattle.lnfs_vault.specs.declared.step.Said.{Said}

pub done_said : (X : Extra) (m : Signing) (p : Policy) (b after : Both X.Row) (event : Event) (call : Call) (task same : Task) (place : ℕ) (said : Said) →
    is_there b.world.contexts call.level call.context ≡ true → task ≡ same →
    Says m place after (done_for X m p b event call same) said → Says m place after (step_of X m p b event (Asked call task)) said
done_said X m p b after event call task same place said there is did =
    subst (λ t. Says m place after (cond t (done_for X m p b event call task) (refused_to m call b (caller RPCSEC_GSS_CTXPROBLEM))) said) (sym there)
    (subst (λ t. Says m place after (done_for X m p b event call t) said) (sym is) did)

pub done : (X : Extra) (m : Signing) (p : Policy) (b after : Both X.Row) (event : Event) (call : Call) (task same : Task) (place : ℕ) {E : Type 0} (result : Result Said E) →
    is_there b.world.contexts call.level call.context ≡ true → task ≡ same →
    IfOk result (λ said. Says m place after (done_for X m p b event call same) said) → IfOk result (λ said. Says m place after (step_of X m p b event (Asked call task)) said)
done X m p b after event call task same place result there is did =
    IfOk-weaker result _ _ (λ said says. done_said X m p b after event call task same place said there is says) did
