-- The step of a request of the client, over any state.
use Rattle.std.proofs.Common.{◌≡◌, ℕ, ◌≤◌, ◌⊎◌, inl, inr, Bool, true, false, cond, ◌&&◌, ◌||◌, Some, None, refl, sym, ◌∙◌, ap, arith}
use Rattle.std.specs.Prelude.{◌==◌}
use Rattle.std.proofs.lemmas.Bool.Decides.{nat_tests}
use Rattle.lnfs_types.specs.declared.event.Event.{Event}
use Rattle.lnfs_policy.specs.Policy.{Policy}
use Rattle.lnfs_world.specs.World.{last_of}
use Rattle.lnfs_world.specs.Both.{Both}
use Rattle.lnfs_operations.specs.Extra.{Extra}
use Rattle.lnfs_gss3.specs.declared.numbers.TheConstants.{RPCSEC_GSS_CTXPROBLEM}
use Rattle.lnfs_gss3.specs.Mechanism.{Signing}
use Rattle.lnfs_gss3.specs.Contexts.{has_context}
use Rattle.lnfs_step.specs.Wrapping.{caller}
use Rattle.lnfs_step.specs.Request.{Call, Task, Asked, request_with}
use Rattle.lnfs_step.specs.Contexts.{is_there}
use Rattle.lnfs_step.specs.Step.{done_for, refused_to, step_with, step_of}
use Rattle.lnfs_slots.specs.OneClient.{Seen, is_mine, context_there, context_met, Writer}
use Rattle.lnfs_slots.specs.Written.{context_of}

module _ (X : Extra) (m : Signing) (p : Policy) (b : Both X.Row) (event : Event) (call : Call) where
  -- in a context that is there
  pub step_there : (task : Task) → request_with X.grammar m p event.class event.message ≡ Asked call task → is_there b.world.contexts call.level call.context ≡ true → step_with X m p b event ≡ done_for X m p b event call task
  unfolding step_with
  step_there task request there = ap (step_of X m p b event) request ∙ ap (λ t. cond t (done_for X m p b event call task) (refused_to m call b (caller RPCSEC_GSS_CTXPROBLEM))) there

  -- in one that is not
  pub step_lost : (task : Task) → request_with X.grammar m p event.class event.message ≡ Asked call task → is_there b.world.contexts call.level call.context ≡ false → step_with X m p b event ≡ refused_to m call b (caller RPCSEC_GSS_CTXPROBLEM)
  unfolding step_with
  step_lost task request there = ap (step_of X m p b event) request ∙ ap (λ t. cond t (done_for X m p b event call task) (refused_to m call b (caller RPCSEC_GSS_CTXPROBLEM))) there

-- the context of a place is there for the law where it is for the step
module _ (X : Extra) (m : Signing) (p : Policy) {A : Type 0} (w : Writer A) (v : Seen X) (c : ℕ) (met : context_met X m p w v c) where
  pub there_is : is_there v.state.world.contexts w.level (context_of w.parent c) ≡ context_there X m p w v c
  there_is = at (c == 0) refl met
    where
      at : (b : Bool) → (c == 0) ≡ b → (c ≡ 0) ⊎ ((is_mine v.mine c ≡ true) × (c ≤ last_of w.level v.state.world.lasts.contexts)) → is_there v.state.world.contexts w.level (cond b None (Some (record { parent = w.parent; number = c }))) ≡ (b || (is_mine v.mine c && has_context v.state.world.contexts w.level w.parent c))
      at true e met = refl
      at false e (inl zero) = absurd (grind (arith, nat_tests, e, zero))
      at false e (inr mine) = ap (λ t. t && has_context v.state.world.contexts w.level w.parent c) (sym mine.0)
