-- What each event gets, and that its line tells of it.
use Rattle.std.proofs.Common.{◌≡◌, ℕ, Bool, true, false, cond, List, Option, Some, None, refl, sym, ap, arith, ◌∙◌, subst, inl, inr}
use Rattle.lnfs_calipso.specs.Label.{IsPreorderWithBottom}
use Rattle.lnfs_types.specs.declared.event.Event.{Event}
use Rattle.lnfs_arguments.specs.declared.types.Compound.{Compound}
use Rattle.lnfs_policy.specs.Policy.{Policy, dominance}
use Rattle.lnfs_world.specs.Outcome.{begins_at}
use Rattle.lnfs_world.specs.Lawful.{deed_of}
use Rattle.lnfs_world.specs.Both.{Both, BothStand, on_world}
use Rattle.lnfs_operations.specs.Extra.{Extra, AreLawful}
use Rattle.lnfs_gss3.specs.declared.numbers.TheConstants.{RPCSEC_GSS_CTXPROBLEM}
use Rattle.lnfs_gss3.specs.Mechanism.{Signing}
use Rattle.lnfs_gss3.specs.Grammar.{Assertion}
use Rattle.lnfs_site.specs.Site.{site_of}
use Rattle.lnfs_step.specs.declared.numbers.TheConstants.{GARBAGE_ARGS, SYSTEM_ERR}
use Rattle.lnfs_step.specs.Wrapping.{Wrapping, Plain, Cause, caller, called, answer_text, head_of, results_in}
use Rattle.lnfs_step.specs.Request.{Call, Task, Garbled, Run, MakeContext, EndContext, Request, Silent, Nothing, Asked, request_with}
use Rattle.lnfs_step.specs.Request.{Refused as RefusedCall}
use Rattle.lnfs_step.specs.Contexts.{is_there, make_context}
use Rattle.lnfs_step.specs.Step.{Step, line_of_cause, refused, answered, made, done_for, refused_to, step_of, step_with, sent_of}
use Rattle.lnfs_step.specs.Journal.{state_after, reply_with, line_with}
use Rattle.lnfs_step.specs.Sessions.{Asks, HasOrigin}
use Rattle.lnfs_step.specs.Lines.{Tells, Recorded, Unanswered, Refused, Bare, Made, Resent, Ended}
use Rattle.lnfs_step.proofs.SlotSteps.{serving}
use Rattle.lnfs_step.proofs.Slots.{step_is, again}
use Rattle.lnfs_step.proofs.Origins.{slot_origin, created_origin}
use Rattle.lnfs_step.proofs.Failing.{Fails, cause_told, request_fails}
use Rattle.lnfs_step.proofs.Requests.{asked_outside}
use Rattle.lnfs_step.proofs.Steps.{begins, holds_after}
use Rattle.lnfs_step.proofs.Lines.{KeptHave, ServedTells, served_tells}

module _ (X : Extra) (owed : AreLawful X) (m : Signing) (p : Policy) (lattice : IsPreorderWithBottom (dominance p)) (journal : List Event) (event : Event) where
  abbrev now : Both X.Row
  now = state_after X m p journal

  -- by the step that the event makes
  abbrev IsStep : Step (Both X.Row) → Type 0
  IsStep s = step_with X m p now event ≡ s

  reply_is : (s : Step (Both X.Row)) → IsStep s → reply_with X m p journal event ≡ s.reply
  unfolding reply_with
  reply_is s is = ap (λ (s : Step (Both X.Row)). s.reply) is

  line_is : (s : Step (Both X.Row)) → IsStep s → line_with X m p journal event ≡ s.line
  unfolding line_with
  line_is s is = ap (λ (s : Step (Both X.Row)). s.line) is

  refused_recorded : (xid : ℕ) (w : Wrapping) (cause : Cause) → Fails cause → (state : Both X.Row) → IsStep (refused m xid w state cause) → Recorded X m p journal event
  refused_recorded xid w cause fails state is = Refused xid (head_of m w cause) (results_in cause) (line_of_cause cause) (reply_is _ is) (line_is _ is) (cause_told m w cause fails)

  kept_have : (level : ℕ) → KeptHave (HasOrigin X m p journal level) level now.world
  kept_have level = record {
    slots = λ i x n slot kept own there at is. subst (λ level. HasOrigin X m p journal level kept) own (slot_origin X owed m p lattice journal i x n slot kept there at is);
    clients = λ i client kept own there is. subst (λ level. HasOrigin X m p journal level kept) own (created_origin X owed m p lattice journal i client kept there is);
  }

  stands : (call : Call) → BothStand X.Fact (dominance p) (begins_at call.level event.moment) now
  stands call = begins X owed m p lattice call.level event.moment now (holds_after X owed m p lattice journal)

  run_recorded : (call : Call) (arguments : List ℕ) (c : Compound) → Asks X m p journal event call arguments c → Recorded X m p journal event
  run_recorded call arguments c asks =
      at (served_tells X owed (site_of p) lattice (sent_of event arguments c) c (HasOrigin X m p journal call.level) (begins_at call.level event.moment) now (stands call) (kept_have call.level) (asked_outside X.grammar m p event call arguments c asks.request))
    where
      step : IsStep (answered m call (serving X p event call arguments c now))
      step = step_is X m p journal event call arguments c asks

      at : ServedTells X owed (site_of p) lattice (sent_of event arguments c) c (HasOrigin X m p journal call.level) (begins_at call.level event.moment) now (stands call) (kept_have call.level) (serving X p event call arguments c now) → Recorded X m p journal event
      at (inl (r, text, told)) = Ended call arguments c r asks (reply_is _ step ∙ ap (λ result. Some (answer_text m call.wrapping call.xid result)) text) (subst (Tells X c r) (sym (line_is _ step)) told)
      at (inr (origin, same)) = Resent call arguments c (serving X p event call arguments c now).answer.result asks origin (again X m p journal event call arguments c (serving X p event call arguments c now).answer.result asks same)

  made_recorded : (call : Call) (parent : ℕ) (assertion : Assertion) (state : Both X.Row) (o : Option ℕ) → IsStep (made m call parent assertion state o) → Recorded X m p journal event
  made_recorded call parent assertion state (Some number) is = Made call parent assertion number (reply_is _ is) (line_is _ is)
  made_recorded call parent assertion state None is = refused_recorded call.xid call.wrapping (called SYSTEM_ERR) (λ e. grind (arith, e)) state is

  task_recorded : (call : Call) (task : Task) → request_with X.grammar m p event.class event.message ≡ Asked call task → is_there now.world.contexts call.level call.context ≡ true → IsStep (done_for X m p now event call task) → Recorded X m p journal event
  task_recorded call Garbled asked there is = refused_recorded call.xid call.wrapping (called GARBAGE_ARGS) (λ e. grind (arith, e)) now is
  task_recorded call (Run arguments c) asked there is = run_recorded call arguments c (record { request = asked; there = there })
  task_recorded call (MakeContext parent assertion) asked there is =
      let t = on_world (deed_of (make_context parent)) (begins_at call.level event.moment) now in
      made_recorded call parent assertion t.state t.answer is
  task_recorded call (EndContext number) asked there is = Bare call.xid call.wrapping (reply_is _ is) (line_is _ is)

  asked_recorded : (call : Call) (task : Task) → request_with X.grammar m p event.class event.message ≡ Asked call task → (b : Bool) → is_there now.world.contexts call.level call.context ≡ b →
      IsStep (cond b (done_for X m p now event call task) (refused_to m call now (caller RPCSEC_GSS_CTXPROBLEM))) → Recorded X m p journal event
  asked_recorded call task asked true there is = task_recorded call task asked there is
  asked_recorded call task asked false there is = refused_recorded call.xid call.wrapping (caller RPCSEC_GSS_CTXPROBLEM) tt now is

  request_recorded : (r : Request) → request_with X.grammar m p event.class event.message ≡ r → IsStep (step_of X m p now event r) → Recorded X m p journal event
  request_recorded Silent asked is = Unanswered (reply_is _ is) (line_is _ is)
  request_recorded (RefusedCall xid w cause) asked is = refused_recorded xid w cause (request_fails X.grammar m p event.class event.message xid w cause asked) now is
  request_recorded (Nothing xid) asked is = Bare xid Plain (reply_is _ is) (line_is _ is)
  request_recorded (Asked call task) asked is = asked_recorded call task asked (is_there now.world.contexts call.level call.context) refl is

  pub recorded : Recorded X m p journal event
  unfolding step_with
  recorded = request_recorded (request_with X.grammar m p event.class event.message) refl refl
