-- Each event keeps what bounds contexts.
use Rattle.std.proofs.Common.{◌≡◌, ◌≤◌, ◌<◌, ℕ, true, not, List, Option, Ok, Err, refl, sym, ap, subst, ◌∙◌, arith}
use Rattle.std.specs.Prelude.{◌==◌, Result, count_by, is_some, nat_lt}
use Rattle.std.specs.List.{AllByRecursion}
use Rattle.std.proofs.lemmas.Bool.{and_parts}
use Rattle.std.proofs.lemmas.Bool.Decides.{nat_tests}
use Rattle.lnfs_calipso.specs.Label.{IsPreorderWithBottom}
use Rattle.lnfs_types.specs.declared.event.Event.{Event}
use Rattle.lnfs_arguments.specs.Further.{Further}
use Rattle.lnfs_rpc.specs.declared.calls.CallError.{CallError}
use Rattle.lnfs_rpc.specs.declared.calls.CallError.TheVariants.{NotACall, BadHeader, BadVersion, BadProgram}
use Rattle.lnfs_rpc.specs.Calls.{CallMessage, call_of}
use Rattle.lnfs_policy.specs.Policy.{Policy, dominance, parent_at}
use Rattle.lnfs_world.specs.World.{Context, World, context_order, same_id}
use Rattle.lnfs_world.specs.Both.{Both, on_world}
use Rattle.lnfs_world.specs.Effects.{has_number}
use Rattle.lnfs_world.specs.Lawful.{deed_of}
use Rattle.lnfs_world.specs.Outcome.{Place, Outcome, begins_at, done_to}
use Rattle.lnfs_world.proofs.Rows.{all_left}
use Rattle.lnfs_world.proofs.Sorted.{all_inserted}
use Rattle.lnfs_operations.specs.Extra.{Extra, AreLawful}
use Rattle.lnfs_operations.proofs.Chains.{demand_any}
use Rattle.lnfs_operations.proofs.CountLaws.{count_left, level_comes}
use Rattle.lnfs_gss3.specs.declared.numbers.TheConstants.{AUTH_BADCRED, CONTEXTS_OF_A_LEVEL}
use Rattle.lnfs_gss3.specs.Contexts.{lists_of, has_context_left, new_context}
use Rattle.lnfs_gss3.specs.Grammar.{Assertion}
use Rattle.lnfs_gss3.specs.Mechanism.{Signing}
use Rattle.lnfs_site.specs.Site.{site_of, first_world}
use Rattle.lnfs_site.proofs.FirstWorlds.{first_bare}
use Rattle.lnfs_step.specs.ContextBounds.{HasParent, ContextsFit}
use Rattle.lnfs_step.specs.Contexts.{is_there, make_context, end_context}
use Rattle.lnfs_step.specs.Journal.{Holds}
use Rattle.lnfs_step.specs.Request.{Call, Task, Garbled, Run, MakeContext, EndContext, Request, Silent, Refused, Nothing, Asked, asked_of, request_with}
use Rattle.lnfs_step.specs.Wrapping.{Plain, caller, called, version}
use Rattle.lnfs_step.specs.Step.{Step, done_for, sent_of, step_of, step_with}
use Rattle.lnfs_step.proofs.LeftContexts.{served_stay}
use Rattle.lnfs_step.proofs.SignedCalls.{made_signed}
use Rattle.lnfs_step.proofs.Steps.{begins, chosen_any, made_state}

-- ---- worlds

-- the same contexts
fit_alike : (p : Policy) (w v : World) → v.contexts ≡ w.contexts → ContextsFit p w → ContextsFit p v
fit_alike p w v same fit = record {
  parents = subst (AllByRecursion (HasParent p)) (sym same) fit.parents;
  counts = λ level. subst (λ (contexts : List Context). count_by (λ c. c.id.level == level) contexts ≤ CONTEXTS_OF_A_LEVEL) (sym same) (fit.counts level);
}

pub first_fit : (p : Policy) → ContextsFit p (first_world p)
first_fit p = record {
  parents = subst (AllByRecursion (HasParent p)) (sym (first_bare p).contexts) tt;
  counts = λ level. subst (λ (contexts : List Context). count_by (λ c. c.id.level == level) contexts ≤ CONTEXTS_OF_A_LEVEL) (sym (first_bare p).contexts) (omega arith);
}

make_fit : (p : Policy) (parent : ℕ) (q : Place) (w : World) → is_some (parent_at p parent) ≡ true → ContextsFit p w → ContextsFit p (done_to w (make_context parent q w))
make_fit p parent q w known fit =
    demand_any (λ (o : Outcome (Option ℕ)). ContextsFit p (done_to w o)) (has_context_left (lists_of w) q.subject) _ _ fit (λ left.
    let row : Context = new_context (lists_of w) q.subject parent in
    let room = (and_parts (nat_lt (count_by (λ c. c.id.level == q.subject) w.contexts) CONTEXTS_OF_A_LEVEL) (has_number w.lasts.contexts q.subject) left).0 in
    let few : count_by (λ c. c.id.level == q.subject) w.contexts < CONTEXTS_OF_A_LEVEL = grind (arith, nat_tests, room) in
    record {
      parents = all_inserted context_order (HasParent p) row w.contexts known fit.parents;
      counts = level_comes (λ c. c.id) context_order CONTEXTS_OF_A_LEVEL row w.contexts few fit.counts;
    })

end_fit : (p : Policy) (number : ℕ) (q : Place) (w : World) → ContextsFit p w → ContextsFit p (done_to w (end_context number q w))
end_fit p number q w fit = record {
  parents = all_left (HasParent p) _ w.contexts fit.parents;
  counts = λ level. omega (arith, fit.counts level, count_left (λ (c : Context). c.id.level == level) (λ c. not (same_id (record { level = q.subject; number = number }) c.id)) w.contexts);
}

-- ---- a context is made under a parent that is there

abbrev TaskKnows : Policy → Task → Type 0
TaskKnows p (MakeContext parent assertion) = is_some (parent_at p parent) ≡ true
TaskKnows p task = Unit {0}

abbrev Knows : Policy → Request → Type 0
Knows p (Asked call task) = TaskKnows p task
Knows p request = Unit {0}

module _ (g : Further) (m : Signing) (p : Policy) (class : ℕ) (bytes : List ℕ) where
  as_asked : (r : Result CallMessage CallError) → call_of bytes ≡ r → asked_of g m p class r ≡ request_with g m p class bytes
  unfolding request_with
  as_asked r read = ap (asked_of g m p class) (sym read)

  made_knows : (call : Call) (parent : ℕ) (assertion : Assertion) → request_with g m p class bytes ≡ Asked call (MakeContext parent assertion) → is_some (parent_at p parent) ≡ true
  made_knows call parent assertion asked = at (call_of bytes) refl
    where
      at : (r : Result CallMessage CallError) → call_of bytes ≡ r → is_some (parent_at p parent) ≡ true
      at (Ok message) read = let signed = made_signed g m p class bytes message read call parent assertion asked in ap is_some signed.2
      at (Err NotACall) read = let is : ◌≡◌ {A = Request} Silent (Asked call (MakeContext parent assertion)) = as_asked (Err NotACall) read ∙ asked in absurd cc
      at (Err (BadHeader xid)) read = let is : ◌≡◌ {A = Request} (Refused xid Plain (caller AUTH_BADCRED)) (Asked call (MakeContext parent assertion)) = as_asked (Err (BadHeader xid)) read ∙ asked in absurd cc
      at (Err (BadVersion xid)) read = let is : ◌≡◌ {A = Request} (Refused xid Plain version) (Asked call (MakeContext parent assertion)) = as_asked (Err (BadVersion xid)) read ∙ asked in absurd cc
      at (Err (BadProgram xid stat)) read = let is : ◌≡◌ {A = Request} (Refused xid Plain (called stat)) (Asked call (MakeContext parent assertion)) = as_asked (Err (BadProgram xid stat)) read ∙ asked in absurd cc

  request_knows : Knows p (request_with g m p class bytes)
  request_knows = at (request_with g m p class bytes) refl
    where
      at : (r : Request) → request_with g m p class bytes ≡ r → Knows p r
      at Silent is = tt
      at (Refused xid w cause) is = tt
      at (Nothing xid) is = tt
      at (Asked call Garbled) is = tt
      at (Asked call (Run arguments c)) is = tt
      at (Asked call (MakeContext parent assertion)) is = made_knows call parent assertion is
      at (Asked call (EndContext number)) is = tt

-- ---- an event

module _ (X : Extra) (owed : AreLawful X) (m : Signing) (p : Policy) (lattice : IsPreorderWithBottom (dominance p)) where
  task_fit : (event : Event) (call : Call) (task : Task) (b : Both X.Row) → TaskKnows p task → Holds X p b → ContextsFit p b.world → ContextsFit p (done_for X m p b event call task).state.world
  task_fit event call Garbled b known holds fit = fit
  task_fit event call (Run arguments c) b known holds fit =
      fit_alike p b.world _ (served_stay X owed (site_of p) lattice (sent_of event arguments c) c (begins_at call.level event.moment) b (begins X owed m p lattice call.level event.moment b holds)) fit
  task_fit event call (MakeContext parent assertion) b known holds fit =
      let place = begins_at call.level event.moment in
      let t = on_world (deed_of (make_context parent)) place b in
      subst (λ (v : Both X.Row). ContextsFit p v.world) (sym (made_state m call parent assertion t.answer t.state)) (make_fit p parent place b.world known fit)
  task_fit event call (EndContext number) b known holds fit = end_fit p number (begins_at call.level event.moment) b.world fit

  of_fit : (event : Event) (r : Request) (b : Both X.Row) → Knows p r → Holds X p b → ContextsFit p b.world → ContextsFit p (step_of X m p b event r).state.world
  of_fit event Silent b known holds fit = fit
  of_fit event (Refused xid w cause) b known holds fit = fit
  of_fit event (Nothing xid) b known holds fit = fit
  of_fit event (Asked call task) b known holds fit =
      chosen_any (λ (s : Step (Both X.Row)). ContextsFit p s.state.world) (is_there b.world.contexts call.level call.context) _ _ (task_fit event call task b known holds fit) fit

  pub step_fit : (event : Event) (b : Both X.Row) → Holds X p b → ContextsFit p b.world → ContextsFit p (step_with X m p b event).state.world
  unfolding step_with
  step_fit event b holds fit =
      of_fit event (request_with X.grammar m p event.class event.message) b (request_knows X.grammar m p event.class event.message) holds fit
