-- A request of the client comes that runs a COMPOUND: its step, in a context that is there and in one that isn't.
use Rattle.std.proofs.Common.{◌≡◌, ℕ, Bool, true, false, ◌&&◌, List, Some, ◌∙◌, ap, subst}
use Rattle.lnfs_calipso.specs.Label.{IsPreorderWithBottom}
use Rattle.lnfs_types.specs.declared.event.Event.{Event}
use Rattle.lnfs_arguments.specs.declared.types.Compound.{Compound}
use Rattle.lnfs_policy.specs.Policy.{Policy, dominance}
use Rattle.lnfs_world.specs.World.{last_of}
use Rattle.lnfs_world.specs.Outcome.{begins_at}
use Rattle.lnfs_world.specs.Lawful.{Turn}
use Rattle.lnfs_world.specs.Both.{Both}
use Rattle.lnfs_operations.specs.Extra.{Extra, AreLawful}
use Rattle.lnfs_operations.specs.Sequence.{Sent}
use Rattle.lnfs_operations.specs.Served.{operation}
use Rattle.lnfs_operations.specs.SlotRule.{Answer, run_all}
use Rattle.lnfs_gss3.specs.declared.numbers.TheConstants.{RPCSEC_GSS_CTXPROBLEM}
use Rattle.lnfs_gss3.specs.Mechanism.{Signing}
use Rattle.lnfs_site.specs.Site.{site_of}
use Rattle.lnfs_step.specs.Wrapping.{caller, answer_text, refusal_text}
use Rattle.lnfs_step.specs.Request.{Run, Asked, request_with}
use Rattle.lnfs_step.specs.Contexts.{is_there}
use Rattle.lnfs_step.specs.Journal.{Holds}
use Rattle.lnfs_step.specs.Step.{Step, answered, sent_of, step_with}
use Rattle.lnfs_step.proofs.SlotSteps.{serving}
use Rattle.lnfs_step.proofs.Steps.{keeps}
use Rattle.lnfs_once.specs.Client.{Packet}
use Rattle.lnfs_slots.specs.OneClient.{Seen, When, Writer, mine_after, keeps_in, is_keeping, event_of, serve}
use Rattle.lnfs_slots.specs.Written.{context_of, call_of}
use Rattle.lnfs_slots.proofs.Steps.{step_there, step_lost}

module _ (X : Extra) (m : Signing) (p : Policy) {A : Type 0} (w : Writer A) (v : Seen X) (when : When) (q : Packet A) (same_mine : (i j : ℕ) → mine_after q.kind i j v.mine ≡ v.mine) (compound : Compound) (request : request_with X.grammar m p w.class (w.text q) ≡ Asked (call_of X m p w q) (Run (w.arguments q) compound)) where
  abbrev b : Both X.Row
  b = v.state

  abbrev event : Event
  event = event_of X m p w when q

  abbrev pub sent : Sent
  sent = sent_of event (w.arguments q) compound

  abbrev result : Turn Answer (Both X.Row)
  result = serving X p event (call_of X m p w q) (w.arguments q) compound b

  abbrev here : Bool
  here = is_there b.world.contexts w.level (context_of w.parent q.place.context)

  -- the state of the server, with the client's contexts
  abbrev seen : Both X.Row → (mine : List ℕ) → Seen X
  seen a mine = record { state = a; mine = mine }

  seen_as : (step : Step (Both X.Row)) (a : Both X.Row) → step.state ≡ a → (i j : ℕ) → seen step.state (mine_after q.kind i j v.mine) ≡ seen a v.mine
  seen_as step a e i j = λ k. seen (e k) (same_mine i j k)

  abbrev last_before : ℕ
  last_before = last_of w.level b.world.lasts.contexts

  abbrev last_after : ℕ
  last_after = last_of w.level (step_with X m p b event).state.world.lasts.contexts

  pub acts_is : keeps_in X p b event (request_with X.grammar m p w.class (w.text q)) ≡ (here && is_keeping (run_all (operation X (site_of p) sent compound) compound (begins_at w.level when.moment) b).keeper)
  acts_is = ap (keeps_in X p b event) request

  -- what a step comes to that leaves this state, where nothing acts
  pub record IsDone (u : Seen X) : Type 0 where
    pub state : (serve X m p w v when q).state ≡ u
    pub acts : (serve X m p w v when q).acts ≡ false

  -- in a context that is not there
  pub away : here ≡ false → IsDone v
  away e = record {
    state = seen_as (step_with X m p b event) b (ap (λ (s : Step (Both X.Row)). s.state) (step_lost X m p b event (call_of X m p w q) (Run (w.arguments q) compound) request e)) last_before last_after;
    acts = acts_is ∙ ap (λ t. t && is_keeping (run_all (operation X (site_of p) sent compound) compound (begins_at w.level when.moment) b).keeper) e;
  }

  pub away_reply : here ≡ false → (serve X m p w v when q).reply ≡ Some (refusal_text m (w.wrapping q) q.xid (caller RPCSEC_GSS_CTXPROBLEM))
  away_reply e = ap (λ (s : Step (Both X.Row)). s.reply) (step_lost X m p b event (call_of X m p w q) (Run (w.arguments q) compound) request e)

  pub step_is : here ≡ true → step_with X m p b event ≡ answered m (call_of X m p w q) result
  step_is e = step_there X m p b event (call_of X m p w q) (Run (w.arguments q) compound) request e

  -- in one that is there
  pub done : here ≡ true → (a : Both X.Row) → result.state ≡ a → is_keeping (run_all (operation X (site_of p) sent compound) compound (begins_at w.level when.moment) b).keeper ≡ false → IsDone (record { state = a; mine = v.mine })
  done e a is keeps = record {
    state = seen_as (step_with X m p b event) a (ap (λ (s : Step (Both X.Row)). s.state) (step_is e) ∙ is) last_before last_after;
    acts = acts_is ∙ ap (λ t. t && is_keeping (run_all (operation X (site_of p) sent compound) compound (begins_at w.level when.moment) b).keeper) e ∙ keeps;
  }

  pub reply_is : here ≡ true → (serve X m p w v when q).reply ≡ Some (answer_text m (w.wrapping q) q.xid result.answer.result)
  reply_is e = ap (λ (s : Step (Both X.Row)). s.reply) (step_is e)

  -- the facts hold afterwards
  pub holds_then : AreLawful X → IsPreorderWithBottom (dominance p) → Holds X p b → (u : Seen X) → IsDone u → Holds X p u.state
  holds_then owed lattice holds u is = subst (λ (s : Seen X). Holds X p s.state) is.state (keeps X owed m p lattice event b holds)
