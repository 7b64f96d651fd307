-- After a journal, a COMPOUND that comes again is answered again and acts once, and its reply fits a response of its
-- session.
use Rattle.std.proofs.Common.{◌≡◌, ◌≤◌, ◌<◌, ℕ, List, [], ◌∷◌, ◌++◌, length, Some, None, sym, ◌∙◌, subst, Ok}
use Rattle.std.specs.Prelude.{IfSome}
use Rattle.lnfs_calipso.specs.Label.{IsPreorderWithBottom}
use Rattle.lnfs_types.specs.declared.event.Event.{Event}
use Rattle.lnfs_arguments.specs.declared.types.Compound.{Compound}
use Rattle.lnfs_arguments.specs.declared.types.Sequence.{Sequence}
use Rattle.lnfs_arguments.specs.declared.types.CreateSession.{CreateSession}
use Rattle.lnfs_policy.specs.Policy.{Policy, dominance}
use Rattle.lnfs_world.specs.World.{Slot as SlotRow, Client, Session}
use Rattle.lnfs_world.specs.Both.{Both}
use Rattle.lnfs_operations.specs.Accepted.{too_many}
use Rattle.lnfs_operations.specs.Extra.{Extra, AreLawful}
use Rattle.lnfs_operations.specs.InOrder.{sequence_before}
use Rattle.lnfs_operations.specs.Keeping.{next_sequence}
use Rattle.lnfs_gss3.specs.Mechanism.{Signing, IsSized}
use Rattle.lnfs_step.specs.Wrapping.{answer_text}
use Rattle.lnfs_step.specs.Request.{Call}
use Rattle.lnfs_step.specs.Step.{answered, step_with}
use Rattle.lnfs_step.specs.Journal.{state_after, first_state, reply_with, line_with}
use Rattle.lnfs_step.specs.Sessions.{AsksAt, Asks, ComesOnSlot, ComesToClient, IsGivenAt, IsAnsweredAt, IsGiven, IsAnswered}
use Rattle.lnfs_step.proofs.Accepted.{accepted_after}
use Rattle.lnfs_step.proofs.StepBounds.{bounds_after}
use Rattle.lnfs_policy.specs.PolicyText.{policy_of}
use Rattle.lnfs_step.proofs.SlotSteps.{serving, GetsAgain, step_at, again_at, retry_at, created_at, many_at, once_at, room_at}
use Rattle.lnfs_step.proofs.Steps.{state_from-append, holds_after}

module _ (X : Extra) (m : Signing) (p : Policy) (journal : List Event) (event : Event) where
  -- the step of a COMPOUND
  pub step_is : (call : Call) (arguments : List ℕ) (c : Compound) → Asks X m p journal event call arguments c →
      step_with X m p (state_after X m p journal) event ≡ answered m call (serving X p event call arguments c (state_after X m p journal))
  step_is call arguments c asks = step_at X m p (state_after X m p journal) event call arguments c asks

  -- the state after one more event
  pub state_next : state_after X m p (journal ++ event ∷ []) ≡ (step_with X m p (state_after X m p journal) event).state
  state_next = state_from-append X m p (first_state X p) journal event

  -- what is given and answered there
  pub given_after : (call : Call) (result : List ℕ) → IsGivenAt X m p (state_after X m p journal) event call result → IsGiven X m p journal event call result
  unfolding reply_with
  given_after call result is = record { reply = is.reply; state = state_next ∙ is.state }

  pub answered_after : (call : Call) (result : List ℕ) → IsAnsweredAt X m p (state_after X m p journal) event call result → IsAnswered X m p journal event call result
  unfolding line_with
  answered_after call result is = record { given = given_after call result is.given; line = is.line }

  -- one that is answered again
  pub again : (call : Call) (arguments : List ℕ) (c : Compound) (result : List ℕ) → Asks X m p journal event call arguments c →
      GetsAgain X p call.level event arguments c result (state_after X m p journal) → IsAnswered X m p journal event call result
  again call arguments c result asks same = answered_after call result (again_at X m p (state_after X m p journal) event call arguments c result asks same)

  pub created_answered : (call : Call) (arguments : List ℕ) (c : Compound) (args : CreateSession) (client : Client) (result : List ℕ) → ComesToClient X m p journal event call arguments c args client →
      args.sequence ≡ sequence_before client.sequence → client.kept ≡ Some (record { arguments = arguments; reply = result }) → IsAnswered X m p journal event call result
  created_answered call arguments c args client result comes last kept = answered_after call result (created_at X m p (state_after X m p journal) event call arguments c args client result comes last kept)

  pub many_refused : (call : Call) (arguments : List ℕ) (c : Compound) (args : Sequence) (x : Session) (slot : SlotRow) → ComesOnSlot X m p journal event call arguments c args x slot → x.channel.max_operations < c.count →
      IsGiven X m p journal event call (too_many c args).result
  many_refused call arguments c args x slot comes many = given_after call (too_many c args).result (many_at X m p (state_after X m p journal) event call arguments c args x slot comes many)

-- what is asked and given directly behind an event
module _ (X : Extra) (m : Signing) (p : Policy) (journal : List Event) (event later : Event) where
  pub asked_behind : (other : Call) (arguments : List ℕ) (c : Compound) → Asks X m p (journal ++ event ∷ []) later other arguments c → AsksAt X m p (step_with X m p (state_after X m p journal) event).state later other arguments c
  asked_behind other arguments c asks = subst (λ (v : Both X.Row). AsksAt X m p v later other arguments c) (state_next X m p journal event) asks

  pub given_behind : (other : Call) (result : List ℕ) → IsGivenAt X m p (step_with X m p (state_after X m p journal) event).state later other result → IsGiven X m p (journal ++ event ∷ []) later other result
  given_behind other result is = given_after X m p (journal ++ event ∷ []) later other result (subst (λ (v : Both X.Row). IsGivenAt X m p v later other result) (sym (state_next X m p journal event)) is)

  pub unrecorded_behind : (step_with X m p (step_with X m p (state_after X m p journal) event).state later).line ≡ None → line_with X m p (journal ++ event ∷ []) later ≡ None
  unfolding line_with
  unrecorded_behind none = subst (λ (v : Both X.Row). (step_with X m p v later).line ≡ None) (sym (state_next X m p journal event)) none

-- the result of a first one, which one behind it is given too; where they are accepted, nothing is refused
abbrev pub Once : (X : Extra) → Signing → Policy → List Event → (event later : Event) (call other : Call) (accepted : Type 0) → Type 0
Once X m p journal event later call other accepted =
    (result : List ℕ) × (reply_with X m p journal event ≡ Some (answer_text m call.wrapping call.xid result)) × IsGiven X m p (journal ++ event ∷ []) later other result × (accepted → line_with X m p (journal ++ event ∷ []) later ≡ None)

module _ (X : Extra) (owed : AreLawful X) (m : Signing) (p : Policy) (lattice : IsPreorderWithBottom (dominance p)) (journal : List Event) where
  pub retry_answered : (text : List ℕ) → policy_of text ≡ Ok p → (event : Event) (call : Call) (arguments : List ℕ) (c : Compound) (args : Sequence) (x : Session) (slot : SlotRow) (result : List ℕ) → ComesOnSlot X m p journal event call arguments c args x slot →
      slot ≡ record { sequence = args.sequence; kept = Some (record { arguments = arguments; reply = result }) } → IsAnswered X m p journal event call result
  retry_answered text is event call arguments c args x slot result comes same =
      answered_after X m p journal event call result (retry_at X m p (state_after X m p journal) (accepted_after X owed m p lattice text is journal) event call arguments c args x slot result comes same)

  pub once_answered : (event later : Event) (call other : Call) (arguments : List ℕ) (c : Compound) (args : Sequence) (x : Session) (slot : SlotRow) → ComesOnSlot X m p journal event call arguments c args x slot → args.sequence ≡ next_sequence slot.sequence →
      Asks X m p (journal ++ event ∷ []) later other arguments c → other.level ≡ call.level → length later.message ≤ x.channel.max_request →
      Once X m p journal event later call other (c.count ≤ x.channel.max_operations)
  unfolding reply_with
  once_answered event later call other arguments c args x slot comes next asks own size =
      let once = once_at X owed m p lattice (state_after X m p journal) (holds_after X owed m p lattice journal) event later call other arguments c args x slot comes next (asked_behind X m p journal event later other arguments c asks) own size in (
        once.0.result,
        once.0.first,
        given_behind X m p journal event later other once.0.result once.0.again,
        λ few. unrecorded_behind X m p journal event later (once.1 few),
      )

  pub room_left : (text : List ℕ) → policy_of text ≡ Ok p → IsSized m → (event : Event) (call : Call) (arguments : List ℕ) (c : Compound) (args : Sequence) (x : Session) (slot : SlotRow) → ComesOnSlot X m p journal event call arguments c args x slot →
      IfSome (reply_with X m p journal event) (λ reply. length reply ≤ x.channel.max_response)
  unfolding reply_with
  room_left text is sized event call arguments c args x slot comes =
      room_at X owed m p lattice (state_after X m p journal) (holds_after X owed m p lattice journal) text is sized (bounds_after X owed m p text is journal) event call arguments c args x slot comes
