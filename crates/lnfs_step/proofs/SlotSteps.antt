-- A COMPOUND that comes again is answered again and acts once, and its reply fits a response of its session: on any
-- state that keeps the facts.
use Rattle.std.proofs.Common.{◌≡◌, ◌≤◌, ◌<◌, ℕ, Bool, true, false, cond, List, length, Option, Some, None, refl, sym, ap, ◌∙◌, subst, arith, Ok}
use Rattle.std.specs.Prelude.{nat_le, IfSome}
use Rattle.std.proofs.lemmas.Bool.Decides.{nat_tests}
use Rattle.lnfs_calipso.specs.Label.{IsPreorderWithBottom}
use Rattle.lnfs_types.specs.declared.event.Event.{Event}
use Rattle.lnfs_arguments.specs.declared.types.Compound.{Compound}
use Rattle.lnfs_arguments.specs.declared.types.Sequence.{Sequence}
use Rattle.lnfs_arguments.specs.declared.types.CreateSession.{CreateSession}
use Rattle.lnfs_policy.specs.Policy.{Policy, dominance}
use Rattle.lnfs_world.specs.World.{Slot as SlotRow, Client, Session}
use Rattle.lnfs_world.specs.Outcome.{begins_at}
use Rattle.lnfs_world.specs.Lawful.{Turn}
use Rattle.lnfs_world.specs.Both.{Both}
use Rattle.lnfs_operations.specs.Accepted.{IsSent, AllAccepted, too_many}
use Rattle.lnfs_operations.specs.Extra.{Extra, AreLawful}
use Rattle.lnfs_operations.specs.Identifiers.{session_under}
use Rattle.lnfs_operations.specs.InOrder.{sequence_before}
use Rattle.lnfs_operations.specs.Keeping.{next_sequence}
use Rattle.lnfs_operations.specs.Results.{Denial}
use Rattle.lnfs_operations.specs.Retries.{Names}
use Rattle.lnfs_operations.specs.Bounds.{Bounds}
use Rattle.lnfs_policy.specs.PolicyText.{policy_of}
use Rattle.lnfs_step.proofs.SiteLevels.{event_level}
use Rattle.lnfs_operations.specs.SlotRule.{Answer, served}
use Rattle.lnfs_operations.proofs.AcceptedLaws.{accepted_again}
use Rattle.lnfs_operations.proofs.Retries.{answered_again, refused_again, created_again}
use Rattle.lnfs_operations.proofs.Once.{acts_once}
use Rattle.lnfs_operations.proofs.SizeLaws.{fits_named}
use Rattle.lnfs_gss3.specs.declared.numbers.TheConstants.{RPCSEC_GSS_CTXPROBLEM}
use Rattle.lnfs_gss3.specs.Mechanism.{Signing, IsSized}
use Rattle.lnfs_site.specs.Site.{site_of}
use Rattle.lnfs_step.specs.Wrapping.{caller, answer_text}
use Rattle.lnfs_step.specs.Request.{Call, Run}
use Rattle.lnfs_step.specs.Step.{Step, answered, done_for, refused_to, step_with, step_of, sent_of}
use Rattle.lnfs_step.specs.Journal.{Holds}
use Rattle.lnfs_step.specs.Sessions.{AsksAt, ComesOnSlotAt, ComesToClientAt, IsGivenAt, IsAnsweredAt, ActsOnceAt}
use Rattle.lnfs_step.proofs.FirstSizes.{labels_fit}
use Rattle.lnfs_step.proofs.Requests.{asked_parsed, asked_read, level_in, request_level}
use Rattle.lnfs_step.proofs.Steps.{begins}
use Rattle.lnfs_step.proofs.Wrappings.{answer_length}

-- what a COMPOUND of a call is, on a state
abbrev pub serving : (X : Extra) → Policy → Event → Call → (arguments : List ℕ) → Compound → Both X.Row → Turn Answer (Both X.Row)
serving X p event call arguments c b = served X (site_of p) (sent_of event arguments c) c (begins_at call.level event.moment) b

-- what a first one left, and what one behind it at a level gets there
abbrev pub GetsAgain : (X : Extra) → Policy → (level : ℕ) → Event → (arguments : List ℕ) → Compound → (result : List ℕ) → Both X.Row → Type 0
GetsAgain X p level later arguments c result v = served X (site_of p) (sent_of later arguments c) c (begins_at level later.moment) v ≡ record { answer = record { result = result; denial = None }; place = begins_at level later.moment; state = v }

module _ (X : Extra) (m : Signing) (p : Policy) (b : Both X.Row) where
  -- the step of a COMPOUND
  pub step_at : (event : Event) (call : Call) (arguments : List ℕ) (c : Compound) → AsksAt X m p b event call arguments c →
      step_with X m p b event ≡ answered m call (serving X p event call arguments c b)
  unfolding step_with
  step_at event call arguments c asks =
      ap (step_of X m p b event) asks.request ∙ ap (λ there. cond there (done_for X m p b event call (Run arguments c)) (refused_to m call b (caller RPCSEC_GSS_CTXPROBLEM))) asks.there

  -- an event that is given a result, by what is served
  given_at : (event : Event) (call : Call) (arguments : List ℕ) (c : Compound) (denial : Option Denial) (result : List ℕ) → AsksAt X m p b event call arguments c →
      serving X p event call arguments c b ≡ record { answer = record { result = result; denial = denial }; place = begins_at call.level event.moment; state = b } →
      IsGivenAt X m p b event call result
  given_at event call arguments c denial result asks same =
      let step = step_at event call arguments c asks ∙ ap (answered m call) same in
      record { reply = ap (λ (s : Step (Both X.Row)). s.reply) step; state = ap (λ (s : Step (Both X.Row)). s.state) step }

  -- one that is answered again
  pub again_at : (event : Event) (call : Call) (arguments : List ℕ) (c : Compound) (result : List ℕ) → AsksAt X m p b event call arguments c →
      GetsAgain X p call.level event arguments c result b → IsAnsweredAt X m p b event call result
  again_at event call arguments c result asks same =
      let step = step_at event call arguments c asks ∙ ap (answered m call) same in
      record { given = given_at event call arguments c None result asks same; line = ap (λ (s : Step (Both X.Row)). s.line) step }

  -- the COMPOUND whose result its slot keeps: what the slot keeps was accepted, so this one counts few operations too
  pub retry_at : AllAccepted X.grammar b.world → (event : Event) (call : Call) (arguments : List ℕ) (c : Compound) (args : Sequence) (x : Session) (slot : SlotRow) (result : List ℕ) → ComesOnSlotAt X m p b event call arguments c args x slot →
      slot ≡ record { sequence = args.sequence; kept = Some (record { arguments = arguments; reply = result }) } → IsAnsweredAt X m p b event call result
  retry_at all event call arguments c args x slot result comes same =
      let sent = sent_of event arguments c in
      let sends : IsSent X.grammar sent c = record { read = asked_parsed X.grammar m p event call arguments c comes.asks.request; count = refl } in
      let few = accepted_again X.grammar call.level b.world args sent c x slot result all sends comes.names (ap (λ (s : SlotRow). s.kept) same) in
      again_at event call arguments c result comes.asks
      (answered_again X (site_of p) sent c call.level event.moment b args comes.begins.rest x slot result comes.begins.minor comes.begins.first comes.names few same)

  -- the CREATE_SESSION whose result its client's record keeps
  pub created_at : (event : Event) (call : Call) (arguments : List ℕ) (c : Compound) (args : CreateSession) (client : Client) (result : List ℕ) → ComesToClientAt X m p b event call arguments c args client →
      args.sequence ≡ sequence_before client.sequence → client.kept ≡ Some (record { arguments = arguments; reply = result }) → IsAnsweredAt X m p b event call result
  created_at event call arguments c args client result comes last kept =
      again_at event call arguments c result comes.asks
      (created_again X (site_of p) (sent_of event arguments c) c call.level event.moment b args comes.begins.rest client result comes.begins.minor comes.alone comes.begins.first comes.own comes.record_of last kept)

  -- a COMPOUND that counts more operations than its session grants
  pub many_at : (event : Event) (call : Call) (arguments : List ℕ) (c : Compound) (args : Sequence) (x : Session) (slot : SlotRow) → ComesOnSlotAt X m p b event call arguments c args x slot → x.channel.max_operations < c.count →
      IsGivenAt X m p b event call (too_many c args).result
  many_at event call arguments c args x slot comes many =
      given_at event call arguments c _ (too_many c args).result comes.asks
      (refused_again X (site_of p) (sent_of event arguments c) c call.level event.moment b args comes.begins.rest x slot comes.begins.minor comes.begins.first comes.names many)

-- what one behind the first gets: where they are accepted, it is refused nothing
abbrev pub GetsOnce : (X : Extra) → Signing → Policy → Both X.Row → (event later : Event) (call other : Call) (accepted : Type 0) → Type 0
GetsOnce X m p b event later call other accepted = ActsOnceAt X m p b event later call other × (accepted → (step_with X m p (step_with X m p b event).state later).line ≡ None)

module _ (X : Extra) (owed : AreLawful X) (m : Signing) (p : Policy) (lattice : IsPreorderWithBottom (dominance p)) (b : Both X.Row) (holds : Holds X p b) where
  -- a new one and one behind it, where they count no more operations than their session grants
  once_accepted : (event later : Event) (call other : Call) (arguments : List ℕ) (c : Compound) (args : Sequence) (x : Session) (slot : SlotRow) → ComesOnSlotAt X m p b event call arguments c args x slot → c.count ≤ x.channel.max_operations → args.sequence ≡ next_sequence slot.sequence →
      AsksAt X m p (step_with X m p b event).state later other arguments c → other.level ≡ call.level → length later.message ≤ x.channel.max_request →
      (result : List ℕ) × ((step_with X m p b event).reply ≡ Some (answer_text m call.wrapping call.xid result)) × IsAnsweredAt X m p (step_with X m p b event).state later other result
  once_accepted event later call other arguments c args x slot comes few next asks own size =
      let first = serving X p event call arguments c b in
      let step = step_at X m p b event call arguments c comes.asks in
      let v = (step_with X m p b event).state in
      let after : v ≡ first.state = ap (λ (s : Step (Both X.Row)). s.state) step in
      let acts = acts_once X owed (site_of p) lattice (sent_of event arguments c) c call.level event.moment later.moment b args comes.begins.rest x slot (sent_of later arguments c) (begins X owed m p lattice call.level event.moment b holds) comes.begins.minor comes.begins.first comes.names few next refl size few in (
        first.answer.result,
        ap (λ (s : Step (Both X.Row)). s.reply) step,
        again_at X m p v later other arguments c first.answer.result asks
            (subst (λ level. GetsAgain X p level later arguments c first.answer.result v) (sym own)
            (subst (GetsAgain X p call.level later arguments c first.answer.result) (sym after) acts)),
      )

  -- and where they count more
  once_refused : (event later : Event) (call other : Call) (arguments : List ℕ) (c : Compound) (args : Sequence) (x : Session) (slot : SlotRow) → ComesOnSlotAt X m p b event call arguments c args x slot → x.channel.max_operations < c.count →
      AsksAt X m p (step_with X m p b event).state later other arguments c → other.level ≡ call.level → length later.message ≤ x.channel.max_request →
      ActsOnceAt X m p b event later call other
  once_refused event later call other arguments c args x slot comes many asks own size =
      let first = many_at X m p b event call arguments c args x slot comes many in
      let v = (step_with X m p b event).state in
      let there = ap (λ (v : Both X.Row). session_under args.session v.world.sessions) first.state ∙ comes.names.session in
      let names : Names other.level v.world args (sent_of later arguments c) x slot = record { own = comes.names.own ∙ sym own; session = there; size = size; slot = comes.names.slot } in
      record {
        result = (too_many c args).result;
        first = first.reply;
        again = many_at X m p v later other arguments c args x slot (record { asks = asks; begins = comes.begins; names = names }) many;
      }

  pub once_at : (event later : Event) (call other : Call) (arguments : List ℕ) (c : Compound) (args : Sequence) (x : Session) (slot : SlotRow) → ComesOnSlotAt X m p b event call arguments c args x slot → args.sequence ≡ next_sequence slot.sequence →
      AsksAt X m p (step_with X m p b event).state later other arguments c → other.level ≡ call.level → length later.message ≤ x.channel.max_request →
      GetsOnce X m p b event later call other (c.count ≤ x.channel.max_operations)
  once_at event later call other arguments c args x slot comes next asks own size = at (nat_le c.count x.channel.max_operations) refl
    where
      at : (t : Bool) → nat_le c.count x.channel.max_operations ≡ t → GetsOnce X m p b event later call other (c.count ≤ x.channel.max_operations)
      at true is =
          let (result, reply, answered) = once_accepted event later call other arguments c args x slot comes (grind (arith, nat_tests, is)) next asks own size in
          (record { result = result; first = reply; again = answered.given }, λ few. answered.line)
      at false is =
          let both = once_refused event later call other arguments c args x slot comes (grind (arith, nat_tests, is)) asks own size in
          (both, λ few. absurd (grind (arith, nat_tests, is, few)))

  pub room_at : (text : List ℕ) → policy_of text ≡ Ok p → IsSized m → Bounds (site_of p) b.world → (event : Event) (call : Call) (arguments : List ℕ) (c : Compound) (args : Sequence) (x : Session) (slot : SlotRow) → ComesOnSlotAt X m p b event call arguments c args x slot →
      IfSome (step_with X m p b event).reply (λ reply. length reply ≤ x.channel.max_response)
  room_at text is sized bounds event call arguments c args x slot comes =
      let sent = sent_of event arguments c in
      let result = (serving X p event call arguments c b).answer.result in
      let level = event_level p text is m event.class event.message call.level (sym (request_level X.grammar m p event.class event.message) ∙ ap level_in comes.asks.request) in
      let fits = fits_named X owed (site_of p) lattice (labels_fit p) sent c call.level event.moment b (begins X owed m p lattice call.level event.moment b holds) level bounds (asked_read X.grammar m p event call arguments c comes.asks.request) args comes.begins.rest x slot comes.begins.minor comes.begins.first comes.names in
      subst (λ (o : Option (List ℕ)). IfSome o (λ reply. length reply ≤ x.channel.max_response)) (sym (ap (λ (s : Step (Both X.Row)). s.reply) (step_at X m p b event call arguments c comes.asks)))
      (omega (arith, answer_length m sized call.wrapping call.xid result, fits))
