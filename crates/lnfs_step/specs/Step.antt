-- The step that an event makes: the world and the rows of further operations afterwards, the reply if one is
-- due, and the audit line if something was refused.
use Rattle.std.specs.Prelude.{ℕ, cond, List, length, Option, Some, None, codes, option_map}
use Rattle.lnfs_types.specs.declared.event.Event.{Event}
use Rattle.lnfs_arguments.specs.declared.types.Compound.{Compound}
use Rattle.lnfs_policy.specs.Policy.{Policy}
use Rattle.lnfs_world.specs.Outcome.{begins_at}
use Rattle.lnfs_world.specs.Lawful.{Turn, deed_of}
use Rattle.lnfs_world.specs.Both.{Both, on_world}
use Rattle.lnfs_monitor.specs.declared.rule.Rule.{Rule}
use Rattle.lnfs_monitor.specs.declared.rule.Rule.TheVariants as rules
use Rattle.lnfs_operations.specs.declared.Gate.{Gate}
use Rattle.lnfs_operations.specs.declared.Gate.TheVariants.{Session, Room, Argument, Outside, Namespace, Monitor, Open, Quota}
use Rattle.lnfs_operations.specs.Extra.{Extra}
use Rattle.lnfs_operations.specs.Results.{Denial}
use Rattle.lnfs_operations.specs.Sequence.{Sent}
use Rattle.lnfs_operations.specs.SlotRule.{Answer, served}
use Rattle.lnfs_gss3.specs.declared.numbers.TheConstants.{RPCSEC_GSS_CTXPROBLEM}
use Rattle.lnfs_gss3.specs.Mechanism.{Signing}
use Rattle.lnfs_gss3.specs.Grammar.{Assertion, handle_text, create_res_text}
use Rattle.lnfs_site.specs.Site.{site_of}
use Rattle.lnfs_step.specs.declared.numbers.TheConstants.{GARBAGE_ARGS, SYSTEM_ERR}
use Rattle.lnfs_step.specs.Wrapping.{Wrapping, Plain, Cause, caller, called, version, answer_text, bare_text, refusal_text}
use Rattle.lnfs_step.specs.Request.{Call, Task, Garbled, Run, MakeContext, EndContext, Request, Silent, Refused, Nothing, Asked, request_with}
use Rattle.lnfs_step.specs.Contexts.{is_there, make_context, end_context}

-- An audit line without its event's place: the operation's place in its COMPOUND, from 1, and its
-- number, the gate that refused, and the status. A refusal of the call as a whole has place and
-- number 0.
pub record Line : Type 0 where
  pub place : ℕ
  pub number : ℕ
  pub gate : List ℕ
  pub status : ℕ

abbrev pub rule_name : Rule → List ℕ
rule_name rules.M1 = codes "M1"
rule_name rules.M2 = codes "M2"
rule_name rules.M3 = codes "M3"
rule_name rules.M4 = codes "M4"
rule_name rules.M5 = codes "M5"
rule_name rules.M6 = codes "M6"
rule_name rules.M7 = codes "M7"
rule_name rules.M8 = codes "M8"
rule_name rules.M9 = codes "M9"

-- the letter of a gate, or the name of the rule of labels
abbrev pub letter : Gate → List ℕ
letter Session = codes "S"
letter Room = codes "R"
letter Argument = codes "A"
letter Outside = codes "X"
letter Namespace = codes "N"
letter (Monitor rule) = rule_name rule
letter Open = codes "O"
letter Quota = codes "Q"

abbrev pub whole_call : List ℕ → ℕ → Line
whole_call gate status = record { place = 0; number = 0; gate = gate; status = status }

-- the line of a call that is refused as a whole
abbrev pub line_of_cause : Cause → Line
line_of_cause (caller stat) = whole_call (codes "C") stat
line_of_cause (called stat) = whole_call (codes "P") stat
line_of_cause version = whole_call (codes "V") 0

abbrev pub line_of : Denial → Line
line_of d = record { place = d.place; number = d.number; gate = letter d.gate; status = d.status }

pub record Step (S : Type 0) : Type 0 where
  pub state : S
  pub reply : Option (List ℕ)
  pub line : Option Line

-- A COMPOUND as it was sent: its arguments, the length of the whole record, and how many operations it counts.
abbrev pub sent_of : Event → (arguments : List ℕ) → Compound → Sent
sent_of event arguments c = record { arguments = arguments; size = length event.message; count = c.count }

-- ---- what is asked, and how it is answered

-- a refusal leaves the state
abbrev pub refused : {S : Type 0} → Signing → (xid : ℕ) → Wrapping → S → Cause → Step S
refused m xid w b cause = record { state = b; reply = Some (refusal_text m w xid cause); line = Some (line_of_cause cause) }

abbrev pub refused_to : {S : Type 0} → Signing → Call → S → Cause → Step S
refused_to m call b cause = refused m call.xid call.wrapping b cause

abbrev pub answered : {S : Type 0} → Signing → Call → Turn Answer S → Step S
answered m call t = record {
  state = t.state;
  reply = Some (answer_text m call.wrapping call.xid t.answer.result);
  line = option_map line_of t.answer.denial;
}

-- the handle of a new context, and the assertion as it was sent
abbrev pub granted : Call → (parent : ℕ) → Assertion → (number : ℕ) → List ℕ
granted call parent assertion number = create_res_text (record {
  handle = handle_text (record { parent = parent; level = record { 0 = call.level }; number = number });
  assertion = assertion;
})

-- a context was made, or its level is full
abbrev pub made : {S : Type 0} → Signing → Call → (parent : ℕ) → Assertion → S → Option ℕ → Step S
made m call parent assertion b (Some number) = record {
  state = b;
  reply = Some (answer_text m call.wrapping call.xid (granted call parent assertion number));
  line = None;
}
made m call parent assertion b None = refused_to m call b (called SYSTEM_ERR)

abbrev pub ended : {S : Type 0} → Signing → Call → S → Step S
ended m call b = record { state = b; reply = Some (bare_text m call.wrapping call.xid); line = None }

-- a call whose context, if it comes in one, is there
abbrev pub done_for : (X : Extra) → Signing → Policy → Both X.Row → Event → Call → Task → Step (Both X.Row)
done_for X m p b event call Garbled = refused_to m call b (called GARBAGE_ARGS)
done_for X m p b event call (Run arguments c) =
    answered m call (served X (site_of p) (sent_of event arguments c) c (begins_at call.level event.moment) b)
done_for X m p b event call (MakeContext parent assertion) =
    let t = on_world (deed_of (make_context parent)) (begins_at call.level event.moment) b in
    made m call parent assertion t.state t.answer
done_for X m p b event call (EndContext number) =
    ended m call (on_world (deed_of (end_context number)) (begins_at call.level event.moment) b).state

abbrev pub step_of : (X : Extra) → Signing → Policy → Both X.Row → Event → Request → Step (Both X.Row)
step_of X m p b event Silent = record { state = b; reply = None; line = None }
step_of X m p b event (Refused xid w cause) = refused m xid w b cause
step_of X m p b event (Nothing xid) = record { state = b; reply = Some (bare_text m Plain xid); line = None }
step_of X m p b event (Asked call task) =
    cond (is_there b.world.contexts call.level call.context) (done_for X m p b event call task)
    (refused_to m call b (caller RPCSEC_GSS_CTXPROBLEM))

-- the step with further operations
unfoldable pub step_with : (X : Extra) → Signing → Policy → Both X.Row → Event → Step (Both X.Row)
step_with X m p b event = step_of X m p b event (request_with X.grammar m p event.class event.message)
