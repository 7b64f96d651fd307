-- The lengths of replies.
use Rattle.std.proofs.Common.{◌≡◌, ◌≤◌, ℕ, true, List, length, Option, Some, None, Ok, refl, sym, ◌∙◌, arith}
use Rattle.std.specs.Prelude.{IfSome}
use Rattle.std.proofs.lemmas.List.{length-append}
use Rattle.lnfs_calipso.specs.Label.{IsPreorderWithBottom}
use Rattle.lnfs_types.specs.declared.limits.TheConstants.{RECORD_LIMIT}
use Rattle.lnfs_types.specs.declared.event.Event.{Event}
use Rattle.lnfs_xdr.proofs.Sizes.{length-word, length-long, length-opaque}
use Rattle.lnfs_format.specs.declared.formats.TheConstants.{MAX_SPELLING}
use Rattle.lnfs_policy.specs.Policy.{Policy, dominance}
use Rattle.lnfs_policy.specs.PolicyText.{policy_of}
use Rattle.lnfs_world.specs.Outcome.{begins_at}
use Rattle.lnfs_world.specs.Lawful.{deed_of}
use Rattle.lnfs_world.specs.Both.{Both, on_world}
use Rattle.lnfs_operations.specs.Extra.{Extra, AreLawful}
use Rattle.lnfs_operations.specs.Bounds.{Bounds}
use Rattle.lnfs_operations.specs.Sizes.{is_level}
use Rattle.lnfs_operations.specs.SlotRule.{served}
use Rattle.lnfs_operations.proofs.SizeLaws.{served_short}
use Rattle.lnfs_gss3.specs.declared.handle.ContextHandle.{ContextHandle}
use Rattle.lnfs_gss3.specs.declared.numbers.TheConstants.{RPCSEC_GSS_CTXPROBLEM}
use Rattle.lnfs_gss3.specs.Mechanism.{Signing, IsSized}
use Rattle.lnfs_gss3.specs.Grammar.{Assertion, handle_text, assertion_text, create_res_text}
use Rattle.lnfs_site.specs.Site.{site_of}
use Rattle.lnfs_step.specs.declared.numbers.TheConstants.{SYSTEM_ERR, GARBAGE_ARGS}
use Rattle.lnfs_step.specs.Wrapping.{Plain, caller, called}
use Rattle.lnfs_step.specs.Request.{Call, Task, Garbled, Run, MakeContext, EndContext, Request, Silent, Refused, Nothing, Asked, request_with}
use Rattle.lnfs_step.specs.Contexts.{is_there, make_context}
use Rattle.lnfs_step.specs.Step.{Step, granted, made, done_for, step_of, step_with, sent_of}
use Rattle.lnfs_step.specs.Journal.{state_after, reply_with, Holds}
use Rattle.lnfs_step.proofs.Compounds.{compound_read}
use Rattle.lnfs_step.proofs.FirstSizes.{labels_fit}
use Rattle.lnfs_step.proofs.Requests.{IsTask, Reads, level_in, request_level, request_reads}
use Rattle.lnfs_step.proofs.SiteLevels.{event_level}
use Rattle.lnfs_step.proofs.StepBounds.{bounds_after}
use Rattle.lnfs_step.proofs.Steps.{chosen_any, begins, holds_after}
use Rattle.lnfs_step.proofs.Wrappings.{padding_few, answer_length, bare_length, refusal_length}

-- ---- what is granted

handle_length : (h : ContextHandle) → length (handle_text h) ≡ 16
unfolding handle_text
handle_length h = simp (length-append, length-word, length-long) (omega arith)

assertion_length : (a : Assertion) → length a.label ≤ MAX_SPELLING → length (assertion_text a) ≤ 1044
unfolding assertion_text
assertion_length a short = simp (length-append, length-word) (omega (arith, length-opaque a.label, padding_few (length a.label), short))

pub granted_length : (call : Call) (parent : ℕ) (a : Assertion) (number : ℕ) → length a.label ≤ MAX_SPELLING → length (granted call parent a number) ≤ 1100
unfolding create_res_text
granted_length call parent a number short =
    let h : ContextHandle = record { parent = parent; level = record { 0 = call.level }; number = number } in
    simp (length-append, length-word) (omega (arith, length-opaque (handle_text h), handle_length h, padding_few (length (handle_text h)), assertion_length a short))

-- ---- replies

abbrev pub IsShort : Option (List ℕ) → Type 0
IsShort reply = IfSome reply (λ text. length text ≤ RECORD_LIMIT)

module _ (X : Extra) (owed : AreLawful X) (m : Signing) (p : Policy) (lattice : IsPreorderWithBottom (dominance p)) (text : List ℕ) (is : policy_of text ≡ Ok p) where
  module _ (sized : IsSized m) where
    made_short : {S : Type 0} (call : Call) (parent : ℕ) (assertion : Assertion) (o : Option ℕ) (s : S) → length assertion.label ≤ MAX_SPELLING → IsShort (made m call parent assertion s o).reply
    made_short call parent assertion None s short = refusal_length m sized call.wrapping call.xid (called SYSTEM_ERR)
    made_short call parent assertion (Some number) s short = omega (arith, answer_length m sized call.wrapping call.xid (granted call parent assertion number), granted_length call parent assertion number short)

    task_short : (event : Event) (call : Call) (task : Task) (b : Both X.Row) → is_level (site_of p) call.level ≡ true → IsTask X.grammar task → Holds X p b → Bounds (site_of p) b.world → IsShort (done_for X m p b event call task).reply
    task_short event call Garbled b level read holds bounds = refusal_length m sized call.wrapping call.xid (called GARBAGE_ARGS)
    task_short event call (Run arguments c) b level read holds bounds =
        let t = served X (site_of p) (sent_of event arguments c) c (begins_at call.level event.moment) b in
        omega (arith, answer_length m sized call.wrapping call.xid t.answer.result, served_short X owed (site_of p) lattice (labels_fit p) (sent_of event arguments c) c call.level event.moment b (begins X owed m p lattice call.level event.moment b holds) level bounds (compound_read X.grammar arguments c read))
    task_short event call (MakeContext parent assertion) b level read holds bounds =
        let t = on_world (deed_of (make_context parent)) (begins_at call.level event.moment) b in
        made_short call parent assertion t.answer t.state read
    task_short event call (EndContext number) b level read holds bounds = bare_length m sized call.wrapping call.xid

    of_short : (event : Event) (r : Request) (b : Both X.Row) → ((l : ℕ) → level_in r ≡ Some l → is_level (site_of p) l ≡ true) → Reads X.grammar r → Holds X p b → Bounds (site_of p) b.world → IsShort (step_of X m p b event r).reply
    of_short event Silent b level read holds bounds = tt
    of_short event (Refused xid w cause) b level read holds bounds = refusal_length m sized w xid cause
    of_short event (Nothing xid) b level read holds bounds = bare_length m sized Plain xid
    of_short event (Asked call task) b level read holds bounds =
        chosen_any (λ (s : Step (Both X.Row)). IsShort s.reply) (is_there b.world.contexts call.level call.context) _ _ (task_short event call task b (level call.level refl) read holds bounds) (refusal_length m sized call.wrapping call.xid (caller RPCSEC_GSS_CTXPROBLEM))

    pub step_short : (event : Event) (b : Both X.Row) → Holds X p b → Bounds (site_of p) b.world → IfSome (step_with X m p b event).reply (λ reply. length reply ≤ RECORD_LIMIT)
    unfolding step_with
    step_short event b holds bounds =
        of_short event (request_with X.grammar m p event.class event.message) b
        (λ l is_l. event_level p text is m event.class event.message l (sym (request_level X.grammar m p event.class event.message) ∙ is_l))
        (request_reads X.grammar m p event.class event.message) holds bounds

    pub reply_short : (journal : List Event) (event : Event) → IfSome (reply_with X m p journal event) (λ reply. length reply ≤ RECORD_LIMIT)
    unfolding reply_with
    reply_short journal event = step_short event (state_after X m p journal) (holds_after X owed m p lattice journal) (bounds_after X owed m p text is journal)
