-- The level of a request is that of who calls, whatever further operations are read; a COMPOUND that is asked was read, and a
-- label that is asserted is short.
use Rattle.std.proofs.Common.{◌≡◌, ◌≤◌, ℕ, Bool, true, false, List, [], ◌∷◌, length, Option, Some, None, Ok, Err, refl, subst}
use Rattle.std.specs.Prelude.{Result}
use Rattle.std.specs.List.{AllByRecursion}
use Rattle.lnfs_types.specs.declared.event.Event.{Event}
use Rattle.lnfs_format.specs.declared.formats.TheConstants.{MAX_SPELLING}
use Rattle.lnfs_policy.specs.Policy.{Policy}
use Rattle.lnfs_rpc.specs.declared.calls.CallError.{CallError}
use Rattle.lnfs_rpc.specs.declared.calls.CallError.TheVariants.{NotACall, BadHeader, BadVersion, BadProgram}
use Rattle.lnfs_rpc.specs.Calls.{CallMessage, call_of}
use Rattle.lnfs_arguments.specs.declared.types.Compound.{Compound}
use Rattle.lnfs_xdr.specs.Message.{parse}
use Rattle.lnfs_arguments.specs.Whole.{compound}
use Rattle.lnfs_arguments.specs.Further.{Further}
use Rattle.lnfs_operations.specs.Sizes.{IsRead}
use Rattle.lnfs_gss3.specs.declared.caller.Caller.{Caller}
use Rattle.lnfs_gss3.specs.declared.caller.Caller.TheVariants.{Null, Nobody, Garbage, Guest, Create, Data, Destroy}
use Rattle.lnfs_gss3.specs.Mechanism.{Signing}
use Rattle.lnfs_gss3.specs.Grammar.{Body, body}
use Rattle.lnfs_gss3.specs.Who.{who}
use Rattle.lnfs_gss3.specs.Who as whose
use Rattle.lnfs_step.specs.Request.{Call, Task, Garbled, Run, MakeContext, EndContext, Request, Silent, Refused, Nothing, Asked, null_call, run_as, run_of, run_in, run_signed, asked_by, asked_of, request_with}
use Rattle.lnfs_step.specs.Level.{level_by, level_of}
use Rattle.lnfs_step.proofs.Callers.{who_any}
use Rattle.lnfs_step.proofs.Compounds.{compound_read, compound_outside}
use Rattle.lnfs_step.proofs.Denials.{OutsideIs}

abbrev pub level_in : Request → Option ℕ
level_in Silent = None
level_in (Refused xid w cause) = None
level_in (Nothing xid) = None
level_in (Asked call task) = Some call.level

null_level : (xid : ℕ) (bytes : List ℕ) → level_in (null_call xid bytes) ≡ None
null_level xid [] = refl
null_level xid (b ∷ bytes) = refl

abbrev pub IsTask : Further → Task → Type 0
IsTask g Garbled = Unit {0}
IsTask g (Run arguments c) = parse (compound g) arguments ≡ Ok c
IsTask g (MakeContext parent assertion) = length assertion.label ≤ MAX_SPELLING
IsTask g (EndContext number) = Unit {0}

abbrev pub Reads : Further → Request → Type 0
Reads g Silent = Unit {0}
Reads g (Refused xid w cause) = Unit {0}
Reads g (Nothing xid) = Unit {0}
Reads g (Asked call task) = IsTask g task

module _ (g : Further) where
  null_reads : (xid : ℕ) (bytes : List ℕ) → Reads g (null_call xid bytes)
  null_reads xid [] = tt
  null_reads xid (b ∷ bytes) = tt

  as_task : (arguments : List ℕ) (r : Result Compound (List ℕ)) → parse (compound g) arguments ≡ r → IsTask g (run_as arguments r)
  as_task arguments (Ok c) e = e
  as_task arguments (Err stuck) e = tt

  of_task : (arguments : List ℕ) → IsTask g (run_of g arguments)
  of_task arguments = as_task arguments (parse (compound g) arguments) refl

  in_task : (o : Option Body) → IsTask g (run_in g o)
  in_task None = tt
  in_task (Some b) = of_task b.content

  signed_task : (aligned : Bool) (bytes : List ℕ) → IsTask g (run_signed g aligned bytes)
  signed_task true bytes = in_task (body bytes)
  signed_task false bytes = tt

  module _ (m : Signing) (p : Policy) where
    by_level : (call : CallMessage) (c : Caller) → level_in (asked_by g p call c) ≡ whose.level_of c
    by_level call Null = null_level call.xid call.arguments
    by_level call (Nobody stat) = refl
    by_level call (Garbage parent sequence) = refl
    by_level call (Guest level) = refl
    by_level call (Create level parent sequence lfs pi label) = refl
    by_level call (Data level parent number sequence aligned) = refl
    by_level call (Destroy level parent number) = refl

    by_reads : (class : ℕ) (call : CallMessage) → Reads g (asked_by g p call (who m p class call))
    by_reads class call = who_any (λ c. Reads g (asked_by g p call c)) p (record {
      null = null_reads call.xid call.arguments;
      guests = λ level. of_task call.arguments;
      gss = record {
        nobody = λ stat. tt;
        garbage = λ parent sequence known. tt;
        creates = λ level parent sequence a known short. short;
        calls = λ level parent number sequence aligned known. signed_task aligned call.arguments;
        destroys = λ level parent number known. tt;
      };
    }) m call class

    of_level : (class : ℕ) (r : Result CallMessage CallError) → level_in (asked_of g m p class r) ≡ level_by m p class r
    of_level class (Err NotACall) = refl
    of_level class (Err (BadHeader xid)) = refl
    of_level class (Err (BadVersion xid)) = refl
    of_level class (Err (BadProgram xid stat)) = refl
    of_level class (Ok call) = by_level call (who m p class call)

    of_reads : (class : ℕ) (r : Result CallMessage CallError) → Reads g (asked_of g m p class r)
    of_reads class (Err NotACall) = tt
    of_reads class (Err (BadHeader xid)) = tt
    of_reads class (Err (BadVersion xid)) = tt
    of_reads class (Err (BadProgram xid stat)) = tt
    of_reads class (Ok call) = by_reads class call

    pub request_level : (class : ℕ) (bytes : List ℕ) → level_in (request_with g m p class bytes) ≡ level_of m p class bytes
    unfolding request_with
    request_level class bytes = of_level class (call_of bytes)

    pub request_reads : (class : ℕ) (bytes : List ℕ) → Reads g (request_with g m p class bytes)
    unfolding request_with
    request_reads class bytes = of_reads class (call_of bytes)

    -- a COMPOUND that is asked is what its arguments are read as
    pub asked_parsed : (event : Event) (call : Call) (arguments : List ℕ) (c : Compound) → request_with g m p event.class event.message ≡ Asked call (Run arguments c) → parse (compound g) arguments ≡ Ok c
    asked_parsed event call arguments c asked = subst (Reads g) asked (request_reads event.class event.message)

    pub asked_read : (event : Event) (call : Call) (arguments : List ℕ) (c : Compound) → request_with g m p event.class event.message ≡ Asked call (Run arguments c) → IsRead c
    asked_read event call arguments c asked = compound_read g arguments c (asked_parsed event call arguments c asked)

    pub asked_outside : (event : Event) (call : Call) (arguments : List ℕ) (c : Compound) → request_with g m p event.class event.message ≡ Asked call (Run arguments c) → AllByRecursion OutsideIs c.ops
    asked_outside event call arguments c asked = compound_outside g arguments c (asked_parsed event call arguments c asked)
