-- A call that is refused for what it calls has an accept_stat other than success.
use Rattle.std.proofs.Common.{◌≡◌, ◌≢◌, ℕ, Bool, true, false, cond, List, [], ◌∷◌, Some, None, Ok, Err, refl, subst, arith}
use Rattle.std.specs.Prelude.{◌==◌, Result}
use Rattle.std.proofs.lemmas.Bool.Decides.{nat_tests}
use Rattle.lnfs_rpc.specs.Numbers.{program_unavailable, version_unavailable, procedure_unavailable}
use Rattle.lnfs_xdr.specs.Reading.{Read}
use Rattle.lnfs_arguments.specs.Further.{Further}
use Rattle.lnfs_policy.specs.Policy.{Policy}
use Rattle.lnfs_rpc.specs.declared.calls.CallError.{CallError}
use Rattle.lnfs_rpc.specs.declared.calls.CallError.TheVariants.{NotACall, BadHeader, BadVersion, BadProgram}
use Rattle.lnfs_rpc.specs.Calls.{CallMessage, reading, unless_refused, call_of}
use Rattle.lnfs_gss3.specs.declared.caller.Caller.{Caller}
use Rattle.lnfs_gss3.specs.declared.caller.Caller.TheVariants.{Null, Nobody, Garbage, Guest, Create, Data, Destroy}
use Rattle.lnfs_gss3.specs.Mechanism.{Signing}
use Rattle.lnfs_gss3.specs.Who.{who}
use Rattle.lnfs_step.specs.Wrapping.{Wrapping, Cause, caller, called, version, head_of}
use Rattle.lnfs_step.specs.Request.{Request, Refused, null_call, asked_by, asked_of, request_with}
use Rattle.lnfs_step.specs.Step.{line_of_cause}
use Rattle.lnfs_step.specs.Lines.{TellsRefusal}

abbrev FailsBy : Result CallMessage CallError → Type 0
FailsBy (Err (BadProgram xid stat)) = (stat == 0) ≡ false
FailsBy r = Unit {0}

record Failing (r : Result CallMessage CallError) : Type 0 where
  by : FailsBy r

reading_fails : {A : Type 0} (cause : CallError) (r : Read ⊥ A) (next : A → List ℕ → Result CallMessage CallError) → Failing (Err cause) → ((a : A) (rest : List ℕ) → Failing (next a rest)) → Failing (reading cause r next)
reading_fails cause (Ok x) next refused goes = goes x.0 x.1
reading_fails cause (Err stop) next refused goes = refused

cond_fails : (b : Bool) (x y : Result CallMessage CallError) → Failing x → Failing y → Failing (cond b x y)
cond_fails true x y p q = p
cond_fails false x y p q = q

-- program, version and procedure have causes of their own
target_fails : (a b d : Bool) (xid : ℕ) (call : CallMessage) → Failing (unless_refused xid (cond a (cond b (cond d (Some procedure_unavailable) None) (Some version_unavailable)) (Some program_unavailable)) call)
target_fails true true true xid call = record { by = refl }
target_fails true true false xid call = record { by = tt }
target_fails true false d xid call = record { by = refl }
target_fails false b d xid call = record { by = refl }

cause_fails : (cause : CallError) → FailsBy (Err cause) → Failing (Err cause)
cause_fails cause by = record { by = by }

call_fails : (bytes : List ℕ) → Failing (call_of bytes)
unfolding call_of
call_fails bytes = search (reading_fails, cond_fails, target_fails, cause_fails) depth 40 fits 4000

-- what a cause has to be
abbrev pub Fails : Cause → Type 0
Fails (caller stat) = Unit {0}
Fails (called stat) = stat ≢ 0
Fails version = Unit {0}

-- the line of a cause tells of the head of its reply
pub cause_told : (m : Signing) (w : Wrapping) (cause : Cause) → Fails cause → TellsRefusal (head_of m w cause) (line_of_cause cause)
cause_told m w (caller stat) fails = record { failed = tt; status = refl; gate = refl; place = refl; number = refl }
cause_told m w (called stat) fails = record { failed = fails; status = refl; gate = refl; place = refl; number = refl }
cause_told m w version fails = record { failed = tt; status = refl; gate = refl; place = refl; number = refl }

abbrev FailsIn : Request → Type 0
FailsIn (Refused xid w cause) = Fails cause
FailsIn r = Unit {0}

null_fails : (xid : ℕ) (bytes : List ℕ) → FailsIn (null_call xid bytes)
null_fails xid [] = tt
null_fails xid (b ∷ bytes) = λ e. grind (arith, e)

caller_fails : (g : Further) (p : Policy) (call : CallMessage) (c : Caller) → FailsIn (asked_by g p call c)
caller_fails g p call Null = null_fails call.xid call.arguments
caller_fails g p call (Nobody stat) = tt
caller_fails g p call (Garbage parent sequence) = λ e. grind (arith, e)
caller_fails g p call (Guest level) = tt
caller_fails g p call (Create level parent sequence lfs pi label) = tt
caller_fails g p call (Data level parent number sequence aligned) = tt
caller_fails g p call (Destroy level parent number) = tt

asked_fails : (g : Further) (m : Signing) (p : Policy) (class : ℕ) (r : Result CallMessage CallError) → FailsBy r → FailsIn (asked_of g m p class r)
asked_fails g m p class (Err NotACall) fails = tt
asked_fails g m p class (Err (BadHeader xid)) fails = tt
asked_fails g m p class (Err (BadVersion xid)) fails = tt
asked_fails g m p class (Err (BadProgram xid stat)) fails = grind (arith, nat_tests, fails)
asked_fails g m p class (Ok call) fails = caller_fails g p call (who m p class call)

pub request_fails : (g : Further) (m : Signing) (p : Policy) (class : ℕ) (bytes : List ℕ) (xid : ℕ) (w : Wrapping) (cause : Cause) → request_with g m p class bytes ≡ Refused xid w cause → Fails cause
unfolding request_with
request_fails g m p class bytes xid w cause is = subst FailsIn is (asked_fails g m p class (call_of bytes) (call_fails bytes).by)
