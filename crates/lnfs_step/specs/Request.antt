-- What a record asks, and of which level: a matter of its bytes, its class and the policy alone.
use Rattle.std.specs.Prelude.{◌≡◌, ℕ, Bool, cond, List, [], ◌∷◌, Option, Some, None, Result, Ok, Err}
use Rattle.lnfs_rpc.specs.declared.calls.CallError.{CallError}
use Rattle.lnfs_rpc.specs.declared.calls.CallError.TheVariants.{NotACall, BadHeader, BadVersion, BadProgram}
use Rattle.lnfs_rpc.specs.Calls.{CallMessage, call_of}
use Rattle.lnfs_arguments.specs.declared.types.Compound.{Compound}
use Rattle.lnfs_xdr.specs.Message.{parse}
use Rattle.lnfs_arguments.specs.Whole.{compound}
use Rattle.lnfs_arguments.specs.Further.{Further}
use Rattle.lnfs_policy.specs.declared.rows.Parent.{Parent}
use Rattle.lnfs_policy.specs.Policy.{Policy, parent_at}
use Rattle.lnfs_gss3.specs.declared.numbers.TheConstants.{AUTH_BADCRED}
use Rattle.lnfs_gss3.specs.declared.caller.Caller.{Caller}
use Rattle.lnfs_gss3.specs.declared.caller.Caller.TheVariants.{Null, Nobody, Garbage, Guest, Create, Data, Destroy}
use Rattle.lnfs_gss3.specs.Mechanism.{Signing}
use Rattle.lnfs_gss3.specs.Grammar.{Body, body, Assertion}
use Rattle.lnfs_gss3.specs.Who.{who}
use Rattle.lnfs_step.specs.declared.numbers.TheConstants.{GARBAGE_ARGS}
use Rattle.lnfs_step.specs.Wrapping.{Wrapping, Plain, Signed, Cause, caller, called, version}

-- a context of the level of a call: its parent, and its number there
pub record InContext : Type 0 where
  pub parent : ℕ
  pub number : ℕ

-- a call of a level
pub record Call : Type 0 where
  pub level : ℕ
  pub xid : ℕ
  -- how its reply is wrapped
  pub wrapping : Wrapping
  -- the context that it comes in, which has to be there
  pub context : Option InContext

-- what a call of a level asks
pub data Task : Type 0 where
  -- nothing that can be read
  Garbled : Task
  -- a COMPOUND, with the bytes of its arguments
  Run : (arguments : List ℕ) → Compound → Task
  -- a context under a parent, for the label that is asserted
  MakeContext : (parent : ℕ) → Assertion → Task
  -- the end of a context of its level
  EndContext : (number : ℕ) → Task

pub data Request : Type 0 where
  -- no call: no reply is due
  Silent : Request
  -- a call without a level, which is refused as a whole
  Refused : (xid : ℕ) → Wrapping → Cause → Request
  -- NULL
  Nothing : (xid : ℕ) → Request
  Asked : Call → Task → Request

-- ---- how the reply is wrapped

abbrev pub signed_under : Option Parent → (header : List ℕ) → (sequence : ℕ) → Wrapping
signed_under None header sequence = Plain
signed_under (Some parent) header sequence = Signed parent header sequence

-- under the parent of a number
abbrev pub wrapping_of : Policy → CallMessage → (parent sequence : ℕ) → Wrapping
wrapping_of p call parent sequence = signed_under (parent_at p parent) call.header sequence

-- what is wrapped so is signed under the parent of a number, by the header of a call
abbrev pub IsSignedUnder : Policy → (number : ℕ) → CallMessage → Wrapping → Type 0
IsSignedUnder p number call w = (parent : Parent) × (sequence : ℕ) × (parent_at p number ≡ Some parent) × (w ≡ Signed parent call.header sequence)

-- ---- what is asked

abbrev pub null_call : (xid : ℕ) → List ℕ → Request
null_call xid [] = Nothing xid
null_call xid (b ∷ bytes) = Refused xid Plain (called GARBAGE_ARGS)

abbrev pub run_as : (arguments : List ℕ) → Result Compound (List ℕ) → Task
run_as arguments (Ok c) = Run arguments c
run_as arguments (Err stuck) = Garbled

abbrev pub run_of : Further → (arguments : List ℕ) → Task
run_of g arguments = run_as arguments (parse (compound g) arguments)

abbrev pub run_in : Further → Option Body → Task
run_in g None = Garbled
run_in g (Some b) = run_of g b.content

-- In a context the arguments proper stand in the signed body, behind the sequence number, which has to be the credential's.
abbrev pub run_signed : Further → (aligned : Bool) → List ℕ → Task
run_signed g aligned bytes = cond aligned (run_in g (body bytes)) Garbled

-- The caller is judged before the arguments.
abbrev pub asked_by : Further → Policy → CallMessage → Caller → Request
asked_by g p call Null = null_call call.xid call.arguments
asked_by g p call (Nobody stat) = Refused call.xid Plain (caller stat)
asked_by g p call (Garbage parent sequence) = Refused call.xid (wrapping_of p call parent sequence) (called GARBAGE_ARGS)
asked_by g p call (Guest level) =
    Asked (record { level = level.0; xid = call.xid; wrapping = Plain; context = None }) (run_of g call.arguments)
asked_by g p call (Create level parent sequence lfs pi label) =
    Asked (record { level = level.0; xid = call.xid; wrapping = wrapping_of p call parent sequence; context = None })
    (MakeContext parent (record { lfs = lfs; pi = pi; label = label }))
asked_by g p call (Data level parent number sequence aligned) =
    Asked (record { level = level.0; xid = call.xid; wrapping = wrapping_of p call parent sequence; context = Some (record { parent = parent; number = number }) })
    (run_signed g aligned call.arguments)
-- no results are signed, so no sequence number is said
asked_by g p call (Destroy level parent number) =
    Asked (record { level = level.0; xid = call.xid; wrapping = wrapping_of p call parent 0; context = Some (record { parent = parent; number = number }) })
    (EndContext number)

-- ---- the record

abbrev pub asked_of : Further → Signing → Policy → (class : ℕ) → Result CallMessage CallError → Request
asked_of g m p class (Err NotACall) = Silent
asked_of g m p class (Err (BadHeader xid)) = Refused xid Plain (caller AUTH_BADCRED)
asked_of g m p class (Err (BadVersion xid)) = Refused xid Plain version
asked_of g m p class (Err (BadProgram xid stat)) = Refused xid Plain (called stat)
asked_of g m p class (Ok call) = asked_by g p call (who m p class call)

-- operations of a further grammar are read too
unfoldable pub request_with : Further → Signing → Policy → (class : ℕ) → List ℕ → Request
request_with g m p class bytes = asked_of g m p class (call_of bytes)
