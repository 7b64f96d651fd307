-- The client's requests are read as what they say.
use Rattle.std.specs.Prelude.{◌≡◌, ℕ, Bool, true, cond, ◌==◌, ◌≤◌, List, [], ◌∷◌, length, drop, Option, Some, None}
use Rattle.std.specs.Str.{bytes_eq}
use Rattle.lnfs_arguments.specs.declared.types.Op.{Op}
use Rattle.lnfs_arguments.specs.declared.types.Op.TheVariants as ops
use Rattle.lnfs_arguments.specs.declared.types.Compound.{Compound}
use Rattle.lnfs_arguments.specs.declared.types.CreateSession.{CreateSession}
use Rattle.lnfs_arguments.specs.declared.types.Implementation.{Implementation}
use Rattle.lnfs_arguments.specs.declared.types.Sequence.{Sequence}
use Rattle.lnfs_arguments.specs.declared.statuses.TheConstants.{NFS4ERR_BADSESSION, NFS4ERR_STALE_CLIENTID}
use Rattle.lnfs_arguments.specs.Identifiers.{session_id}
use Rattle.lnfs_results.specs.declared.types.OpResult.TheVariants as results
use Rattle.lnfs_policy.specs.Policy.{Policy}
use Rattle.lnfs_world.specs.declared.numbers.TheConstants.{LAST_NUMBER, LAST_SEQUENCE}
use Rattle.lnfs_operations.specs.CreateSession.{granted_of}
use Rattle.lnfs_operations.specs.ExchangeId.{Told}
use Rattle.lnfs_operations.specs.Extra.{Extra}
use Rattle.lnfs_operations.specs.Identifiers.{client_named, session_named}
use Rattle.lnfs_operations.specs.Results.{failed, told_result}
use Rattle.lnfs_operations.specs.Served.{sizes_of}
use Rattle.lnfs_operations.specs.SlotRule.{new_result}
use Rattle.lnfs_gss3.specs.declared.numbers.TheConstants.{RPCSEC_GSS_CTXPROBLEM}
use Rattle.lnfs_gss3.specs.Grammar.{Assertion}
use Rattle.lnfs_gss3.specs.Mechanism.{Signing}
use Rattle.lnfs_step.specs.Wrapping.{caller, called, answer_text, refusal_text}
use Rattle.lnfs_step.specs.Step.{granted}
use Rattle.lnfs_step.specs.declared.numbers.TheConstants.{SYSTEM_ERR}
use Rattle.lnfs_step.specs.Request.{Call, InContext, Run, MakeContext, EndContext, Asked, request_with}
use Rattle.lnfs_once.specs.Client.{Assert, Exchange, Compound as ACompound, Create, Destroy, Leave, End, Packet, Known, Made, Granted, Nothing}
use Rattle.lnfs_once.specs.Laws.{has_slot}
use Rattle.lnfs_slots.specs.OneClient.{longest_request, most_operations, Writer, at_level, rows}

abbrev pub context_of : (parent c : ℕ) → Option InContext
context_of parent c = cond (c == 0) None (Some (record { parent = parent; number = c }))

-- the result of a CREATE_SESSION alone that made a session of a level under a number
abbrev pub created_result : Compound → (level : ℕ) → CreateSession → (number : ℕ) → List ℕ
created_result c level args number =
    new_result c (results.CreateSession (session_id level number) args.sequence 0 (sizes_of (granted_of args.fore)) (record args.back { ird = None }) ∷ [])

module _ (X : Extra) (m : Signing) (p : Policy) {A : Type 0} (w : Writer A) where
  abbrev pub call_of : Packet A → Call
  call_of q = record { level = w.level; xid = q.xid; wrapping = w.wrapping q; context = context_of w.parent q.place.context }

  -- a COMPOUND on the slot of the session that its place names
  pub record IsCompound (q : Packet A) : Type 0 where
    pub compound : Compound
    pub args : Sequence
    pub rest : List Op
    pub request : request_with X.grammar m p w.class (w.text q) ≡ Asked (call_of q) (Run (w.arguments q) compound)
    pub minor : compound.minor ≡ 2
    pub first : compound.ops ≡ ops.Sequence args ∷ rest
    pub session : session_named args.session ≡ at_level w.level q.place.number
    pub whole : bytes_eq (drop 12 args.session) (0 ∷ 0 ∷ 0 ∷ 0 ∷ []) ≡ true
    pub slot : args.slot ≡ 0
    pub sequence : args.sequence ≡ q.sequence
    pub size : length (w.text q) ≤ longest_request
    pub count : compound.count ≤ most_operations
    pub stale : w.stale q ≡ new_result compound (failed (ops.Sequence args) NFS4ERR_BADSESSION ∷ [])

  -- a CREATE_SESSION alone, for the client id that its place names
  pub record IsCreate (q : Packet A) : Type 0 where
    pub compound : Compound
    pub args : CreateSession
    pub request : request_with X.grammar m p w.class (w.text q) ≡ Asked (call_of q) (Run (w.arguments q) compound)
    pub minor : compound.minor ≡ 2
    pub count : compound.count ≡ 1
    pub only : compound.ops ≡ ops.CreateSession args ∷ []
    pub client : client_named args.client ≡ at_level w.level q.place.number
    pub sequence : args.sequence ≡ q.sequence
    pub stale : w.stale q ≡ new_result compound (failed (ops.CreateSession args) NFS4ERR_STALE_CLIENTID ∷ [])
    -- it asks for sessions that grant the client's requests
    pub fore : (longest_request ≤ args.fore.maxrequest) × (most_operations ≤ args.fore.operations)
    -- What is read as a session from the reply to it is the session that was made, and from a refusal none is read.
    pub told : (number : ℕ) → number ≤ LAST_NUMBER → (session : ℕ) → w.reads q (Some (answer_text m (w.wrapping q) q.xid (created_result compound w.level args number))) ≡ Made session → session ≡ number
    pub turned_down : (status : ℕ) → 1 ≤ status → (session : ℕ) → w.reads q (Some (answer_text m (w.wrapping q) q.xid (new_result compound (failed (ops.CreateSession args) status ∷ [])))) ≡ Made session → ⊥

  -- a DESTROY_SESSION alone, for the session that its place names
  pub record IsDestroy (q : Packet A) : Type 0 where
    pub compound : Compound
    pub session : List ℕ
    pub request : request_with X.grammar m p w.class (w.text q) ≡ Asked (call_of q) (Run (w.arguments q) compound)
    pub minor : compound.minor ≡ 2
    pub count : compound.count ≡ 1
    pub only : compound.ops ≡ ops.DestroySession session ∷ []
    pub named : session_named session ≡ at_level w.level q.place.number
    pub whole : bytes_eq (drop 12 session) (0 ∷ 0 ∷ 0 ∷ 0 ∷ []) ≡ true

  -- a DESTROY_CLIENTID alone, for the client id that its place names
  pub record IsLeave (q : Packet A) : Type 0 where
    pub compound : Compound
    pub client : ℕ
    pub request : request_with X.grammar m p w.class (w.text q) ≡ Asked (call_of q) (Run (w.arguments q) compound)
    pub minor : compound.minor ≡ 2
    pub count : compound.count ≡ 1
    pub only : compound.ops ≡ ops.DestroyClientId client ∷ []
    pub named : client_named client ≡ at_level w.level q.place.number

  -- EXCHANGE_ID alone, of the client's owner under its verifier
  pub record IsExchange (q : Packet A) : Type 0 where
    pub compound : Compound
    pub flags : ℕ
    pub implementation : Option Implementation
    pub request : request_with X.grammar m p w.class (w.text q) ≡ Asked (call_of q) (Run (w.arguments q) compound)
    pub minor : compound.minor ≡ 2
    pub count : compound.count ≡ 1
    pub only : compound.ops ≡ ops.ExchangeId w.verifier w.owner flags implementation ∷ []
    -- what is read from the reply to it is the record that was told, and from a refusal none is read
    pub told : (t : Told) → t.number ≤ LAST_NUMBER → t.sequence ≤ LAST_SEQUENCE → (id next : ℕ) → w.reads q (Some (answer_text m (w.wrapping q) q.xid (new_result compound (told_result w.level t ∷ [])))) ≡ Known id next → (id ≡ t.number) × (next ≡ t.sequence)
    pub turned_down : (status : ℕ) → 1 ≤ status → (id next : ℕ) → w.reads q (Some (answer_text m (w.wrapping q) q.xid (new_result compound (failed (ops.ExchangeId w.verifier w.owner flags implementation) status ∷ [])))) ≡ Known id next → ⊥
    pub lost : (id next : ℕ) → w.reads q (Some (refusal_text m (w.wrapping q) q.xid (caller RPCSEC_GSS_CTXPROBLEM))) ≡ Known id next → ⊥

  -- a context for the client's label, which is asked for in none
  abbrev pub alone_of : Packet A → Call
  alone_of q = record { level = w.level; xid = q.xid; wrapping = w.wrapping q; context = None }

  pub record IsAssert (q : Packet A) : Type 0 where
    pub assertion : Assertion
    pub request : request_with X.grammar m p w.class (w.text q) ≡ Asked (alone_of q) (MakeContext w.parent assertion)
    -- what is read from the reply to it is the context that was made, and from a refusal none is read
    pub told : (number context : ℕ) → number ≤ LAST_NUMBER → w.reads q (Some (answer_text m (w.wrapping q) q.xid (granted (alone_of q) w.parent assertion number))) ≡ Granted context → context ≡ number
    pub refused : (context : ℕ) → w.reads q (Some (refusal_text m (w.wrapping q) q.xid (called SYSTEM_ERR))) ≡ Granted context → ⊥

  -- the end of the context that its place names
  pub record IsEnd (q : Packet A) : Type 0 where
    pub some : 1 ≤ q.place.context
    pub request : request_with X.grammar m p w.class (w.text q) ≡ Asked (call_of q) (EndContext q.place.context)

  -- Each request of the client is read as what its kind says, and its reply as what it tells.
  pub record IsWriter : Type 0 where
    pub compound : (q : Packet A) → w.suits q ≡ true → q.kind ≡ ACompound → IsCompound q
    pub create : (q : Packet A) → w.suits q ≡ true → q.kind ≡ Create → IsCreate q
    pub destroy : (q : Packet A) → w.suits q ≡ true → q.kind ≡ Destroy → IsDestroy q
    pub leave : (q : Packet A) → w.suits q ≡ true → q.kind ≡ Leave → IsLeave q
    pub exchange : (q : Packet A) → w.suits q ≡ true → q.kind ≡ Exchange → IsExchange q
    pub assert : (q : Packet A) → w.suits q ≡ true → q.kind ≡ Assert → IsAssert q
    -- a refusal, where a slot or a context isn't there, tells nothing
    pub lost : (q : Packet A) (there : Bool) → has_slot q.kind ≡ true → w.reads q ((rows X m p w).refusal q there) ≡ Nothing
    pub end_ : (q : Packet A) → w.suits q ≡ true → q.kind ≡ End → IsEnd q
