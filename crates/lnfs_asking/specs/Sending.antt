-- The record of a request (RFC 5531 section 9), and what is kept of it until its reply comes.
use Rattle.std.specs.Prelude.{◌≤◌, ℕ, List, [], ◌++◌, length, map, codes, All}
use Rattle.lnfs_rpc.specs.declared.numbers.TheConstants.{PROC_COMPOUND}
use Rattle.lnfs_rpc.specs.Calls.{OpaqueAuth}
use Rattle.lnfs_policy.specs.declared.rows.Parent.{Parent}
use Rattle.lnfs_gss3.specs.declared.numbers.TheConstants.{PROC_NULL}
use Rattle.lnfs_gss3.specs.Mechanism.{Signing}
use Rattle.lnfs_gss3.specs.Grammar.{Assertion}
use Rattle.lnfs_attrs.specs.declared.view.LabelValue.{LabelValue}
use Rattle.lnfs_arguments.specs.declared.numbers.TheConstants.{MINOR, OP_LIMIT}
use Rattle.lnfs_arguments.specs.declared.types.Op.{Op}
use Rattle.lnfs_arguments.specs.declared.types.Compound.{Compound}
use Rattle.lnfs_requests.specs.Texts.{op_text, compound_text}
use Rattle.lnfs_requests.specs.Fits.{OpFits}
use Rattle.lnfs_calls.specs.CallTexts.{auth_text, header_text, user_auth, no_auth}
use Rattle.lnfs_signed_calls.specs.SignedCalls.{create_call, data_call, destroy_call}
use Rattle.lnfs_signed_calls.specs.declared.call.SignedCall.{SignedCall}
use Rattle.lnfs_answers.specs.Asking.{awaits_of}
use Rattle.lnfs_answers.specs.Replies as replies
use Rattle.lnfs_asking.specs.Labels.{IsShort}
use Rattle.lnfs_asking.specs.declared.plan.Plan.{Plan}
use Rattle.lnfs_asking.specs.declared.plan.Plan.TheVariants.{Assert, Ask, End}
use Rattle.lnfs_asking.specs.declared.plan.Speaker.{Speaker}
use Rattle.lnfs_asking.specs.declared.plan.Speaker.TheVariants.{Guest, Member}
use Rattle.lnfs_asking.specs.declared.sent.Sought.{Sought}
use Rattle.lnfs_asking.specs.declared.sent.Sought.TheVariants as sought
use Rattle.lnfs_asking.specs.declared.sent.Sent.{Sent}

-- a COMPOUND of minor version 2 with an empty tag (RFC 8881 section 16.2)
abbrev pub compound_of : List Op → Compound
compound_of ops = record { tag = []; minor = MINOR; count = length ops; ops = ops }

-- what is awaited of a request
abbrev pub sought_by : Plan → Sought
sought_by (Assert v) = sought.Context v
sought_by (Ask ops) = sought.Results (map awaits_of ops)
sought_by End = sought.End

-- ---- a guest: AUTH_SYS of a user of the machine `client`

abbrev pub guest_auth : (uid : ℕ) → OpaqueAuth
guest_auth uid = user_auth (codes "client") uid

abbrev pub plain_call : (uid xid procedure : ℕ) → (arguments : List ℕ) → SignedCall
plain_call uid xid procedure arguments = record { message = header_text xid procedure (guest_auth uid) ++ auth_text no_auth ++ arguments; header = length (header_text xid procedure (guest_auth uid)) }

-- Guests have no context that could be made or ended: in place of that they call NULL.
abbrev pub call_by_guest : (uid xid : ℕ) → Plan → SignedCall
call_by_guest uid xid (Assert v) = plain_call uid xid PROC_NULL []
call_by_guest uid xid (Ask ops) = plain_call uid xid PROC_COMPOUND (compound_text (compound_of ops))
call_by_guest uid xid End = plain_call uid xid PROC_NULL []

-- ---- a member: RPCSEC_GSS version 3 under a parent

abbrev pub asserted : LabelValue → Assertion
asserted v = record { lfs = v.lfs; pi = v.pi; label = v.bytes }

abbrev pub call_by_member : Signing → Parent → (context : List ℕ) → (xid : ℕ) → Plan → SignedCall
call_by_member m parent context xid (Assert v) = create_call m parent xid (asserted v)
call_by_member m parent context xid (Ask ops) = data_call m parent xid context (compound_text (compound_of ops))
call_by_member m parent context xid End = destroy_call m parent xid context

-- ---- the request

abbrev pub call_of : Signing → Speaker → (xid : ℕ) → Plan → SignedCall
call_of m (Guest uid) xid plan = call_by_guest uid xid plan
call_of m (Member parent context) xid plan = call_by_member m parent context xid plan

unfoldable pub sent_of : Signing → Speaker → (xid : ℕ) → Plan → Sent
sent_of m speaker xid plan = record { xid = xid; header = (call_of m speaker xid plan).header; sought = sought_by plan; message = (call_of m speaker xid plan).message }

-- ---- what fits

-- Operations of the table within their bounds, at most as many as a COMPOUND may have; a label that isn't too long.
abbrev pub PlanFits : Plan → Type 0
PlanFits (Assert v) = IsShort v
PlanFits (Ask ops) = All OpFits ops × (length ops ≤ OP_LIMIT)
PlanFits End = Unit {0}

-- the most bytes of an operation of a short plan
abbrev pub op_room : ℕ
op_room = 4000

abbrev pub IsSmall : Op → Type 0
IsSmall op = length (op_text op) ≤ op_room

-- Each operation has few bytes. Then the request has room in a record.
abbrev pub PlanIsShort : Plan → Type 0
PlanIsShort (Assert v) = Unit {0}
PlanIsShort (Ask ops) = All IsSmall ops
PlanIsShort End = Unit {0}

-- ---- what a reply is compared with

abbrev pub wanted_of : Sought → replies.Wanted
wanted_of (sought.Results awaited) = replies.results awaited
wanted_of (sought.Context v) = replies.context v.lfs v.pi v.bytes
wanted_of sought.End = replies.ending
