-- A request has room in a record where each of its operations has few bytes.
use Rattle.std.proofs.Common.{◌≡◌, ℕ, ◌+◌, ◌*◌, ◌≤◌, List, [], ◌∷◌, ◌++◌, length, All, Result, Ok, Err, codes, sym, subst, arith, length-append}
use Rattle.std.specs.Prelude.{IfOk}
use Rattle.std.specs.List.{flat_map, AllByRecursion}
use Rattle.std.proofs.lemmas.List.Concat.{flat_map-cons}
use Rattle.std.proofs.lemmas.List.Elements.{recursion_from_All}
use Rattle.lnfs_types.specs.declared.limits.TheConstants.{RECORD_LIMIT}
use Rattle.lnfs_xdr.specs.Canon.{word}
use Rattle.lnfs_xdr.proofs.Sizes.{length-word, length-opaque}
use Rattle.lnfs_policy.specs.declared.rows.Parent.{Parent}
use Rattle.lnfs_rpc.specs.declared.numbers.TheConstants.{PROC_COMPOUND}
use Rattle.lnfs_rpc.specs.Calls.{OpaqueAuth}
use Rattle.lnfs_gss3.specs.declared.numbers.TheConstants.{PROC_NULL, RPCSEC_GSS_CREATE, RPCSEC_GSS_DESTROY, INTEGRITY}
use Rattle.lnfs_gss3.specs.Mechanism.{Signing, IsSized}
use Rattle.lnfs_gss3.specs.Grammar.{Credential, create_args_text, databody, signed_text}
use Rattle.lnfs_gss3.specs.Replies.{wrapped}
use Rattle.lnfs_arguments.specs.declared.numbers.TheConstants.{OP_LIMIT}
use Rattle.lnfs_arguments.specs.declared.types.Op.{Op}
use Rattle.lnfs_requests.specs.Texts.{op_text, compound_text}
use Rattle.lnfs_calls.specs.CallTexts.{auth_text, header_text, no_auth}
use Rattle.lnfs_calls.proofs.Called.{user_length}
use Rattle.lnfs_signed_calls.specs.SignedCalls.{gss_auth, create_header, destroy_header}
use Rattle.lnfs_signed_calls.specs.declared.call.SignedCall.{SignedCall}
use Rattle.lnfs_signed_calls.proofs.Lengths.{credential_length, args_length}
use Rattle.lnfs_signed_calls.proofs.Parts.{size, data_size}
use Rattle.lnfs_asking.specs.Sending.{PlanFits, PlanIsShort, IsSmall, op_room, guest_auth, plain_call, asserted, compound_of, call_by_guest, call_by_member}
use Rattle.lnfs_asking.specs.declared.plan.Plan.{Plan}
use Rattle.lnfs_asking.specs.declared.plan.Plan.TheVariants.{Assert, Ask, End}

ops_short : (xs : List Op) → AllByRecursion IsSmall xs → length (flat_map op_text xs) ≤ op_room * length xs
ops_short [] small = omega arith
ops_short (op ∷ xs) small = rw flat_map-cons (simp length-append (omega (arith, small.0, ops_short xs small.1)))

arguments_short : (xs : List Op) → All IsSmall xs → length xs ≤ OP_LIMIT → length (compound_text (compound_of xs)) ≤ 128019
unfolding compound_text
arguments_short xs small few = simp (length-append, length-word) (omega (arith, length-opaque [], ops_short xs (recursion_from_All IsSmall xs small)))

auth_short : (a : OpaqueAuth) → length (auth_text a) ≤ length a.body + 11
unfolding auth_text
auth_short a = simp (length-append, length-word) (omega (arith, length-opaque a.body))

header_short : (xid procedure : ℕ) (credential : OpaqueAuth) → length (header_text xid procedure credential) ≤ length credential.body + 35
unfolding header_text
header_short xid procedure credential = simp (length-append, length-word) (omega (arith, auth_short credential))

plain_short : (uid xid procedure : ℕ) (arguments : List ℕ) → length arguments ≤ 128019 → length (plain_call uid xid procedure arguments).message ≤ RECORD_LIMIT
plain_short uid xid procedure arguments short = simp length-append (omega (arith, header_short xid procedure (guest_auth uid), user_length (codes "client") uid, auth_short no_auth))

pub guest_room : (uid xid : ℕ) (plan : Plan) → PlanFits plan → PlanIsShort plan → length (call_by_guest uid xid plan).message ≤ RECORD_LIMIT
guest_room uid xid (Assert v) fits short = plain_short uid xid PROC_NULL [] (omega arith)
guest_room uid xid (Ask asked) fits short = plain_short uid xid PROC_COMPOUND (compound_text (compound_of asked)) (arguments_short asked short fits.1)
guest_room uid xid End fits short = plain_short uid xid PROC_NULL [] (omega arith)

wrapped_short : (m : Signing) → IsSized m → (parent : Parent) (sequence : ℕ) (content : List ℕ) → length (wrapped m parent sequence content) ≤ length content + 50
unfolding signed_text databody
wrapped_short m sized parent sequence content = simp length-append (omega (arith, length-opaque (word sequence ++ content), length-append (word sequence) content, length-word sequence, length-opaque (m.mic_of parent (word sequence ++ content)), sized.size parent (word sequence ++ content)))

pub member_room : (m : Signing) → IsSized m → (parent : Parent) (context : List ℕ) (xid : ℕ) (plan : Plan) → length context ≡ 16 → PlanFits plan → PlanIsShort plan → length (call_by_member m parent context xid plan).message ≤ RECORD_LIMIT
member_room m sized parent context xid (Assert v) is fits short =
    let credential : Credential = record { procedure = RPCSEC_GSS_CREATE; sequence = xid; service = INTEGRITY; handle = word parent.number } in
    let arguments : List ℕ = wrapped m parent xid (create_args_text (asserted v)) in
    omega (
      arith,
      size m sized parent (create_header xid parent.number) arguments,
      header_short xid PROC_NULL (gss_auth RPCSEC_GSS_CREATE xid (word parent.number)),
      credential_length credential,
      length-word parent.number,
      wrapped_short m sized parent xid (create_args_text (asserted v)),
      args_length (asserted v),
    )
member_room m sized parent context xid (Ask asked) is fits short =
    omega (arith, data_size m sized parent xid context (compound_text (compound_of asked)), arguments_short asked short fits.1)
member_room m sized parent context xid End is fits short =
    let credential : Credential = record { procedure = RPCSEC_GSS_DESTROY; sequence = xid; service = INTEGRITY; handle = context } in
    omega (
      arith,
      size m sized parent (destroy_header xid context) [],
      header_short xid PROC_NULL (gss_auth RPCSEC_GSS_DESTROY xid context),
      credential_length credential,
    )

-- what was written is that call
pub room_of : {E : Type 0} (r : Result SignedCall E) (call : SignedCall) → IfOk r (λ written. written ≡ call) → length call.message ≤ RECORD_LIMIT → IfOk r (λ written. length written.message ≤ RECORD_LIMIT)
room_of (Ok written) call is room = subst (λ (x : SignedCall). length x.message ≤ RECORD_LIMIT) (sym is) room
room_of (Err none) call is room = tt
