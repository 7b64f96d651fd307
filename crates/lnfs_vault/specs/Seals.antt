-- How a reply is sealed, once its record was decoded: of the record the signature of its header is needed alone.
use Rattle.std.specs.Prelude.{ℕ, List, [], ◌++◌, drop}
use Rattle.lnfs_xdr.specs.declared.flavors.TheConstants.{AUTH_NONE, RPCSEC_GSS}
use Rattle.lnfs_xdr.specs.Canon.{word}
use Rattle.lnfs_rpc.specs.Calls.{OpaqueAuth}
use Rattle.lnfs_rpc.specs.Numbers.{head_length}
use Rattle.lnfs_rpc.specs.Formats.{head_room}
use Rattle.lnfs_rpc.specs.Replies.{ReplyHead, accepted, version_mismatch, auth_error, reply_text}
use Rattle.lnfs_policy.specs.declared.rows.Parent.{Parent}
use Rattle.lnfs_gss3.specs.Mechanism.{Signing}
use Rattle.lnfs_gss3.specs.Grammar.{signed_text}
use Rattle.lnfs_gss3.specs.Replies.{replied, signed_by}
use Rattle.lnfs_step.specs.declared.numbers.TheConstants.{SUCCESS}
use Rattle.lnfs_step.specs.Wrapping as wrapping
use Rattle.lnfs_step.specs.Wrapping.{Wrapping, Cause, results_in}
use Rattle.lnfs_vault.specs.declared.request.Sealing as code
use Rattle.lnfs_vault.specs.declared.request.Sealing.TheVariants as sealing

-- Nothing; or the parent that signs, its signature of the call's header, and the sequence number of the call's credential.
pub data Seal : Type 0 where
  Bare : Seal
  Signed : (parent : Parent) (mic : List ℕ) (sequence : ℕ) → Seal

-- the seal that a wrapping comes to
abbrev pub seal_of : Signing → Wrapping → Seal
seal_of m wrapping.Plain = Bare
seal_of m (wrapping.Signed parent header sequence) = Signed parent (m.mic_of parent (replied header)) sequence

abbrev pub seen_sealing : code.Sealing → Seal
seen_sealing sealing.Plain = Bare
seen_sealing (sealing.Signed parent mic sequence) = Signed parent.now mic sequence

-- the empty verifier, or that of the signature
abbrev pub verifier_by : Seal → OpaqueAuth
verifier_by Bare = record { flavor = AUTH_NONE; body = [] }
verifier_by (Signed parent mic sequence) = record { flavor = RPCSEC_GSS; body = mic }

-- ---- the buffer of results

-- what stands before results in the buffer that they are built in: the head of the reply, or the front of what is signed
abbrev pub results_begun : Seal → (xid : ℕ) → List ℕ
results_begun Bare xid = head_room ++ reply_text xid (accepted (verifier_by Bare) SUCCESS) []
results_begun (Signed parent mic sequence) xid = word sequence

-- ---- replies

-- the reply that stands in the buffer, or that signs it
abbrev pub answer_by : Signing → Seal → (xid : ℕ) → (built : List ℕ) → List ℕ
answer_by m Bare xid built = drop head_length built
answer_by m (Signed parent mic sequence) xid built =
    reply_text xid (accepted (verifier_by (Signed parent mic sequence)) SUCCESS) (signed_text (signed_by m parent built))

-- one without results
abbrev pub bare_by : Seal → (xid : ℕ) → List ℕ
bare_by seal xid = reply_text xid (accepted (verifier_by seal) SUCCESS) []

abbrev pub head_by : Seal → Cause → ReplyHead
head_by seal (wrapping.caller stat) = auth_error stat
head_by seal (wrapping.called stat) = accepted (verifier_by seal) stat
head_by seal wrapping.version = version_mismatch

abbrev pub refusal_by : Seal → (xid : ℕ) → Cause → List ℕ
refusal_by seal xid cause = reply_text xid (head_by seal cause) (results_in cause)
