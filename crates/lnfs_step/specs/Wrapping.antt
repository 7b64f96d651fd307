-- How a reply is wrapped: plainly, or signed under a parent of the policy (RFC 7861 section 2.3, RFC 2203 section 5.3.3).
use Rattle.std.specs.Prelude.{ℕ, ◌==◌, cond, List, [], ◌++◌}
use Rattle.lnfs_xdr.specs.declared.flavors.TheConstants.{AUTH_NONE}
use Rattle.lnfs_xdr.specs.Canon.{word}
use Rattle.lnfs_rpc.specs.declared.numbers.TheConstants.{PROG_MISMATCH, NFS_VERSION}
use Rattle.lnfs_rpc.specs.Calls.{OpaqueAuth}
use Rattle.lnfs_rpc.specs.Replies.{ReplyHead, accepted, version_mismatch, auth_error, reply_text}
use Rattle.lnfs_policy.specs.declared.rows.Parent.{Parent}
use Rattle.lnfs_gss3.specs.Mechanism.{Signing}
use Rattle.lnfs_gss3.specs.Replies.{verifier_of, wrapped}
use Rattle.lnfs_step.specs.declared.numbers.TheConstants.{SUCCESS}

pub data Wrapping : Type 0 where
  -- the empty verifier, and results as they are
  Plain : Wrapping
  -- By the header of the call, from its transaction through its credential, and the sequence number of its credential.
  Signed : (parent : Parent) (header : List ℕ) (sequence : ℕ) → Wrapping

abbrev pub verifier_in : Signing → Wrapping → OpaqueAuth
verifier_in m Plain = record { flavor = AUTH_NONE; body = [] }
verifier_in m (Signed parent header sequence) = verifier_of m parent header

abbrev pub wrapped_in : Signing → Wrapping → (results : List ℕ) → List ℕ
wrapped_in m Plain results = results
wrapped_in m (Signed parent header sequence) results = wrapped m parent sequence results

-- the reply to a call that was run, with its results
abbrev pub answer_text : Signing → Wrapping → (xid : ℕ) → (results : List ℕ) → List ℕ
answer_text m w xid results = reply_text xid (accepted (verifier_in m w) SUCCESS) (wrapped_in m w results)

-- the reply to one that was run and has no results
abbrev pub bare_text : Signing → Wrapping → (xid : ℕ) → List ℕ
bare_text m w xid = reply_text xid (accepted (verifier_in m w) SUCCESS) []

-- ---- refusals

-- what refuses a call as a whole
pub data Cause : Type 0 where
  -- who calls: the auth_stat
  caller : (stat : ℕ) → Cause
  -- what is called: the accept_stat
  called : (stat : ℕ) → Cause
  -- the version of RPC
  version : Cause

abbrev pub head_of : Signing → Wrapping → Cause → ReplyHead
head_of m w (caller stat) = auth_error stat
head_of m w (called stat) = accepted (verifier_in m w) stat
head_of m w version = version_mismatch

-- behind PROG_MISMATCH the lowest and the highest version
abbrev pub results_for : ℕ → List ℕ
results_for stat = cond (stat == PROG_MISMATCH) (word NFS_VERSION ++ word NFS_VERSION) []

abbrev pub results_in : Cause → List ℕ
results_in (caller stat) = []
results_in (called stat) = results_for stat
results_in version = []

abbrev pub refusal_text : Signing → Wrapping → (xid : ℕ) → Cause → List ℕ
refusal_text m w xid cause = reply_text xid (head_of m w cause) (results_in cause)
