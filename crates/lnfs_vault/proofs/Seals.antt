-- The replies by a seal are those by the wrapping that it was made of.
use Rattle.std.proofs.Common.{◌≡◌, ℕ, List, [], ◌++◌, refl, ap, ◌∙◌}
use Rattle.lnfs_rpc.specs.Formats.{head_room}
use Rattle.lnfs_rpc.specs.Replies.{accepted, reply_text}
use Rattle.lnfs_rpc.proofs.Rooms.{behind_room, built_whole}
use Rattle.lnfs_gss3.specs.Mechanism.{Signing}
use Rattle.lnfs_gss3.specs.Grammar.{databody, signed_text}
use Rattle.lnfs_gss3.specs.Replies.{signed_by}
use Rattle.lnfs_step.specs.declared.numbers.TheConstants.{SUCCESS}
use Rattle.lnfs_step.specs.Wrapping.{Wrapping, Plain, Signed, Cause, caller, called, version, verifier_in, answer_text, bare_text, refusal_text, results_for}
use Rattle.lnfs_vault.specs.Seals.{Seal, seal_of, verifier_by, results_begun, answer_by, bare_by, refusal_by}

pub verifier : (m : Signing) (w : Wrapping) → verifier_by (seal_of m w) ≡ verifier_in m w
verifier m Plain = refl
verifier m (Signed parent header sequence) = refl

pub bare : (m : Signing) (w : Wrapping) (xid : ℕ) (seal : Seal) → seal ≡ seal_of m w → bare_by seal xid ≡ bare_text m w xid
bare m w xid seal is = ap (λ s. bare_by s xid) is ∙ ap (λ v. reply_text xid (accepted v SUCCESS) []) (verifier m w)

refused : (m : Signing) (w : Wrapping) (xid : ℕ) (cause : Cause) → refusal_by (seal_of m w) xid cause ≡ refusal_text m w xid cause
refused m w xid (caller stat) = refl
refused m w xid (called stat) = ap (λ v. reply_text xid (accepted v stat) (results_for stat)) (verifier m w)
refused m w xid version = refl

pub refusal : (m : Signing) (w : Wrapping) (xid : ℕ) (cause : Cause) (seal : Seal) → seal ≡ seal_of m w → refusal_by seal xid cause ≡ refusal_text m w xid cause
refusal m w xid cause seal is = ap (λ s. refusal_by s xid cause) is ∙ refused m w xid cause

answered : (m : Signing) (w : Wrapping) (xid : ℕ) (built results : List ℕ) → built ≡ results_begun (seal_of m w) xid ++ results → answer_by m (seal_of m w) xid built ≡ answer_text m w xid results
unfolding databody
answered m Plain xid built results is =
    let h = accepted (verifier_in m Plain) SUCCESS in
    behind_room built (reply_text xid h results) (built_whole xid h results (head_room ++ reply_text xid h []) built refl is)
answered m (Signed parent header sequence) xid built results is =
    let h = accepted (verifier_in m (Signed parent header sequence)) SUCCESS in
    ap (λ (b : List ℕ). reply_text xid h (signed_text (signed_by m parent b))) is

-- with the results behind what was begun
pub answer : (m : Signing) (w : Wrapping) (xid : ℕ) (built results : List ℕ) (seal : Seal) → seal ≡ seal_of m w → built ≡ results_begun seal xid ++ results → answer_by m seal xid built ≡ answer_text m w xid results
answer m w xid built results seal is more =
    ap (λ s. answer_by m s xid built) is ∙ answered m w xid built results (more ∙ ap (λ s. results_begun s xid ++ results) is)
