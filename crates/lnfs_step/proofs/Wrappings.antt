-- The lengths of replies, with what they are wrapped in.
use Rattle.std.proofs.Common.{◌≡◌, ◌≤◌, ◌+◌, ℕ, Bool, true, false, cond, List, [], ◌++◌, length, ap, ◌∙◌, arith}
use Rattle.std.specs.Prelude.{◌==◌}
use Rattle.std.proofs.lemmas.List.{length-append}
use Rattle.lnfs_types.specs.declared.limits.TheConstants.{RECORD_LIMIT}
use Rattle.lnfs_xdr.specs.Format.{padding}
use Rattle.lnfs_xdr.specs.Canon.{word, padded, opaque}
use Rattle.lnfs_xdr.proofs.Sizes.{length-word, length-opaque}
use Rattle.lnfs_rpc.specs.declared.numbers.TheConstants.{PROG_MISMATCH, NFS_VERSION}
use Rattle.lnfs_rpc.specs.Replies.{accepted, reply_text, head_text}
use Rattle.lnfs_policy.specs.declared.rows.Parent.{Parent}
use Rattle.lnfs_operations.specs.declared.numbers.TheConstants.{LARGEST_WRAPPING}
use Rattle.lnfs_gss3.specs.Mechanism.{Signing, IsSized}
use Rattle.lnfs_gss3.specs.Grammar.{databody, signed_text}
use Rattle.lnfs_gss3.specs.Replies.{replied}
use Rattle.lnfs_step.specs.declared.numbers.TheConstants.{SUCCESS}
use Rattle.lnfs_step.specs.Wrapping.{Wrapping, Plain, Signed, verifier_in, wrapped_in, answer_text, bare_text, Cause, caller, called, version, results_for, refusal_text}

empty_length : length (opaque []) ≡ 4
unfolding opaque padded
empty_length = length-append (word 0) [] ∙ ap (λ n. n + 0) (length-word 0)

pub padding_few : (n : ℕ) → padding n ≤ 3
padding_few n = omega arith

results_if : (b : Bool) → length (cond b (word NFS_VERSION ++ word NFS_VERSION) []) ≤ 8
results_if true = simp (length-append, length-word) (omega arith)
results_if false = omega arith

results_short : (stat : ℕ) → length (results_for stat) ≤ 8
results_short stat = results_if (stat == PROG_MISMATCH)

module _ (m : Signing) (sized : IsSized m) where
  signature_length : (parent : Parent) (covered : List ℕ) → length (opaque (m.mic_of parent covered)) ≡ 36
  signature_length parent covered =
      let size = sized.size parent covered in
      let none : padding (length (m.mic_of parent covered)) ≡ 0 = ap padding size in
      omega (arith, length-opaque (m.mic_of parent covered), size, none)

  verifier_length : (w : Wrapping) → length (opaque (verifier_in m w).body) ≤ 36
  verifier_length Plain = omega (arith, empty_length)
  verifier_length (Signed parent header sequence) = omega (arith, signature_length parent (replied header))

  -- what results are wrapped in: their length, the sequence number, pad bytes, and the signature
  wrapped_length : (w : Wrapping) (results : List ℕ) → length (wrapped_in m w results) ≤ length results + padding (length results) + 44
  unfolding signed_text databody
  wrapped_length Plain results = omega arith
  wrapped_length (Signed parent header sequence) results =
      let body = word sequence ++ results in
      omega (arith, length-append (opaque body) (opaque (m.mic_of parent body)), length-opaque body, padding_few (length body), length-append (word sequence) results, length-word sequence, signature_length parent body)

  accepted_length : (w : Wrapping) (xid stat : ℕ) (results : List ℕ) → length (reply_text xid (accepted (verifier_in m w) stat) results) ≤ length results + 56
  unfolding reply_text head_text
  accepted_length w xid stat results = simp (length-append, length-word) (omega (arith, verifier_length w))

  -- the largest wrapping of results
  pub answer_length : (w : Wrapping) (xid : ℕ) (results : List ℕ) → length (answer_text m w xid results) ≤ length results + padding (length results) + LARGEST_WRAPPING
  answer_length w xid results = omega (arith, accepted_length w xid SUCCESS (wrapped_in m w results), wrapped_length w results)

  pub bare_length : (w : Wrapping) (xid : ℕ) → length (bare_text m w xid) ≤ RECORD_LIMIT
  bare_length w xid = omega (arith, accepted_length w xid SUCCESS [])

  pub refusal_length : (w : Wrapping) (xid : ℕ) (cause : Cause) → length (refusal_text m w xid cause) ≤ RECORD_LIMIT
  unfolding reply_text head_text
  refusal_length w xid (caller stat) = simp (length-append, length-word) (omega arith)
  refusal_length w xid (called stat) = omega (arith, accepted_length w xid stat (results_for stat), results_short stat)
  refusal_length w xid version = simp (length-append, length-word) (omega arith)
