-- The parts of a signed call.
use Rattle.std.proofs.Common.{◌≡◌, ℕ, ◌+◌, ◌≤◌, List, ◌++◌, length, take, refl, ap, ◌∙◌, append_assoc, arith}
use Rattle.std.proofs.lemmas.List.{length-append, take_at}
use Rattle.lnfs_xdr.specs.Canon.{word}
use Rattle.lnfs_xdr.proofs.Sizes.{length-word, length-opaque}
use Rattle.lnfs_policy.specs.declared.rows.Parent.{Parent}
use Rattle.lnfs_gss3.specs.declared.numbers.TheConstants.{RPCSEC_GSS_DATA, INTEGRITY, SIGNATURE}
use Rattle.lnfs_gss3.specs.Mechanism.{Signing, IsSized}
use Rattle.lnfs_gss3.specs.Grammar.{Credential, credential_text, databody, signed_text}
use Rattle.lnfs_calls.specs.CallTexts.{auth_text, header_text}
use Rattle.lnfs_signed_calls.specs.SignedCalls.{signature, signed_call, data_header, data_call, data_room}
use Rattle.lnfs_signed_calls.proofs.Lengths.{credential_length}

pub front : (m : Signing) (parent : Parent) (header arguments : List ℕ) → take (length header) (signed_call m parent header arguments).message ≡ header
front m parent header arguments =
    let verifier : List ℕ = auth_text (signature m parent header) in
    let grouped : header ++ verifier ++ arguments ≡ header ++ (verifier ++ arguments) = simp append_assoc in
    ap (take (length header)) grouped ∙ take_at header (verifier ++ arguments) (length header) refl

pub size : (m : Signing) → IsSized m → (parent : Parent) (header arguments : List ℕ) → length (signed_call m parent header arguments).message ≡ length header + 8 + SIGNATURE + length arguments
unfolding auth_text
size m sized parent header arguments = simp (length-append, length-word) (omega (arith, length-opaque (m.mic_of parent header), sized.size parent header))

-- a DATA is little longer than its handle and its arguments
pub data_size : (m : Signing) → IsSized m → (parent : Parent) (xid : ℕ) (handle arguments : List ℕ) → length (data_call m parent xid handle arguments).message ≤ length handle + length arguments + data_room
unfolding auth_text header_text signed_text databody
data_size m sized parent xid handle arguments =
    let credential : Credential = record { procedure = RPCSEC_GSS_DATA; sequence = xid; service = INTEGRITY; handle = handle } in
    simp (length-append, length-word)
    (omega (
      arith,
      credential_length credential,
      length-opaque (credential_text credential),
      length-opaque (word xid ++ arguments),
      length-append (word xid) arguments,
      length-word xid,
      length-opaque (m.mic_of parent (data_header xid handle)),
      sized.size parent (data_header xid handle),
      length-opaque (m.mic_of parent (word xid ++ arguments)),
      sized.size parent (word xid ++ arguments),
    ))
