-- Calls by RPCSEC_GSS version 3 as they are written (RFC 2203 section 5, RFC 7861 section 2; the layout is this project's own). The sequence number of each is its transaction, and the service is that of signed arguments.
use Rattle.std.specs.Prelude.{ℕ, List, [], ◌++◌, length}
use Rattle.lnfs_xdr.specs.declared.flavors.TheConstants.{RPCSEC_GSS}
use Rattle.lnfs_xdr.specs.Canon.{word}
use Rattle.lnfs_rpc.specs.declared.numbers.TheConstants.{PROC_COMPOUND}
use Rattle.lnfs_rpc.specs.Calls.{OpaqueAuth}
use Rattle.lnfs_policy.specs.declared.rows.Parent.{Parent}
use Rattle.lnfs_gss3.specs.declared.numbers.TheConstants.{PROC_NULL, RPCSEC_GSS_CREATE, RPCSEC_GSS_DATA, RPCSEC_GSS_DESTROY, INTEGRITY}
use Rattle.lnfs_gss3.specs.Mechanism.{Signing}
use Rattle.lnfs_gss3.specs.Grammar.{Assertion, credential_text, create_args_text}
use Rattle.lnfs_gss3.specs.Replies.{wrapped}
use Rattle.lnfs_calls.specs.CallTexts.{auth_text, header_text}
use Rattle.lnfs_signed_calls.specs.declared.call.SignedCall.{SignedCall}

-- the credential; the handle is a parent's or a context's
abbrev pub gss_auth : (procedure sequence : ℕ) → (handle : List ℕ) → OpaqueAuth
gss_auth procedure sequence handle = record {
  flavor = RPCSEC_GSS;
  body = credential_text (record { procedure = procedure; sequence = sequence; service = INTEGRITY; handle = handle });
}

-- the verifier: a parent's signature of the header
abbrev pub signature : Signing → Parent → (header : List ℕ) → OpaqueAuth
signature m parent header = record { flavor = RPCSEC_GSS; body = m.mic_of parent header }

-- behind a header the signature of it, and the arguments
abbrev pub signed_call : Signing → Parent → (header arguments : List ℕ) → SignedCall
signed_call m parent header arguments = record { message = header ++ auth_text (signature m parent header) ++ arguments; header = length header }

-- ---- headers

abbrev pub create_header : (xid parent : ℕ) → List ℕ
create_header xid parent = header_text xid PROC_NULL (gss_auth RPCSEC_GSS_CREATE xid (word parent))

abbrev pub data_header : (xid : ℕ) → (handle : List ℕ) → List ℕ
data_header xid handle = header_text xid PROC_COMPOUND (gss_auth RPCSEC_GSS_DATA xid handle)

abbrev pub destroy_header : (xid : ℕ) → (handle : List ℕ) → List ℕ
destroy_header xid handle = header_text xid PROC_NULL (gss_auth RPCSEC_GSS_DESTROY xid handle)

-- ---- calls

-- a context is asked for, for a label
abbrev pub create_call : Signing → Parent → (xid : ℕ) → Assertion → SignedCall
create_call m parent xid a = signed_call m parent (create_header xid parent.number) (wrapped m parent xid (create_args_text a))

-- arguments of COMPOUND in a context
abbrev pub data_call : Signing → Parent → (xid : ℕ) → (handle arguments : List ℕ) → SignedCall
data_call m parent xid handle arguments = signed_call m parent (data_header xid handle) (wrapped m parent xid arguments)

-- a context ends
abbrev pub destroy_call : Signing → Parent → (xid : ℕ) → (handle : List ℕ) → SignedCall
destroy_call m parent xid handle = signed_call m parent (destroy_header xid handle) []

-- the most bytes of a DATA beside those of the handle and of the arguments
abbrev pub data_room : ℕ
data_room = 145
