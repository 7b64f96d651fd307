-- The spelling of a call with zero pad bytes (RFC 5531 section 9).
use Rattle.std.specs.Prelude.{◌≡◌, ◌≤◌, ◌<◌, ◌^◌, ℕ, List, [], ◌++◌, length}
use Rattle.lnfs_xdr.specs.declared.flavors.TheConstants.{AUTH_NONE, AUTH_SYS}
use Rattle.lnfs_xdr.specs.Canon.{word, opaque}
use Rattle.lnfs_xdr.specs.Format.{Spells}
use Rattle.lnfs_xdr.specs.Message.{Tells}
use Rattle.lnfs_rpc.specs.declared.authsys.Sys.{Sys}
use Rattle.lnfs_rpc.specs.Calls.{OpaqueAuth, CallMessage}
use Rattle.lnfs_rpc.specs.CallGrammar.{IsCall}
use Rattle.lnfs_rpc.specs.Sys.{authsys_parms}
use Rattle.lnfs_rpc.specs.Numbers.{a_call, rpc_version, nfs_program, nfs_version, last_procedure, body_limit}
use Rattle.lnfs_arguments.specs.declared.types.Compound.{Compound}
use Rattle.lnfs_arguments.specs.Further.{Further, IsLawful}
use Rattle.lnfs_arguments.specs.Whole.{compound}
use Rattle.lnfs_requests.specs.Texts.{sys_text}

-- ---- credentials and verifiers

-- AUTH_SYS of a user in group 0, from a machine of a name (appendix A)
abbrev pub user_auth : (machine : List ℕ) → (uid : ℕ) → OpaqueAuth
user_auth machine uid = record { flavor = AUTH_SYS; body = sys_text (record { stamp = 0; machine = machine; uid = uid; gid = 0; gids = [] }) }

-- the verifier of such a call
abbrev pub no_auth : OpaqueAuth
no_auth = record { flavor = AUTH_NONE; body = [] }

-- what a server takes (section 8.2)
abbrev pub AuthFits : OpaqueAuth → Type 0
AuthFits a = (a.flavor < 2 ^ 32) × (length a.body ≤ body_limit)

unfoldable pub auth_text : OpaqueAuth → List ℕ
auth_text a = word a.flavor ++ opaque a.body

-- ---- calls

-- a call of NFS version 4 from its start through the credential
unfoldable pub header_text : (xid procedure : ℕ) → (credential : OpaqueAuth) → List ℕ
header_text xid procedure credential =
    word xid ++ word a_call ++ word rpc_version ++ word nfs_program ++ word nfs_version ++ word procedure ++ auth_text credential

unfoldable pub call_text : (xid procedure : ℕ) → (credential verifier : OpaqueAuth) → (arguments : List ℕ) → List ℕ
call_text xid procedure credential verifier arguments = header_text xid procedure credential ++ auth_text verifier ++ arguments

-- the call of these parts, as it is read
abbrev pub made_call : (xid procedure : ℕ) → (credential verifier : OpaqueAuth) → (arguments : List ℕ) → CallMessage
made_call xid procedure credential verifier arguments = record {
  xid = xid;
  procedure = procedure;
  credential = credential;
  verifier = verifier;
  header = header_text xid procedure credential;
  arguments = arguments;
}

-- The record is a call of COMPOUND with an AUTH_SYS credential, which is read as that of a user, and with arguments that are read as those of operations, whatever is read beside the table.
pub record IsRequest (message : List ℕ) : Type 0 where
  pub call : CallMessage
  pub call_is : IsCall call message
  pub procedure : call.procedure ≡ last_procedure
  pub flavor : call.credential.flavor ≡ AUTH_SYS
  pub user : Sys
  pub by : Spells authsys_parms user call.credential.body
  pub asked : Compound
  pub arguments : (x : Further) → IsLawful x → Tells (compound x) asked call.arguments
