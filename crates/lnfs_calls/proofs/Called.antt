-- What is written as a call is in the grammar of calls.
use Rattle.std.proofs.Common.{◌≡◌, ℕ, ◌+◌, ◌^◌, ◌<◌, ◌≤◌, ◌==◌, List, [], ◌++◌, length, cond, nat_lt, false, Some, None, refl, ap, append_assoc, arith}
use Rattle.std.proofs.lemmas.Bool.Decides.{nat_tests}
use Rattle.std.proofs.lemmas.List.{length-append}
use Rattle.std.proofs.lemmas.List.Elements.{All-nil}
use Rattle.lnfs_xdr.specs.declared.limits.TheConstants.{MACHINE_LIMIT}
use Rattle.lnfs_xdr.specs.AuthSys.{AuthSys, auth_sys}
use Rattle.lnfs_xdr.specs.Canon.{word}
use Rattle.lnfs_xdr.specs.Format.{Spells}
use Rattle.lnfs_xdr.specs.Message.{Tells}
use Rattle.lnfs_xdr.proofs.Sizes.{length-word, length-opaque}
use Rattle.lnfs_xdr.proofs.Spelled.{Spelled, word_spelled, among_spelled, opaque_spelled, done_spelled, ◌▸◌, last}
use Rattle.lnfs_attrs.specs.Bitmaps.{IsWord}
use Rattle.lnfs_rpc.specs.declared.authsys.Sys.{Sys}
use Rattle.lnfs_rpc.specs.Numbers.{a_call, rpc_version, nfs_program, nfs_version, last_procedure, body_limit, procedure_unavailable}
use Rattle.lnfs_rpc.specs.Calls.{OpaqueAuth, Target, opening, auth, target, refusal}
use Rattle.lnfs_rpc.specs.CallGrammar.{IsCall}
use Rattle.lnfs_rpc.specs.Sys.{authsys_parms}
use Rattle.lnfs_arguments.specs.declared.types.Compound.{Compound}
use Rattle.lnfs_arguments.specs.Further.{Further, IsLawful}
use Rattle.lnfs_arguments.specs.Whole.{compound}
use Rattle.lnfs_requests.specs.Texts.{sys_text}
use Rattle.lnfs_requests.proofs.Texts.{auth_sys_spelled}
use Rattle.lnfs_calls.specs.CallTexts.{AuthFits, auth_text, call_text, header_text, made_call, no_auth, user_auth, IsRequest}

auth_spelled : (a : OpaqueAuth) → AuthFits a → Spelled auth a (auth_text a)
unfolding auth auth_text
auth_spelled a fits = word_spelled a.flavor fits.0 ▸ last (opaque_spelled body_limit a.body fits.1 (omega (arith, fits.1))) (done_spelled a)

opening_spelled : (xid : ℕ) → xid < 2 ^ 32 → Spelled opening xid (word xid ++ word a_call)
unfolding opening
opening_spelled xid lt = word_spelled xid lt ▸ last (among_spelled (λ n. n == a_call) a_call refl (omega arith)) (done_spelled xid)

abbrev aimed : (procedure : ℕ) → OpaqueAuth → Target
aimed procedure credential = record { program = nfs_program; version = nfs_version; procedure = procedure; credential = credential }

target_spelled : (procedure : ℕ) (credential : OpaqueAuth) → procedure ≤ last_procedure → AuthFits credential → Spelled target (aimed procedure credential) (word nfs_program ++ (word nfs_version ++ (word procedure ++ auth_text credential)))
unfolding target
target_spelled procedure credential served fits =
    word_spelled nfs_program (omega arith) ▸ word_spelled nfs_version (omega arith) ▸ word_spelled procedure (omega (arith, served)) ▸ last (auth_spelled credential fits) (done_spelled (aimed procedure credential))

-- the procedure is served
served_target : (procedure : ℕ) (credential : OpaqueAuth) → procedure ≤ last_procedure → refusal (aimed procedure credential) ≡ None
served_target procedure credential served =
    let most : nat_lt last_procedure procedure ≡ false = grind (arith, nat_tests, served) in
    ap (λ b. cond b (Some procedure_unavailable) None) most

-- ---- the body of a credential

abbrev user_of : AuthSys → Sys
user_of s = record { uid = s.uid; gid = s.gid }

sys_spelled : (s : AuthSys) → Spelled {E = ⊥} auth_sys s (sys_text s) → Spelled authsys_parms (user_of s) (sys_text s)
unfolding authsys_parms
sys_spelled s p = last p (done_spelled (user_of s))

pub user_spelled : (machine : List ℕ) (uid : ℕ) → length machine ≤ MACHINE_LIMIT → uid < 2 ^ 32 → Spells authsys_parms (record { uid = uid; gid = 0 }) (user_auth machine uid).body
user_spelled machine uid short lt =
    let s : AuthSys = record { stamp = 0; machine = machine; uid = uid; gid = 0; gids = [] } in
    (sys_spelled s (auth_sys_spelled s (omega arith) short lt (omega arith) (omega arith) (All-nil IsWord))).is

pub user_length : (machine : List ℕ) (uid : ℕ) → length (user_auth machine uid).body ≤ length machine + 23
unfolding sys_text
user_length machine uid = simp (length-append, length-word) (omega (arith, length-opaque machine))

pub user_fits : (machine : List ℕ) (uid : ℕ) → length machine ≤ MACHINE_LIMIT → AuthFits (user_auth machine uid)
user_fits machine uid short = (omega arith, omega (arith, user_length machine uid, short))

pub none_fits : AuthFits no_auth
none_fits = (omega arith, omega arith)

-- ---- the call

pub is_call : (xid procedure : ℕ) (credential verifier : OpaqueAuth) (arguments : List ℕ) → xid < 2 ^ 32 → procedure ≤ last_procedure → AuthFits credential → AuthFits verifier
    → IsCall (made_call xid procedure credential verifier arguments) (call_text xid procedure credential verifier arguments)
unfolding call_text header_text
is_call xid procedure credential verifier arguments lt served fits vfits =
    let behind : List ℕ = auth_text verifier ++ arguments in
    let targeted : List ℕ = word nfs_program ++ (word nfs_version ++ (word procedure ++ auth_text credential)) in (
      word xid ++ word a_call,
      word rpc_version ++ (targeted ++ behind),
      (opening_spelled xid lt).is,
      simp append_assoc,
      (
        word rpc_version,
        targeted ++ behind,
        (word_spelled {E = ⊥} rpc_version (omega arith)).is,
        refl,
        (
          aimed procedure credential,
          (
            targeted,
            behind,
            (target_spelled procedure credential served fits).is,
            refl,
            (auth_text verifier, arguments, (auth_spelled verifier vfits).is, refl, (served_target procedure credential served, refl, refl, simp append_assoc, refl)),
          ),
        ),
      ),
    )

-- the call of a user, with arguments that are told
pub is_request : (xid uid : ℕ) (machine : List ℕ) (asked : Compound) (arguments : List ℕ) → xid < 2 ^ 32 → uid < 2 ^ 32 → length machine ≤ MACHINE_LIMIT → ((x : Further) → IsLawful x → Tells (compound x) asked arguments)
    → IsRequest (call_text xid last_procedure (user_auth machine uid) no_auth arguments)
is_request xid uid machine asked arguments lt small short told = record {
  call = made_call xid last_procedure (user_auth machine uid) no_auth arguments;
  call_is = is_call xid last_procedure (user_auth machine uid) no_auth arguments lt (omega arith) (user_fits machine uid short) none_fits;
  procedure = refl;
  flavor = refl;
  user = record { uid = uid; gid = 0 };
  by = user_spelled machine uid short small;
  asked = asked;
  arguments = told;
}
