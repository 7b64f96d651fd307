-- What is written for a guest is a request.
use Rattle.std.proofs.Common.{◌≡◌, ℕ, ◌^◌, ◌<◌, List, sym, arith, codes, Result, Ok, Err, IfOk, subst}
use Rattle.std.specs.Global.{Vec}
use Rattle.lnfs_xdr.specs.Message.{Tells}
use Rattle.lnfs_rpc.specs.Numbers.{last_procedure}
use Rattle.lnfs_arguments.specs.declared.types.Compound.{Compound}
use Rattle.lnfs_arguments.specs.Further.{Further, IsLawful}
use Rattle.lnfs_arguments.specs.Whole.{compound}
use Rattle.lnfs_calls.specs.CallTexts.{call_text, IsRequest}
use Rattle.lnfs_calls.proofs.Called as called
use Rattle.lnfs_traffic.specs.Generated.{credential, no_verifier}

-- the call of a user, with arguments that are told
pub is_request : (xid uid : ℕ) (asked : Compound) (arguments : List ℕ) → xid < 2 ^ 32 → uid < 2 ^ 32 → ((x : Further) → IsLawful x → Tells (compound x) asked arguments) → IsRequest (call_text xid last_procedure (credential uid) no_verifier arguments)
is_request xid uid asked arguments lt small told = called.is_request xid uid (codes "gen") asked arguments lt small (omega arith) told

pub of_text : {E : Type 0} (r : Result (Vec ℕ) E) (bytes : List ℕ) → IfOk r (λ v. v.items ≡ bytes) → IsRequest bytes → IfOk r (λ v. IsRequest v.items)
of_text (Ok v) bytes e request = subst IsRequest (sym e) request
of_text (Err error) bytes e request = tt
