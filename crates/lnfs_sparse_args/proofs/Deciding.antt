-- For callers: what follows on arguments that were read.
use Rattle.std.proofs.Common.{◌≡◌, ℕ, List, Result, Ok, Err, ap}
use Rattle.lnfs_xdr.specs.declared.error.XdrError.{XdrError}
use Rattle.lnfs_xdr.specs.Reading.{Read}
use Rattle.lnfs_arguments.specs.declared.statuses.TheConstants.{NFS4ERR_BADXDR}
use Rattle.lnfs_world.specs.Outcome.{Place, Outcome}
use Rattle.lnfs_operations.specs.declared.Gate.TheVariants.{Argument}
use Rattle.lnfs_operations.specs.Chain.{Answer, refuse}
use Rattle.lnfs_sparse_ops.specs.Outcome.{with_arguments}
use Rattle.lnfs_sparse_args.specs.Parsing.{Reads}

-- what is answered of what a reader returned
abbrev pub on_read : {X A : Type 0} → Place → (X → A) → Result X XdrError → (A → Outcome (Answer (List ℕ))) → Outcome (Answer (List ℕ))
on_read p view (Ok x) next = next (view x)
on_read p view (Err e) next = refuse p Argument NFS4ERR_BADXDR

pub with_read : {X A : Type 0} (p : Place) (view : X → A) (result : Result X XdrError) (r : Read ⊥ A) → Reads view result r → (next : A → Outcome (Answer (List ℕ))) → with_arguments p r next ≡ on_read p view result next
with_read p view (Ok x) r is next = ap (λ r. with_arguments p r next) is.1
with_read p view (Err e) r is next = ap (λ r. with_arguments p r next) is.1
