-- For callers: what follows on arguments that were read, and on a range that was tested.
use Rattle.std.proofs.Common.{◌≡◌, Result, Ok, Err, ap}
use Rattle.lnfs_xdr.specs.declared.error.XdrError.{XdrError}
use Rattle.lnfs_xdr.specs.Reading.{Read}
use Rattle.lnfs_arguments.specs.declared.statuses.TheConstants.{NFS4ERR_BADXDR}
use Rattle.lnfs_operations.specs.declared.Gate.TheVariants.{Argument}
use Rattle.lnfs_operations.specs.Chain.{Answer, Refused}
use Rattle.lnfs_locks.specs.Effects.{Came}
use Rattle.lnfs_locks.specs.Outcome.{with_arguments}
use Rattle.lnfs_lock_args.specs.Parsing.{Reads}

-- what is answered of what a reader returned
abbrev pub on_read : {X A : Type 0} → (X → A) → Result X XdrError → (A → Answer Came) → Answer Came
on_read view (Ok x) next = next (view x)
on_read view (Err e) next = Refused (record { gate = Argument; status = NFS4ERR_BADXDR })

pub with_read : {X A : Type 0} (view : X → A) (result : Result X XdrError) (r : Read ⊥ A) → Reads view result r → (next : A → Answer Came) → with_arguments r next ≡ on_read view result next
with_read view (Ok x) r is next = ap (λ r. with_arguments r next) is.1
with_read view (Err e) r is next = ap (λ r. with_arguments r next) is.1
