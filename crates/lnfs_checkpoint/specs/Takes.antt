-- What becomes of bytes as a checkpoint, and what reading them answers.
use Rattle.std.specs.Prelude.{◌≡◌, ◌<◌, ℕ, List, Some, Result, Ok, Err, slice_index}
use Rattle.lnfs_policy.specs.Policy.{Policy}
use Rattle.lnfs_xdr.specs.Message.{Tells, RefusesAt}
use Rattle.lnfs_layout.specs.Whole.{Told, IsOfAnother}
use Rattle.lnfs_checkpoint.specs.declared.errors.CheckpointError.{CheckpointError}
use Rattle.lnfs_checkpoint.specs.declared.errors.CheckpointError.TheVariants as errors
use Rattle.lnfs_checkpoint.specs.Checkpoint.{checkpoint, digest_of, IsFit}
use Rattle.lnfs_checkpoint.specs.Resumed.{Resumed}

abbrev pub Verdict : Type 0
Verdict = Result Told CheckpointError

-- The state that the bytes are is taken where a server of this policy may have it. The causes come in this order: another
-- policy, bytes that are no checkpoint, a world or locks that no server of this policy has.
abbrev pub IsVerdict : Policy → List ℕ → Verdict → Type 0
IsVerdict p bytes (Ok t) = Tells (checkpoint p) (Some t) bytes × IsFit p t.world t.locks
IsVerdict p bytes (Err errors.Policy) = IsOfAnother (digest_of p) bytes
IsVerdict p bytes (Err (errors.Damaged at)) = RefusesAt (checkpoint p) bytes at
IsVerdict p bytes (Err errors.Unfit) = (t : Told) × Tells (checkpoint p) (Some t) bytes × (IsFit p t.world t.locks → ⊥)
IsVerdict p bytes (Err errors.Memory) = ⊥

-- what is told of a server that goes on
abbrev pub told_of : Resumed → Told
told_of r = record { events = r.events; world = r.world; locks = r.locks }

-- reading gives the verdict, unless memory runs out
abbrev pub Takes : Policy → List ℕ → Result Resumed CheckpointError → Type 0
Takes p bytes (Ok r) = IsVerdict p bytes (Ok (told_of r))
Takes p bytes (Err errors.Memory) = Unit {0}
Takes p bytes (Err cause) = IsVerdict p bytes (Err cause)

-- a server is answered of which this is told, unless memory runs out
abbrev pub IsTaken : Told → Result Resumed CheckpointError → Type 0
IsTaken t (Ok r) = told_of r ≡ t
IsTaken t (Err errors.Memory) = Unit {0}
IsTaken t (Err cause) = ⊥

-- each is a byte
abbrev pub AreBytes : List ℕ → Type 0
AreBytes bytes = (k : ℕ) → slice_index bytes k < 256
