-- What reading gives on the way to a server.
use Rattle.std.specs.Prelude.{ℕ, List, Some, Result, Ok, Err}
use Rattle.lnfs_policy.specs.Policy.{Policy}
use Rattle.lnfs_site.specs.Site.{site_of}
use Rattle.lnfs_xdr.specs.Message.{Tells}
use Rattle.lnfs_layout.specs.declared.reading.Laid.{Laid}
use Rattle.lnfs_layout.specs.Parsing.{told_of, HasLasts}
use Rattle.lnfs_checkpoint.specs.declared.errors.CheckpointError.{CheckpointError}
use Rattle.lnfs_checkpoint.specs.declared.errors.CheckpointError.TheVariants as errors
use Rattle.lnfs_checkpoint.specs.Checkpoint.{checkpoint}
use Rattle.lnfs_checkpoint.specs.Takes.{IsVerdict}

-- The rows that bytes are, or why they are none, with a last number of each kind for each level. Whether a server of the policy has
-- their world and their locks isn't asked yet.
abbrev pub IsLaid : Policy → List ℕ → Result Laid CheckpointError → Type 0
IsLaid p bytes (Ok laid) = Tells (checkpoint p) (Some (told_of laid)) bytes × HasLasts (site_of p).levels laid
IsLaid p bytes (Err errors.Memory) = Unit {0}
IsLaid p bytes (Err errors.Unfit) = ⊥
IsLaid p bytes (Err cause) = IsVerdict p bytes (Err cause)

-- The verdict, with the rows of the state that is taken.
abbrev pub IsJudged : Policy → List ℕ → Result Laid CheckpointError → Type 0
IsJudged p bytes (Ok laid) = IsVerdict p bytes (Ok (told_of laid))
IsJudged p bytes (Err errors.Memory) = Unit {0}
IsJudged p bytes (Err cause) = IsVerdict p bytes (Err cause)
