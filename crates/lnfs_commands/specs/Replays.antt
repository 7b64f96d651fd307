-- A recording that is replayed while its file is read.
use Rattle.std.specs.Prelude.{◌≡◌, ◌<◌, Bool, ℕ, List, [], length, Result, Ok, Err, IfOk, MatchBool}
use Rattle.std.specs.Io.KnownBytes.{Consumes, IsAtEnd}
use Rattle.lnfs_traffic.specs.Pieces.{Unread, fed_to}
use Rattle.lnfs_traffic.specs.declared.error.TrafficError.{TrafficError}
use Rattle.lnfs_traffic.specs.declared.error.TrafficError.TheVariants as error
use Rattle.lnfs_stage.specs.declared.ending.Ending.TheVariants.{TrafficDamaged}
use Rattle.lnfs_stage.specs.declared.stop.Stop.{Stop}
use Rattle.lnfs_stage.specs.declared.stop.Stop.TheVariants.{Ends, Memory}
use Rattle.lnfs_stage.specs.Seen.{Seen}
use Rattle.lnfs_stage.specs.Due.{written}
use Rattle.lnfs_stage.specs.Does.{Does}

-- A piece of what was left of the file was read, and fed to the reader; or there was none, since nothing was left.
pub record Feeds (result : Result Bool Stop) (before after : Seen) (old new : Unread) : Type 0 where
  pub piece : List ℕ
  pub was_read : Consumes before.left after.left piece
  pub fed : IfOk result (λ more. MatchBool more ((0 < length piece) × (new ≡ fed_to old piece)) ((piece ≡ []) × (new ≡ old) × IsAtEnd after.left))
  pub does : Does result before after (written [])

-- how a replay ends with an answer of its reader
abbrev pub ending_of : {T : Type 0} → Result T TrafficError → Result (Unit {0}) Stop
ending_of (Ok done) = Ok tt
ending_of (Err (error.Damaged at)) = Err (Ends (TrafficDamaged at))
ending_of (Err error.Memory) = Err Memory
