-- What an audit finds: by the replies that are due, and the bytes that were recorded.
use Rattle.std.specs.Prelude.{◌≡◌, ◌+◌, ◌<◌, ℕ, List, [], ◌∷◌, ◌++◌, length, Option, Some}
use Rattle.lnfs_rpc.specs.Formats.{whole_record}
use Rattle.lnfs_rpc.specs.CallGrammar.{Begins}
use Rattle.lnfs_rpc.specs.Records.{Stream}
use Rattle.lnfs_audit.specs.Replies.{records_of}
use Rattle.lnfs_audit.specs.declared.finding.Finding.{Finding}
use Rattle.lnfs_audit.specs.declared.finding.Finding.TheVariants.{Faithful, Differs, Surplus}

-- The bytes don't begin with the reply as a whole record: they begin with another one, with a part of one, or with one that
-- is too long, or there are none.
abbrev pub IsOther : List ℕ → List ℕ → Type 0
IsOther reply bytes = Begins whole_record reply bytes (λ rest. Unit {0}) → ⊥

-- The replies to the events before one are the first records, and the reply to this event isn't the next. Events are counted
-- from 1.
pub record DiffersAt (replies : List (Option (List ℕ))) (bytes : List ℕ) (event : ℕ) : Type 0 where
  pub before : List (Option (List ℕ))
  pub reply : List ℕ
  pub after : List (Option (List ℕ))
  pub rest : List ℕ
  pub split : replies ≡ before ++ Some reply ∷ after
  pub place : event ≡ length before + 1
  pub same : Stream bytes (records_of before) rest
  pub other : IsOther reply rest

-- All replies are the first records, and from a place on bytes are left.
pub record IsLeft (replies : List (Option (List ℕ))) (bytes : List ℕ) (at : ℕ) : Type 0 where
  pub rest : List ℕ
  pub same : Stream bytes (records_of replies) rest
  pub some : 0 < length rest
  pub place : at + length rest ≡ length bytes

abbrev pub IsFinding : List (Option (List ℕ)) → List ℕ → Finding → Type 0
-- the replies are the records, and nothing is left
IsFinding replies bytes (Faithful events) = (events ≡ length replies) × Stream bytes (records_of replies) []
IsFinding replies bytes (Differs event) = DiffersAt replies bytes event
IsFinding replies bytes (Surplus at) = IsLeft replies bytes at
