-- What an audit finds, as a function: the records are read one after another.
use Rattle.std.specs.Prelude.{ℕ, ◌+◌, ◌-◌, cond, List, [], ◌∷◌, length, Option, Some, None, Ok, Err}
use Rattle.std.specs.Str.{bytes_eq}
use Rattle.lnfs_xdr.specs.Reading.{Read, read}
use Rattle.lnfs_rpc.specs.Formats.{whole_record}
use Rattle.lnfs_audit.specs.declared.finding.Finding.{Finding}
use Rattle.lnfs_audit.specs.declared.finding.Finding.TheVariants.{Faithful, Differs, Surplus}

-- behind the replies to so many events, and so many bytes
abbrev pub found_behind : (events at : ℕ) → List ℕ → Finding
found_behind events at [] = Faithful events
found_behind events at (byte ∷ bytes) = Surplus at

-- the reply to an event, where a record is read, and what is found behind it
abbrev pub found_by : (event : ℕ) → (reply : List ℕ) → Read (Unit {0}) (List ℕ) → (List ℕ → Finding) → Finding
found_by event reply (Ok x) next = cond (bytes_eq x.0 reply) (next x.1) (Differs event)
found_by event reply (Err stop) next = Differs event

unfoldable pub found_from : (events at : ℕ) → List (Option (List ℕ)) → List ℕ → Finding
found_from events at [] bytes = found_behind events at bytes
found_from events at (None ∷ replies) bytes = found_from (events + 1) at replies bytes
found_from events at (Some reply ∷ replies) bytes =
    found_by (events + 1) reply (read whole_record bytes) (λ rest. found_from (events + 1) (at + (length bytes - length rest)) replies rest)

abbrev pub found_of : List (Option (List ℕ)) → List ℕ → Finding
found_of replies bytes = found_from 0 0 replies bytes
