-- What identifiers name that were sent. How they are spelled stands in lnfs_arguments/specs/Identifiers.antt.
use Rattle.std.specs.Prelude.{ℕ, ◌/◌, ◌%◌, ◌^◌, cond, List, [], ◌∷◌, take, drop, Option, None}
use Rattle.std.specs.Int.{w32, w64, from_be_bytes}
use Rattle.std.specs.Str.{bytes_eq}
use Rattle.lnfs_world.specs.World.{Id, Session, session_at}

-- the level and the number of a client id
abbrev pub client_named : ℕ → Id
client_named id = record { level = id / 2 ^ 32; number = id % 2 ^ 32 }

-- the level and the number of a session id
abbrev pub session_named : List ℕ → Id
session_named bytes = record { level = from_be_bytes w32 (take 4 bytes); number = from_be_bytes w64 (take 8 (drop 4 bytes)) }

-- the session of an id, whose last four bytes have to be zero
abbrev pub session_under : List ℕ → List Session → Option Session
session_under bytes sessions = cond (bytes_eq (drop 12 bytes) (0 ∷ 0 ∷ 0 ∷ 0 ∷ [])) (session_at sessions (session_named bytes)) None
