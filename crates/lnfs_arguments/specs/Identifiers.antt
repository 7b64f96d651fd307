-- The identifiers of clients and sessions as they are sent. Each has its level in it.
use Rattle.std.specs.Prelude.{ℕ, ◌+◌, ◌*◌, ◌^◌, List, ◌++◌}
use Rattle.lnfs_xdr.specs.Canon.{word, long}

-- A client id: the level and the number of its record are its upper and its lower half.
abbrev pub client_id : ℕ → ℕ → ℕ
client_id level number = level * 2 ^ 32 + number

-- A session id: the level, the number, and four zero bytes.
abbrev pub session_id : ℕ → ℕ → List ℕ
session_id level number = word level ++ long number ++ word 0
