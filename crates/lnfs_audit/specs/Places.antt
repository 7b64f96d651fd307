-- Places among recorded records.
use Rattle.std.specs.Prelude.{◌≡◌, ◌≤◌, ℕ, List, length, drop, Option, Some, None}
use Rattle.lnfs_rpc.specs.Formats.{whole_record}
use Rattle.lnfs_rpc.specs.CallGrammar.{Begins}
use Rattle.lnfs_audit.specs.Findings.{IsOther}

-- the place behind a reply, where that is the whole record at a place
abbrev pub IsBehindRecord : List ℕ → (at : ℕ) → List ℕ → Option ℕ → Type 0
IsBehindRecord bytes at reply None = IsOther reply (drop at bytes)
IsBehindRecord bytes at reply (Some next) = (next ≤ length bytes) × Begins whole_record reply (drop at bytes) (λ rest. rest ≡ drop next bytes)

-- The same of what is due of an event: nothing due takes no record.
abbrev pub IsBehind : List ℕ → (at : ℕ) → Option (List ℕ) → Option ℕ → Type 0
IsBehind bytes at None next = next ≡ Some at
IsBehind bytes at (Some reply) next = IsBehindRecord bytes at reply next
