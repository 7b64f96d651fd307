-- The level of an event: that of the caller, by the event's class, its record and the policy alone.
use Rattle.std.specs.Prelude.{ℕ, List, Option, None, Result, Ok, Err}
use Rattle.lnfs_rpc.specs.declared.calls.CallError.{CallError}
use Rattle.lnfs_rpc.specs.Calls.{CallMessage, call_of}
use Rattle.lnfs_policy.specs.Policy.{Policy}
use Rattle.lnfs_gss3.specs.Mechanism.{Signing}
use Rattle.lnfs_gss3.specs.Who.{who}
use Rattle.lnfs_gss3.specs.Who as whose

-- what can't be read as a call has none
abbrev pub level_by : Signing → Policy → (class : ℕ) → Result CallMessage CallError → Option ℕ
level_by m p class (Err e) = None
level_by m p class (Ok call) = whose.level_of (who m p class call)

abbrev pub level_of : Signing → Policy → (class : ℕ) → List ℕ → Option ℕ
level_of m p class bytes = level_by m p class (call_of bytes)
