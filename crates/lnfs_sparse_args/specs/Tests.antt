-- A test of an operation's definition, and the call that makes it.
use Rattle.std.specs.Prelude.{Result, Ok, Err}
use Rattle.lnfs_world.specs.Outcome.{Place, Outcome}
use Rattle.lnfs_operations.specs.declared.Refusal.{Refusal}
use Rattle.lnfs_operations.specs.Chain.{Answer, refuse}

-- what follows where a call answers a success, or else its refusal
abbrev pub unless : {A R : Type 0} → Place → Result A Refusal → Outcome (Answer R) → Outcome (Answer R)
unless p (Ok a) next = next
unless p (Err why) next = refuse p why.gate why.status
