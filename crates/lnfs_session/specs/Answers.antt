-- What the code's answers stand for.
use Rattle.std.specs.Prelude.{Bool, cond, Result, Ok, Err}
use Rattle.lnfs_world.specs.World.{Client}
use Rattle.lnfs_operations.specs.declared.Gate.{Gate}
use Rattle.lnfs_operations.specs.declared.Gate.TheVariants.{Session, Monitor}
use Rattle.lnfs_monitor.specs.declared.rule.Rule.TheVariants.{M9}
use Rattle.lnfs_operations.specs.Chain.{Answer, Done, Refused}
use Rattle.lnfs_operations.specs.ExchangeId as exchange
use Rattle.std.specs.Prelude.{◌≡◌}
use Rattle.lnfs_session.specs.declared.clients.SessionError.{SessionError}
use Rattle.lnfs_session.specs.declared.clients.SessionError.TheVariants.{Status, Memory}
use Rattle.lnfs_session.specs.declared.exchange.ClientInfo.{ClientInfo}

-- which kind of test refuses an id: the rule that it is of the caller's level, or that there is such a row
abbrev pub gate_of : Bool → Gate
gate_of foreign = cond foreign (Monitor M9) Session

-- the answer is that of the definition, unless memory was wanting
abbrev pub Answers : {S R : Type 0} → (S → R) → Result S SessionError → Answer R → Type 0
Answers f (Ok x) a = Done (f x) ≡ a
Answers f (Err (Status code foreign)) a = Refused (record { gate = gate_of foreign; status = code }) ≡ a
Answers f (Err Memory) a = Unit {0}

-- what holds unless memory was wanting
abbrev pub UnlessMemory : {S : Type 0} → Result S SessionError → Type 0 → Type 0
UnlessMemory (Ok x) P = P
UnlessMemory (Err (Status code foreign)) P = P
UnlessMemory (Err Memory) P = Unit {0}

-- what holds where a test refused
abbrev pub IfRefused : {S : Type 0} → Result S SessionError → Type 0 → Type 0
IfRefused (Ok x) P = Unit {0}
IfRefused (Err (Status code foreign)) P = P
IfRefused (Err Memory) P = Unit {0}

-- an answer for which no memory is taken
abbrev pub TakesNone : {S : Type 0} → Result S SessionError → Type 0
TakesNone (Ok x) = Unit {0}
TakesNone (Err (Status code foreign)) = Unit {0}
TakesNone (Err Memory) = ⊥

abbrev pub told_of : ClientInfo → exchange.Told
told_of i = record { number = i.client.number; sequence = i.sequence; confirmed = i.confirmed }

-- what is told of a record
abbrev pub told_as : Client → exchange.Told
told_as c = record { number = c.id.number; sequence = c.sequence; confirmed = c.confirmed }

abbrev pub nothing_of : Unit {0} → Unit {0}
nothing_of x = tt
