-- What sending a message over a link, and waiting for a record, come to.
use Rattle.std.specs.Prelude.{◌≡◌, ◌≤◌, ◌⊎◌, ℕ, List, ◌++◌, length, Option, Some, None, Result, Ok, Err}
use Rattle.std.specs.Io.KnownBytes.{Consumes, IsAtEnd}
use Rattle.lnfs_types.specs.declared.limits.TheConstants.{RECORD_LIMIT}
use Rattle.lnfs_outside.specs.Causes.{Rose}
use Rattle.lnfs_rpc.specs.Formats.{whole_record}
use Rattle.lnfs_rpc.specs.CallGrammar.{Begins}
use Rattle.lnfs_rpc.specs.Records.{IsTooLong}
use Rattle.lnfs_stage.specs.declared.ending.Ending.TheVariants.{LinkClosed}
use Rattle.lnfs_stage.specs.declared.stop.Stop.{Stop}
use Rattle.lnfs_stage.specs.declared.stop.Stop.TheVariants as stop
use Rattle.lnfs_stage.specs.declared.stop.Stop.TheVariants.{Ends}
use Rattle.lnfs_incoming.specs.declared.ending.Ending.{Ending}
use Rattle.lnfs_incoming.specs.declared.ending.Ending.TheVariants.{Closed, Cut, ReadFault, WriteFault, TooLong, Budget, Memory}

-- a call of the link failed, or there was no memory
abbrev pub IsOfLink : (before now : ℕ) → Stop → Type 0
IsOfLink before now stop.NetFault = Rose before now
IsOfLink before now stop.Memory = Unit {0}
IsOfLink before now stop.ReadFault = ⊥
IsOfLink before now stop.WriteFault = ⊥
IsOfLink before now (Ends ending) = ⊥

-- no record comes behind what is pending: the input is at its end, or the next record is too long
abbrev pub IsSpent : (left : Option (List ℕ)) → (pending : List ℕ) → Type 0
IsSpent left pending = IsAtEnd left ⊎ IsTooLong pending

-- why no record comes, by how the reading of a link ends
abbrev pub stop_of : Ending → Stop
stop_of Closed = Ends LinkClosed
stop_of Cut = Ends LinkClosed
stop_of TooLong = Ends LinkClosed
stop_of Budget = Ends LinkClosed
stop_of ReadFault = stop.NetFault
stop_of WriteFault = stop.NetFault
stop_of Memory = stop.Memory

-- what is told of a record that doesn't come, by all bytes that are pending
abbrev pub SaysNone : Stop → (left : Option (List ℕ)) → (before now : ℕ) → (all : List ℕ) → Type 0
SaysNone (Ends ending) left before now all = (ending ≡ LinkClosed) × IsSpent left all
SaysNone stop.NetFault left before now all = Rose before now
SaysNone stop.Memory left before now all = Unit {0}
SaysNone stop.ReadFault left before now all = ⊥
SaysNone stop.WriteFault left before now all = ⊥

-- a record was cut off their front, and these are left
abbrev pub IsCut : (message all pending : List ℕ) → Type 0
IsCut message all pending = (length message ≤ RECORD_LIMIT) × Begins whole_record message all (λ rest. rest ≡ pending)

abbrev pub SaysLooked : Result (Option (List ℕ)) Stop → (left : Option (List ℕ)) → (before now : ℕ) → (all pending : List ℕ) → Type 0
SaysLooked (Ok (Some message)) left before now all pending = IsCut message all pending
SaysLooked (Ok None) left before now all pending = pending ≡ all
SaysLooked (Err cause) left before now all pending = SaysNone cause left before now all

abbrev pub SaysReceived : Result (List ℕ) Stop → (left : Option (List ℕ)) → (before now : ℕ) → (all pending : List ℕ) → Type 0
SaysReceived (Ok message) left before now all pending = IsCut message all pending
SaysReceived (Err cause) left before now all pending = SaysNone cause left before now all

-- What reading once, where no record is whole, came to; by the bytes to come and the count of failed reads, before and after, and by what is pending.
pub record Looks (result : Result (Option (List ℕ)) Stop) (had left : Option (List ℕ)) (before now : ℕ) (old new : List ℕ) : Type 0 where
  pub piece : List ℕ
  pub reads : Consumes had left piece
  pub says : SaysLooked result left before now (old ++ piece) new

-- what waiting for a record came to
pub record Receives (result : Result (List ℕ) Stop) (had left : Option (List ℕ)) (before now : ℕ) (old new : List ℕ) : Type 0 where
  pub piece : List ℕ
  pub reads : Consumes had left piece
  pub says : SaysReceived result left before now (old ++ piece) new
