-- What reading a link, and cutting a record off what was read, come to.
use Rattle.std.specs.Prelude.{◌≡◌, ◌+◌, ◌*◌, ◌<◌, ◌≤◌, ℕ, List, [], ◌++◌, length, Option, Some, None, Result, Ok, Err}
use Rattle.std.specs.Io.KnownBytes.{Consumes, IsAtEnd}
use Rattle.lnfs_types.specs.declared.limits.TheConstants.{RECORD_LIMIT}
use Rattle.lnfs_outside.specs.Causes.{Rose}
use Rattle.lnfs_rpc.specs.Numbers.{record_limit, fragment_limit, head_length}
use Rattle.lnfs_rpc.specs.Formats.{whole_record}
use Rattle.lnfs_rpc.specs.CallGrammar.{Begins}
use Rattle.lnfs_rpc.specs.Records.{IsPartial, IsTooLong}
use Rattle.lnfs_incoming.specs.declared.ending.Ending.{Ending}
use Rattle.lnfs_incoming.specs.declared.ending.Ending.TheVariants.{Closed, Cut, ReadFault, WriteFault, TooLong, Budget, Memory}

-- A record that isn't whole yet, and not too long so far, has fewer bytes on the stream: its own, and the heads of the fragments that it may have and of one more.
abbrev pub partial_limit : ℕ
partial_limit = record_limit + head_length * (fragment_limit + 1)

-- the endings where no record is given
abbrev pub IsOfCutting : Ending → List ℕ → Type 0
IsOfCutting Closed pending = ⊥
IsOfCutting Cut pending = ⊥
IsOfCutting ReadFault pending = ⊥
IsOfCutting WriteFault pending = ⊥
IsOfCutting TooLong pending = IsTooLong pending
IsOfCutting Budget pending = ⊥
IsOfCutting Memory pending = Unit {0}

-- the first record of what is pending, where it is whole, and what is pending then
abbrev pub Cuts : Result (Option (List ℕ)) Ending → List ℕ → List ℕ → Type 0
Cuts (Ok (Some r)) old new = (length r ≤ RECORD_LIMIT) × Begins whole_record r old (λ rest. rest ≡ new)
Cuts (Ok None) old new = IsPartial old × (new ≡ old) × (length old < partial_limit)
Cuts (Err ending) old new = IsOfCutting ending old × (new ≡ old)

-- what one reading came to: a piece with bytes was read and fed, or the service ends
abbrev pub SaysRead : Option Ending → Option (List ℕ) → (before now : ℕ) → (old new : List ℕ) → (piece : List ℕ) → Type 0
SaysRead None left before now old new piece = (0 < length piece) × (new ≡ old ++ piece)
SaysRead (Some Closed) left before now old new piece = (old ≡ []) × (piece ≡ []) × IsAtEnd left
SaysRead (Some Cut) left before now old new piece = (0 < length old) × (piece ≡ []) × IsAtEnd left
SaysRead (Some ReadFault) left before now old new piece = (piece ≡ []) × Rose before now
SaysRead (Some WriteFault) left before now old new piece = ⊥
SaysRead (Some TooLong) left before now old new piece = ⊥
SaysRead (Some Budget) left before now old new piece = ⊥
SaysRead (Some Memory) left before now old new piece = Unit {0}

-- by the bytes to come, the count of reads that failed, and what was pending, before and after
pub record ReadOn (result : Option Ending) (had left : Option (List ℕ)) (before now : ℕ) (old new : List ℕ) : Type 0 where
  pub piece : List ℕ
  pub reads : Consumes had left piece
  pub says : SaysRead result left before now old new piece
