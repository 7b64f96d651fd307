-- What a call did of what is due: all that a layer says of the outside, in one record.
use Rattle.std.specs.Prelude.{◌≡◌, ◌≤◌, ◌⊎◌, ℕ, List, [], Result, IfSome, IfErr, IfOk, IsSome, OnOk}
use Rattle.std.specs.Global.{Vec}
use Rattle.std.specs.Io.{ReadsAtMost}
use Rattle.std.specs.Io.KnownBytes.{ReadConsumes}
use Rattle.std.specs.declared.option.Option.{Option}
use Rattle.std.specs.declared.option.Option.TheVariants.{Some, None}
use Rattle.lnfs_outside.specs.Causes.{Rose}
use Rattle.lnfs_outside.specs.Bytes.{Told, Puts}
use Rattle.lnfs_stage.specs.declared.ending.Ending.{Ending}
use Rattle.lnfs_stage.specs.declared.ending.Ending.TheVariants.{NoFile}
use Rattle.lnfs_stage.specs.declared.stop.Stop.{Stop}
use Rattle.lnfs_stage.specs.declared.stop.Stop.TheVariants.{Ends, ReadFault, WriteFault, NetFault, Memory}
use Rattle.lnfs_stage.specs.declared.status.Status.{Status}
use Rattle.lnfs_stage.specs.declared.status.Status.TheVariants as status
use Rattle.lnfs_stage.specs.Seen.{Stream, Seen, Stays, HandsOn}
use Rattle.lnfs_stage.specs.Ending.{status_of, told_by}
use Rattle.lnfs_stage.specs.Writes.{Takes, TakesFront}
use Rattle.lnfs_stage.specs.Due.{Due, written, given}

-- the ending that a call told; it gave up where it told none
abbrev pub ended : {T : Type 0} → Result T Stop → Option (Option Ending)
ended result = told_by (status_of result)

-- the count that a fault names rose; the first two are that of the net
abbrev pub IsExcused : (net net' : ℕ) → Stop → Seen → Seen → Type 0
IsExcused net net' (Ends ending) before after = Unit {0}
IsExcused net net' ReadFault before after = Rose before.faults after.faults
IsExcused net net' WriteFault before after = Rose before.out.faults after.out.faults ⊎ Rose before.audit.faults after.audit.faults
IsExcused net net' NetFault before after = Rose net net'
IsExcused net net' Memory before after = Unit {0}

-- it told the ending that is due, and the streams took all that is due; or it gave up, and they took a front of it
pub record DoesBy {T : Type 0} (net net' : ℕ) (result : Result T Stop) (before after : Seen) (due : Due) : Type 0 where
  pub whole : IfSome (ended result) (λ ending. (ending ≡ due.ending) × Takes before after due.writes)
  pub begun : TakesFront before after due.writes
  pub stays : Stays before after
  pub excused : IfErr result (λ stop. IsExcused net net' stop before after)

-- the same of a call that isn't given the net, and never says NetFault
abbrev pub Does : {T : Type 0} → Result T Stop → Seen → Seen → Due → Type 0
Does {T} result before after due = DoesBy {T = T} 0 0 result before after due

-- a file of the name holds this, or there is none, as far as contents are told
abbrev pub Holds : Told → List ℕ → Option (List ℕ) → Type 0
Holds content name found = IfSome content (λ look. look name ≡ found)

-- a call of the files alone gave up, and the count that it names rose
abbrev pub Finds : Stop → ℕ → ℕ → Type 0
Finds (Ends ending) before after = ⊥
Finds ReadFault before after = Rose before after
Finds WriteFault before after = ⊥
Finds NetFault before after = ⊥
Finds Memory before after = Unit {0}

-- the same where it may tell that there is no file of the name
abbrev pub FindsOr : Stop → (name : List ℕ) → Option (List ℕ) → ℕ → ℕ → Type 0
FindsOr (Ends ending) name found before after = (ending ≡ NoFile name) × (found ≡ None)
FindsOr ReadFault name found before after = Rose before after
FindsOr WriteFault name found before after = ⊥
FindsOr NetFault name found before after = ⊥
FindsOr Memory name found before after = Unit {0}

-- it read the file of the name whole, or told that there is none
pub record Reads (result : Result (Vec ℕ) Stop) (before : Told) (faults : ℕ) (after : Told) (faults' : ℕ) (name : List ℕ) : Type 0 where
  pub found : Option (List ℕ)
  pub held : Holds before name found
  pub text : IfOk result (λ bytes. found ≡ Some bytes.items)
  pub excused : IfErr result (λ stop. FindsOr stop name found faults faults')
  pub later : faults ≤ faults'
  pub content : after ≡ before

-- the same of the outside
pub record ReadsIn (result : Result (Vec ℕ) Stop) (before after : Seen) (name : List ℕ) : Type 0 where
  pub found : Option (List ℕ)
  pub held : Holds before.content name found
  pub does : Does result before after (given found name (λ text. written []))
  pub text : IfOk result (λ bytes. found ≡ Some bytes.items)

-- it made the file of the name current, or told that there is none
pub record Finding {T : Type 0} (result : Result T Stop) (before : Told) (faults : ℕ) (after : Told) (left : Option (List ℕ)) (faults' : ℕ) (name : List ℕ) : Type 0 where
  pub found : Option (List ℕ)
  pub held : Holds before name found
  pub some : IfOk result (λ done. IsSome found × IfSome before (λ look. found ≡ left))
  pub excused : IfErr result (λ stop. FindsOr stop name found faults faults')
  pub later : faults ≤ faults'
  pub content : after ≡ before

-- the same of the outside
pub record OpensIn {T : Type 0} (result : Result T Stop) (before after : Seen) (name : List ℕ) : Type 0 where
  pub found : Option (List ℕ)
  pub held : Holds before.content name found
  pub some : IfOk result (λ done. IsSome found × IfSome before.content (λ look. found ≡ after.left))
  pub does : Does result before after (given found name (λ text. written []))

-- it read the next bytes of the current file
pub record ReadsPiece (result : Result ℕ Stop) (before after : Seen) (buf : List ℕ) : Type 0 where
  pub does : Does result before after (written [])
  pub bound : ReadsAtMost result buf
  pub bytes : ReadConsumes before.left after.left result buf

-- it did what is due for what was left of the current file
pub record DoesLeft {T : Type 0} (result : Result T Stop) (before after : Seen) (due : List ℕ → Due) : Type 0 where
  pub text : List ℕ
  pub was_left : IfSome before.left (λ left. text ≡ left)
  pub does : Does result before after (due text)

-- a stream handed on all that it took
pub record HandsAll {T : Type 0} (result : Result T Stop) (before after : Stream) : Type 0 where
  pub taken : after.taken ≡ before.taken
  pub handed : OnOk result (after.waiting ≡ [])
  pub rests : HandsOn after.waiting before.faults after.faults
  pub later : before.faults ≤ after.faults
  pub excused : IfErr result (λ stop. (stop ≡ WriteFault) × Rose before.faults after.faults)

-- both streams hold nothing back, where it didn't give up; and else neither does, unless a call of it failed
pub record HandedOn {T : Type 0} (result : Result T Stop) (before after : Seen) : Type 0 where
  pub all : IfSome (ended result) (λ ending. (after.out.waiting ≡ []) × (after.audit.waiting ≡ []))
  pub out : HandsOn after.out.waiting before.out.faults after.out.faults
  pub audit : HandsOn after.audit.waiting before.audit.faults after.audit.faults

-- a call of the streams alone: it left the files alone, and where it gave up a stream failed
pub record Beside {T F : Type 0} (result : Result T Stop) (before after : Seen) (shelf shelf' : F) : Type 0 where
  pub files : shelf' ≡ shelf
  pub left : after.left ≡ before.left
  pub stopped : IfErr result (λ stop. stop ≡ WriteFault)

-- a line was put behind all that the other stream took
pub record PutsLine {T : Type 0} (result : Result T Stop) (out audit out' audit' : Stream) (line : List ℕ) : Type 0 where
  pub kept : out'.taken ≡ out.taken
  pub puts : Puts audit.taken audit'.taken result line
  pub out_later : out.faults ≤ out'.faults
  pub audit_later : audit.faults ≤ audit'.faults
  pub excused : IfErr result (λ stop. (stop ≡ WriteFault) × (Rose out.faults out'.faults ⊎ Rose audit.faults audit'.faults))

-- a stream failed, or there was no memory
abbrev pub IsLate : Status → Type 0
IsLate status.WriteFault = Unit {0}
IsLate status.Memory = Unit {0}
IsLate status.Ok = ⊥
IsLate (status.Ends ending) = ⊥
IsLate status.ReadFault = ⊥
IsLate status.NetFault = ⊥

-- the status of a run by that of what came before its line: the same, or the line, or what both streams held, wasn't handed on
abbrev pub Becomes : Status → Status → Type 0
Becomes before after = (after ≡ before) ⊎ (IsSome (told_by before) × IsLate after)
