-- What stands before a fault can be continued, so that the item at the fault is the first of which no continuation is there.
use Rattle.std.specs.Prelude.{◌≡◌, ℕ, ◌<◌, ◌^◌, true, MatchBool, List, ◌++◌, take}
use Rattle.lnfs_xdr.specs.Format.{Format, Word, Long, Boolean, Count, Among, LongAmong, Byte, Opaque, OpaqueOf, Fixed, Raw, Outside, Done, If, Then, Linked, Spells}
use Rattle.lnfs_answers.specs.declared.types.Awaits.{Awaits}
use Rattle.lnfs_answers.specs.declared.types.Said.{Said}
use Rattle.lnfs_answers.specs.Grammar.{number_of}
use Rattle.lnfs_answers.specs.Whole.{CanSucceed, IsAnswer}

-- Whatever has been read of the format, it goes on.
abbrev pub GoesOn : {E A : Type 0} → Format E A → Type 0
GoesOn Word = Unit {0}
GoesOn Long = Unit {0}
GoesOn Boolean = Unit {0}
GoesOn (Count max) = Unit {0}
GoesOn (Among test) = (n : ℕ) × (test n ≡ true) × (n < 2 ^ 32)
GoesOn (LongAmong test) = (n : ℕ) × (test n ≡ true) × (n < 2 ^ 64)
GoesOn (Byte test) = (n : ℕ) × (test n ≡ true) × (n < 256)
GoesOn (Opaque max) = Unit {0}
GoesOn (OpaqueOf test) = (n : ℕ) × (test n ≡ true) × (n < 2 ^ 32)
GoesOn (Fixed n) = Unit {0}
GoesOn (Raw n) = Unit {0}
GoesOn (Outside e) = ⊥
GoesOn (Done x) = Unit {0}
GoesOn (If b f g) = MatchBool b (GoesOn f) (GoesOn g)
GoesOn (Then {A} f k) = GoesOn f × ((a : A) (front : List ℕ) → Spells f a front → GoesOn (k a))
GoesOn (Linked f) = GoesOn f

-- the operation can succeed, and its number is a word
abbrev pub IsAwaited : Awaits → Type 0
IsAwaited a = CanSucceed a × (number_of a < 2 ^ 32)

-- The bytes before the offset are the front of an answer.
abbrev pub IsContinued : List Awaits → List ℕ → ℕ → Type 0
IsContinued awaited bytes at = (s : Said) × (more : List ℕ) × IsAnswer awaited s (take at bytes ++ more)
