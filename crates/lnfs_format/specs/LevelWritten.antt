-- Writing the label of a level.
use Rattle.std.specs.Prelude.{◌≡◌, ℕ, List, Option, Some, None, Result, Ok, Err}
use Rattle.std.specs.Global.{Vec}
use Rattle.lnfs_calipso.specs.Label.{Label, label_at}
use Rattle.lnfs_format.specs.Kinds.{writes}
use Rattle.lnfs_format.specs.Entries.{entry_of}
use Rattle.lnfs_format.specs.declared.formats.FormatEntry.{FormatEntry}
use Rattle.lnfs_format.specs.declared.formats.WriteError.{WriteError}
use Rattle.lnfs_format.specs.declared.formats.WriteError.TheVariants.{WrongLfs, NotInFormat, Memory}

abbrev pub or_none : Option (List ℕ) → Result (List ℕ) WriteError
or_none (Some bytes) = Ok bytes
or_none None = Err NotInFormat

abbrev pub written_in : Option FormatEntry → Label → Result (List ℕ) WriteError
written_in (Some entry) label = or_none (writes entry.kind label)
written_in None label = Err WrongLfs

-- the bytes that spell the label of a level in a format
unfoldable pub level_written : List FormatEntry → List Label → ℕ → ℕ → ℕ → Result (List ℕ) WriteError
level_written entries labels lfs pi level = written_in (entry_of entries lfs pi) (label_at labels level)

-- an answer is what is told, or want of memory
abbrev pub IsWritten : Result (Vec ℕ) WriteError → Result (List ℕ) WriteError → Type 0
IsWritten (Ok bytes) told = told ≡ Ok bytes.items
IsWritten (Err WrongLfs) told = told ≡ Err WrongLfs
IsWritten (Err NotInFormat) told = told ≡ Err NotInFormat
IsWritten (Err Memory) told = Unit {0}
