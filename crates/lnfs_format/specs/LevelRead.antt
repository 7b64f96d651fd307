-- Reading the level of some bytes.
use Rattle.std.specs.Prelude.{◌≡◌, ℕ, List, Option, Some, None, Result, Ok, Err}
use Rattle.lnfs_calipso.specs.Label.{Label}
use Rattle.lnfs_calipso.specs.Same.{level_of}
use Rattle.lnfs_calipso.specs.declared.Level.{Level}
use Rattle.lnfs_format.specs.Kinds.{reads}
use Rattle.lnfs_format.specs.Entries.{entry_of}
use Rattle.lnfs_format.specs.declared.formats.FormatEntry.{FormatEntry}
use Rattle.lnfs_format.specs.declared.formats.ReadError.{ReadError}
use Rattle.lnfs_format.specs.declared.formats.ReadError.TheVariants.{WrongLfs, BadLabel, Memory}

abbrev pub or_bad : Option ℕ → Result ℕ ReadError
or_bad (Some level) = Ok level
or_bad None = Err BadLabel

-- the level of a label that was read
abbrev pub level_in : List Label → Option Label → Result ℕ ReadError
level_in labels (Some label) = or_bad (level_of labels label)
level_in labels None = Err BadLabel

abbrev pub read_in : Option FormatEntry → List Label → List ℕ → Result ℕ ReadError
read_in (Some entry) labels bytes = level_in labels (reads entry.kind bytes)
read_in None labels bytes = Err WrongLfs

-- the level whose label some bytes spell in a format
unfoldable pub level_read : List FormatEntry → List Label → ℕ → ℕ → List ℕ → Result ℕ ReadError
level_read entries labels lfs pi bytes = read_in (entry_of entries lfs pi) labels bytes

-- an answer is what is told, or want of memory
abbrev pub IsRead : Result Level ReadError → Result ℕ ReadError → Type 0
IsRead (Ok level) told = told ≡ Ok level.0
IsRead (Err WrongLfs) told = told ≡ Err WrongLfs
IsRead (Err BadLabel) told = told ≡ Err BadLabel
IsRead (Err Memory) told = Unit {0}
