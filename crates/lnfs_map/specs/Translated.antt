-- The translation of some bytes from one format to another: the level that they spell in the one, as the other spells it.
use Rattle.std.specs.Prelude.{◌≡◌, ℕ, List, Option, Some, None, Result, Ok, Err}
use Rattle.std.specs.Global.{Vec}
use Rattle.lnfs_calipso.specs.Label.{Label}
use Rattle.lnfs_format.specs.Entries.{entry_of}
use Rattle.lnfs_format.specs.LevelRead.{level_read}
use Rattle.lnfs_format.specs.LevelWritten.{level_written}
use Rattle.lnfs_format.specs.declared.formats.FormatEntry.{FormatEntry}
use Rattle.lnfs_format.specs.declared.formats.Pair.{Pair}
use Rattle.lnfs_format.specs.declared.formats.ReadError.{ReadError}
use Rattle.lnfs_format.specs.declared.formats.WriteError.{WriteError}
use Rattle.lnfs_map.specs.Errors.{of_reading, of_writing}
use Rattle.lnfs_map.specs.declared.table.MapError.{MapError}
use Rattle.lnfs_map.specs.declared.table.MapError.TheVariants.{WrongLfs, BadLabel, NoRow, Memory}

-- the bytes that were written
abbrev pub written : Result (List ℕ) WriteError → Result (List ℕ) MapError
written (Ok bytes) = Ok bytes
written (Err error) = Err (of_writing error)

-- what is written of the level that was read
abbrev pub passed_on : Result ℕ ReadError → (ℕ → Result (List ℕ) WriteError) → Result (List ℕ) MapError
passed_on (Ok level) write = written (write level)
passed_on (Err error) write = Err (of_reading error)

-- where there is such a format
abbrev pub into : Option FormatEntry → Result (List ℕ) MapError → Result (List ℕ) MapError
into (Some target) bytes = bytes
into None bytes = Err WrongLfs

-- the bytes that spell in one format the label that some bytes spell in another
unfoldable pub translated : List FormatEntry → List Label → (source target : Pair) → List ℕ → Result (List ℕ) MapError
translated entries labels source target bytes =
    into (entry_of entries target.lfs target.pi)
    (passed_on (level_read entries labels source.lfs source.pi bytes) (level_written entries labels target.lfs target.pi))

-- an answer is what is told, or want of memory
abbrev pub IsTranslated : Result (Vec ℕ) MapError → Result (List ℕ) MapError → Type 0
IsTranslated (Ok bytes) told = told ≡ Ok bytes.items
IsTranslated (Err WrongLfs) told = told ≡ Err WrongLfs
IsTranslated (Err BadLabel) told = told ≡ Err BadLabel
IsTranslated (Err NoRow) told = told ≡ Err NoRow
IsTranslated (Err Memory) told = Unit {0}
