-- Adding a format to those of a site.
use Rattle.std.specs.Prelude.{◌≡◌, ◌<◌, ◌≤◌, List, [], ◌∷◌, ◌++◌, length, None, IsSome, Result, Ok, Err}
use Rattle.lnfs_format.specs.declared.formats.FormatEntry.{FormatEntry}
use Rattle.lnfs_format.specs.declared.formats.AddError.{AddError}
use Rattle.lnfs_format.specs.declared.formats.AddError.TheVariants.{Taken, TooMany, Memory}
use Rattle.lnfs_format.specs.declared.formats.TheConstants.{MAX_FORMATS}
use Rattle.lnfs_format.specs.Entries.{entry_of}

-- the format stands last where its pair is new and there were fewer than eight; else the first test that fails says why
abbrev pub Adds : List FormatEntry → FormatEntry → List FormatEntry → Result (Unit {0}) AddError → Type 0
Adds old entry new (Ok _) = (entry_of old entry.lfs entry.pi ≡ None) × (length old < MAX_FORMATS) × (new ≡ old ++ entry ∷ [])
Adds old entry new (Err Taken) = IsSome (entry_of old entry.lfs entry.pi) × (new ≡ old)
Adds old entry new (Err TooMany) = (entry_of old entry.lfs entry.pi ≡ None) × (MAX_FORMATS ≤ length old) × (new ≡ old)
Adds old entry new (Err Memory) = new ≡ old
