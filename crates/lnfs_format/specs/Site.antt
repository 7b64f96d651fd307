-- What holds of a site's labels and formats.
use Rattle.std.specs.Prelude.{◌≡◌, ℕ, List, Some, All}
use Rattle.lnfs_calipso.specs.Label.{Label, IsLabel}
use Rattle.lnfs_format.specs.Entries.{entry_of}
use Rattle.lnfs_format.specs.Laws.{IsFormat}
use Rattle.lnfs_format.specs.declared.formats.FormatEntry.{FormatEntry}

-- Each format that a pair names is one: the DOI of a text has 32 bits, and no two names have one label or the same bytes.
abbrev pub AreFormats : List FormatEntry → Type 0
AreFormats entries = (lfs pi : ℕ) (entry : FormatEntry) → entry_of entries lfs pi ≡ Some entry → IsFormat entry.kind

-- The labels are labels, and the formats are formats.
pub record IsSite (entries : List FormatEntry) (labels : List Label) : Type 0 where
  pub labels_are : All IsLabel labels
  pub formats_are : AreFormats entries
