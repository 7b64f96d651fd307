-- When reading and writing of a format are inverse to each other.
use Rattle.std.specs.Prelude.{◌≡◌, ℕ, ◌<◌, ◌^◌, List, [], ◌∷◌, slice_index, Some, None}
use Rattle.lnfs_calipso.specs.Label.{Label, IsLabel}
use Rattle.lnfs_format.specs.Text.{comps_text}
use Rattle.lnfs_format.specs.Kinds.{reads_name, writes_name, reads, writes}
use Rattle.lnfs_format.specs.declared.kind.NameRow.{NameRow}
use Rattle.lnfs_format.specs.declared.kind.Kind.{Kind}
use Rattle.lnfs_format.specs.declared.kind.Kind.TheVariants.{Calipso, Text, Name, Long}

-- no two rows have one label or the same bytes
abbrev pub IsTable : List NameRow → Type 0
IsTable [] = Unit {0}
IsTable (row ∷ rows) = (writes_name rows row.label ≡ None) × (reads_name rows row.bytes ≡ None) × IsTable rows

-- the DOI of a text has 32 bits, and names are a table
abbrev pub IsFormat : Kind → Type 0
IsFormat Calipso = Unit {0}
IsFormat (Text doi) = doi < 2 ^ 32
IsFormat (Name rows) = IsTable rows
IsFormat Long = Unit {0}

-- each is a byte
abbrev pub AreBytes : List ℕ → Type 0
AreBytes bytes = (k : ℕ) → slice_index bytes k < 256

-- a label that some bytes are read as is written as these bytes
abbrev pub WrittenBack : Type 0
WrittenBack = (kind : Kind) → IsFormat kind → (bytes : List ℕ) → AreBytes bytes → (label : Label) → reads kind bytes ≡ Some label → writes kind label ≡ Some bytes

-- and the bytes that a label is written as are read as this label
abbrev pub ReadBack : Type 0
ReadBack = (kind : Kind) → IsFormat kind → (label : Label) → IsLabel label → (bytes : List ℕ) → writes kind label ≡ Some bytes → reads kind bytes ≡ Some label

-- a label of this DOI and this sensitivity, whose compartments these bytes are
pub record IsComps (doi sens : ℕ) (label : Label) (bytes : List ℕ) : Type 0 where
  pub doi_is : label.doi ≡ doi
  pub sens_is : label.sens ≡ sens
  pub label_is : IsLabel label
  pub text_is : comps_text label.comps ≡ bytes
