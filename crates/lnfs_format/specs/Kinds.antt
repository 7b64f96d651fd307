-- What a format of each kind reads, and what it writes.
use Rattle.std.specs.Prelude.{◌≡◌, ℕ, List, [], ◌∷◌, Option, Some, None, Result, if◌then◌else◌}
use Rattle.std.specs.Option.{option_map}
use Rattle.std.specs.Result.{ForOk}
use Rattle.std.specs.Global.{Vec}
use Rattle.lnfs_calipso.specs.Label.{Label}
use Rattle.std.specs.Str.{bytes_eq}
use Rattle.lnfs_calipso.specs.Same.{same_label}
use Rattle.lnfs_calipso.specs.Body.{body_of, label_of_body}
use Rattle.lnfs_format.specs.Reading.{reads_text, writes_text}
use Rattle.lnfs_format.specs.Long.{reads_long, writes_long}
use Rattle.lnfs_format.specs.declared.kind.NameRow.{NameRow}
use Rattle.lnfs_format.specs.declared.kind.Kind.{Kind}
use Rattle.lnfs_format.specs.declared.kind.Kind.TheVariants.{Calipso, Text, Name, Long}

abbrev pub number_of : Kind → ℕ
number_of Calipso = 0
number_of (Text doi) = 1
number_of (Name rows) = 2
number_of Long = 3

-- the label of the first row with these bytes
abbrev pub reads_name : List NameRow → List ℕ → Option Label
reads_name [] bytes = None
reads_name (row ∷ rows) bytes = if bytes_eq row.bytes bytes then Some row.label else reads_name rows bytes

-- the bytes of the first row with this label
abbrev pub writes_name : List NameRow → Label → Option (List ℕ)
writes_name [] label = None
writes_name (row ∷ rows) label = if same_label row.label label then Some row.bytes else writes_name rows label

-- the label that some bytes spell
unfoldable pub reads : Kind → List ℕ → Option Label
reads Calipso bytes = label_of_body bytes
reads (Text doi) bytes = reads_text doi bytes
reads (Name rows) bytes = reads_name rows bytes
reads Long bytes = reads_long bytes

-- the bytes that spell a label
unfoldable pub writes : Kind → Label → Option (List ℕ)
writes Calipso label = Some (body_of label)
writes (Text doi) label = writes_text doi label
writes (Name rows) label = writes_name rows label
writes Long label = writes_long label

-- an answer of a codec of this number: what the kind reads, or want of memory
abbrev pub ReadsAs : {E : Type 0} → ℕ → Kind → List ℕ → Result (Option Label) E → Type 0
ReadsAs number kind bytes result = number_of kind ≡ number → ForOk result (λ label. label ≡ reads kind bytes)

-- an answer of a codec of this number: what the kind writes, or want of memory
abbrev pub WritesAs : {E : Type 0} → ℕ → Kind → Label → Result (Option (Vec ℕ)) E → Type 0
WritesAs number kind label result = number_of kind ≡ number → ForOk result (λ text. option_map (λ v. v.items) text ≡ writes kind label)
