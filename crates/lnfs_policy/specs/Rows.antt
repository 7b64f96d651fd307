-- What the lines of a policy give: its labels, formats, names, parents, guests, quotas and directories, each in
-- the order of the lines.
use Rattle.std.specs.Prelude.{ℕ, nat_le, if◌then◌else◌, List, [], ◌∷◌, map, Option, Some, None, option_map, codes}
use Rattle.std.specs.List.{filter_map}
use Rattle.std.specs.Option.{option_or}
use Rattle.lnfs_calipso.specs.Label.{Label, label_at}
use Rattle.lnfs_format.specs.Entries.{is_pair}
use Rattle.lnfs_format.specs.Long.{label_with}
use Rattle.lnfs_format.specs.declared.kind.Kind.{Kind}
use Rattle.lnfs_format.specs.declared.kind.Kind.TheVariants as kind
use Rattle.lnfs_format.specs.declared.kind.NameRow.{NameRow}
use Rattle.lnfs_format.specs.declared.formats.FormatEntry.{FormatEntry}
use Rattle.std.specs.Str.{bytes_eq}
use Rattle.lnfs_words.specs.Hex.{lower_hex_of, lower_hex_sized}
use Rattle.lnfs_policy.specs.Line.{Line, version_line, mode_line, level_line, format_line, name_line, parent_line, guest_line, quota_line, dir_line}
use Rattle.lnfs_policy.specs.declared.mode.Mode.{Mode}
use Rattle.lnfs_policy.specs.declared.rows.Spelling.{Spelling}
use Rattle.lnfs_policy.specs.declared.rows.Spelling.TheVariants as spelling
use Rattle.lnfs_policy.specs.declared.rows.FormatRow.{FormatRow}
use Rattle.lnfs_policy.specs.declared.rows.LevelName.{LevelName}
use Rattle.lnfs_policy.specs.declared.rows.Parent.{Parent}
use Rattle.lnfs_policy.specs.declared.rows.Guest.{Guest}
use Rattle.lnfs_policy.specs.declared.rows.Quota.{Quota}
use Rattle.lnfs_policy.specs.declared.rows.DirLine.{DirLine}

-- ---- what one line gives

abbrev pub mode_in : Line → Option Mode
mode_in (mode_line mode) = Some mode
mode_in line = None

abbrev pub version_in : Line → Option ℕ
version_in (version_line version) = Some version
version_in line = None

-- `-` is no compartment, and other words are compartments as their maximal runs
unfoldable pub label_of : (doi sens : ℕ) (comps : List ℕ) → Option Label
label_of doi sens comps = if nat_le sens 255 then label_with doi sens comps else None

abbrev pub label_in : Line → Option Label
label_in (level_line place doi sens comps) = label_of doi sens comps
label_in line = None

abbrev pub spelling_of : List ℕ → Option Spelling
spelling_of word =
    if bytes_eq word (codes "calipso") then Some spelling.Calipso
    else (if bytes_eq word (codes "text") then Some spelling.Text
    else (if bytes_eq word (codes "name") then Some spelling.Name
    else (if bytes_eq word (codes "long") then Some spelling.Long else None)))

abbrev pub format_in : Line → Option FormatRow
format_in (format_line lfs pi word) = option_map (λ s. record { pair = record { lfs = lfs; pi = pi }; spelling = s }) (spelling_of word)
format_in line = None

abbrev pub name_in : Line → Option LevelName
name_in (name_line lfs pi level hex) = option_map (λ bytes. record { pair = record { lfs = lfs; pi = pi }; level = record { 0 = level }; bytes = bytes }) (lower_hex_of hex)
name_in line = None

abbrev pub parent_in : Line → Option Parent
parent_in (parent_line number hex level) = option_map (λ secret. record { number = number; secret = secret; clearance = record { 0 = level } }) (lower_hex_sized 32 hex)
parent_in line = None

abbrev pub guest_in : Line → Option Guest
guest_in (guest_line class uid level) = Some (record { class = class; uid = uid; level = record { 0 = level } })
guest_in line = None

abbrev pub quota_in : Line → Option Quota
quota_in (quota_line level nodes bytes) = Some (record { level = record { 0 = level }; limit = record { nodes = nodes; bytes = bytes } })
quota_in line = None

abbrev pub dir_in : Line → Option DirLine
dir_in (dir_line path level) = Some (record { path = path; level = record { 0 = level } })
dir_in line = None

-- ---- what all lines give

-- what the first line gives that gives it
abbrev pub first_of : {A : Type 0} → (Line → Option A) → List Line → Option A
first_of f [] = None
first_of f (line ∷ lines) = option_or (f line) (first_of f lines)

abbrev pub version_of : List Line → Option ℕ
version_of = first_of version_in

abbrev pub mode_of : List Line → Option Mode
mode_of = first_of mode_in

abbrev pub labels_of : List Line → List Label
labels_of = filter_map label_in

abbrev pub rows_of : List Line → List FormatRow
rows_of = filter_map format_in

abbrev pub names_of : List Line → List LevelName
names_of = filter_map name_in

abbrev pub parents_of : List Line → List Parent
parents_of = filter_map parent_in

abbrev pub guests_of : List Line → List Guest
guests_of = filter_map guest_in

abbrev pub quotas_of : List Line → List Quota
quotas_of = filter_map quota_in

abbrev pub dirs_of : List Line → List DirLine
dirs_of = filter_map dir_in

-- ---- the formats, each with its names

abbrev pub name_row : List Label → (lfs pi : ℕ) → LevelName → Option NameRow
name_row labels lfs pi name = if is_pair lfs pi name.pair then Some (record { label = label_at labels name.level.0; bytes = name.bytes }) else None

-- A text's DOI is the policy identifier.
abbrev pub kind_of : List Label → List LevelName → FormatRow → Spelling → Kind
kind_of labels names row spelling.Calipso = kind.Calipso
kind_of labels names row spelling.Text = kind.Text row.pair.pi
kind_of labels names row spelling.Name = kind.Name (filter_map (name_row labels row.pair.lfs row.pair.pi) names)
kind_of labels names row spelling.Long = kind.Long

abbrev pub entry_in : List Label → List LevelName → FormatRow → FormatEntry
entry_in labels names row = record { lfs = row.pair.lfs; pi = row.pair.pi; kind = kind_of labels names row row.spelling }

unfoldable pub entries_of : List Label → List LevelName → List FormatRow → List FormatEntry
entries_of labels names rows = map (entry_in labels names) rows

abbrev pub formats_of : List Line → List FormatEntry
formats_of lines = entries_of (labels_of lines) (names_of lines) (rows_of lines)
