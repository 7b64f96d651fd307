-- The rules of a line of the policy file after the lines before it: one definition for each kind.
use Rattle.std.specs.Prelude.{ℕ, ◌==◌, ◌&&◌, ◌||◌, Bool, true, false, not, if◌then◌else◌, nat_lt, nat_le, List, length, Option, Some, None, option_map, find}
use Rattle.std.specs.List.{list_any, list_all, slice_index_or}
use Rattle.lnfs_calipso.specs.Label.{Label, dominates, dom_of}
use Rattle.lnfs_calipso.specs.Same.{same_label}
use Rattle.lnfs_calipso.specs.declared.lattice.TheConstants.{MAX_LEVELS}
use Rattle.lnfs_format.specs.Entries.{is_pair}
use Rattle.lnfs_format.specs.declared.formats.TheConstants.{MAX_FORMATS, MAX_SPELLING}
use Rattle.std.specs.Str.{bytes_eq}
use Rattle.lnfs_words.specs.Words.{is_empty}
use Rattle.lnfs_words.specs.Hex.{lower_hex_of, lower_hex_sized}
use Rattle.lnfs_words.specs.Paths.{is_path, parent_of}
use Rattle.lnfs_policy.specs.Line.{Line, version_line, mode_line, level_line, format_line, name_line, parent_line, guest_line, quota_line, dir_line}
use Rattle.lnfs_policy.specs.Rows.{label_of, spelling_of, version_of, labels_of, rows_of, names_of, parents_of, quotas_of, dirs_of}
use Rattle.lnfs_policy.specs.declared.fits.TheConstants.{MAX_CLASS, MAX_DIRS}
use Rattle.lnfs_policy.specs.declared.rows.Spelling.{Spelling}
use Rattle.lnfs_policy.specs.declared.rows.Spelling.TheVariants as spelling
use Rattle.lnfs_policy.specs.declared.rows.FormatRow.{FormatRow}
use Rattle.lnfs_policy.specs.declared.rows.LevelName.{LevelName}
use Rattle.lnfs_policy.specs.declared.rows.Parent.{Parent}
use Rattle.lnfs_policy.specs.declared.rows.Quota.{Quota}
use Rattle.lnfs_policy.specs.declared.rows.DirLine.{DirLine}

abbrev pub is_known : List Label → (level : ℕ) → Bool
is_known labels level = nat_lt level (length labels)

-- ---- level

-- there is room, and the label is new
unfoldable pub is_next : List Label → Label → Bool
is_next labels label = nat_lt (length labels) MAX_LEVELS && not (list_any (λ l. same_label l label) labels)

-- what version 1 asks beside it: the label dominates the first, and has no compartment above 255
unfoldable pub is_narrow : List Label → Label → Bool
is_narrow labels label = dominates label (slice_index_or labels 0 label) && list_all (λ c. nat_lt c 256) label.comps

-- version 2, or what version 1 asks
abbrev pub in_version : Option ℕ → (first : Bool) → Bool
in_version None first = first
in_version (Some version) first = nat_lt 1 version || first

abbrev pub level_fits : (version : Option ℕ) → List Label → (place : ℕ) → Option Label → Bool
level_fits version labels place None = false
level_fits version labels place (Some label) =
    place == length labels && is_next labels label && in_version version (is_narrow labels label)

-- ---- format

-- version 1 has no long texts
abbrev pub is_old : Spelling → Bool
is_old spelling.Long = false
is_old spelling = true

abbrev pub kind_fits : (version : Option ℕ) → Option Spelling → Bool
kind_fits version None = false
kind_fits version (Some spelling) = in_version version (is_old spelling)

abbrev pub format_fits : List FormatRow → (lfs pi : ℕ) → Bool
format_fits rows lfs pi = nat_lt (length rows) MAX_FORMATS && not (list_any (λ row. is_pair lfs pi row.pair) rows)

-- ---- name

abbrev pub is_table : Spelling → Bool
is_table spelling.Calipso = false
is_table spelling.Text = false
is_table spelling.Name = true
is_table spelling.Long = false

-- one of the two has the level or the bytes of the other
abbrev pub clashes : (lfs pi level : ℕ) → List ℕ → LevelName → Bool
clashes lfs pi level bytes name = is_pair lfs pi name.pair && (name.level.0 == level || bytes_eq name.bytes bytes)

unfoldable pub name_fits : List Label → List FormatRow → List LevelName → (lfs pi level : ℕ) → Option (List ℕ) → Bool
name_fits labels rows names lfs pi level None = false
name_fits labels rows names lfs pi level (Some bytes) =
    list_any (λ row. is_pair lfs pi row.pair && is_table row.spelling) rows
    && is_known labels level
    && not (list_any (clashes lfs pi level bytes) names)
    && nat_le 1 (length bytes) && nat_le (length bytes) MAX_SPELLING

-- ---- parent

abbrev pub is_taken : List Parent → (number : ℕ) → Bool
is_taken parents number = list_any (λ parent. parent.number == number) parents

abbrev pub parent_fits : List Label → (taken : Bool) → Option (List ℕ) → (level : ℕ) → Bool
parent_fits labels taken None level = false
parent_fits labels taken (Some secret) level = not taken && is_known labels level

-- ---- guest

abbrev pub guest_fits : List Label → (class level : ℕ) → Bool
guest_fits labels class level = nat_le class MAX_CLASS && is_known labels level

-- ---- quota

abbrev pub quota_fits : List Label → List Quota → (level : ℕ) → Bool
quota_fits labels quotas level = is_known labels level && not (list_any (λ quota. quota.level.0 == level) quotas)

-- ---- dir

-- the level of the directory of a path that was made before; the root has level 0
abbrev pub level_at : List DirLine → List ℕ → Option ℕ
level_at dirs path = if is_empty path then Some 0 else option_map (λ dir. dir.level.0) (find (λ dir. bytes_eq dir.path path) dirs)

abbrev pub is_above : List Label → (level : ℕ) → Option ℕ → Bool
is_above labels level None = false
is_above labels level (Some parent) = dom_of labels level parent

unfoldable pub dir_fits : List Label → List DirLine → (path : List ℕ) (level : ℕ) → Bool
dir_fits labels dirs path level =
    is_path path && nat_lt (length dirs) MAX_DIRS && is_known labels level
    && not (list_any (λ dir. bytes_eq dir.path path) dirs)
    && is_above labels level (level_at dirs (parent_of path))

-- ---- a line after those before it

abbrev pub fits : List Line → Line → Bool
fits before (version_line version) = true
fits before (mode_line mode) = true
fits before (level_line place doi sens comps) = level_fits (version_of before) (labels_of before) place (label_of doi sens comps)
fits before (format_line lfs pi word) = kind_fits (version_of before) (spelling_of word) && format_fits (rows_of before) lfs pi
fits before (name_line lfs pi level hex) = name_fits (labels_of before) (rows_of before) (names_of before) lfs pi level (lower_hex_of hex)
fits before (parent_line number hex level) = parent_fits (labels_of before) (is_taken (parents_of before) number) (lower_hex_sized 32 hex) level
fits before (guest_line class uid level) = guest_fits (labels_of before) class level
fits before (quota_line level nodes bytes) = quota_fits (labels_of before) (quotas_of before) level
fits before (dir_line path level) = dir_fits (labels_of before) (dirs_of before) path level
