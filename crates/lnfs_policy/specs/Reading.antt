-- What stands while the lines are read: the tables of the reader. What is read with them is what the text spells.
use Rattle.std.specs.Prelude.{◌≡◌, ◌&&◌, ◌+◌, ℕ, Bool, true, false, not, if◌then◌else◌, nat_le, List, [], ◌∷◌, ◌++◌, Option, Some, None, is_some, Result, Ok, Err}
use Rattle.std.specs.Option.{unwrap_or, option_or}
use Rattle.std.specs.Ordering.{nat_cmp}
use Rattle.std.specs.BTreeMap.{is_at}
use Rattle.std.specs.Map.{lookup}
use Rattle.lnfs_calipso.specs.Label.{Label}
use Rattle.lnfs_words.specs.Words.{is_empty, newline, words, is_ascii, is_worded}
use Rattle.lnfs_words.specs.Hex.{lower_hex_of, lower_hex_sized}
use Rattle.lnfs_policy.specs.Line.{◌>>=◌, demand, Line, version_line, mode_line, level_line, format_line, name_line, parent_line, guest_line, quota_line, dir_line, line_of, rank, is_mode}
use Rattle.lnfs_policy.specs.Rows.{label_of, spelling_of, entries_of}
use Rattle.lnfs_policy.specs.Fits.{level_fits, kind_fits, format_fits, name_fits, parent_fits, guest_fits, quota_fits, dir_fits}
use Rattle.lnfs_policy.specs.Policy.{Policy, with_parent}
use Rattle.lnfs_policy.specs.PolicyText.{version_in_place, is_skipped, spells_all, Refused, told_at, is_end}
use Rattle.lnfs_format.specs.declared.formats.FormatEntry.{FormatEntry}
use Rattle.lnfs_policy.specs.declared.mode.Mode.{Mode}
use Rattle.lnfs_policy.specs.declared.mode.Mode.TheVariants.{Enforcing}
use Rattle.lnfs_policy.specs.declared.rows.Spelling.{Spelling}
use Rattle.lnfs_policy.specs.declared.rows.FormatRow.{FormatRow}
use Rattle.lnfs_policy.specs.declared.rows.LevelName.{LevelName}
use Rattle.lnfs_policy.specs.declared.rows.Parent.{Parent}
use Rattle.lnfs_policy.specs.declared.rows.Guest.{Guest}
use Rattle.lnfs_policy.specs.declared.rows.Quota.{Quota}
use Rattle.lnfs_policy.specs.declared.rows.DirLine.{DirLine}
use Rattle.lnfs_policy.specs.declared.cause.Cause.{Cause}
use Rattle.lnfs_policy.specs.declared.cause.Cause.TheVariants as because
use Rattle.lnfs_policy.specs.declared.cause.PolicyError.{PolicyError}
use Rattle.lnfs_policy.specs.declared.cause.PolicyError.TheVariants as error
use Rattle.lnfs_policy.specs.declared.cause.Stop.{Stop}
use Rattle.lnfs_policy.specs.declared.cause.Stop.TheVariants as stop

pub record Read : Type 0 where
  -- some line was read
  pub begun : Bool
  -- the rank of the last line
  pub stage : ℕ
  pub text : List ℕ
  pub version : Option ℕ
  pub mode : Option Mode
  pub labels : List Label
  pub rows : List FormatRow
  pub names : List LevelName
  pub parents : List (ℕ × Parent)
  pub guests : List Guest
  pub quotas : List Quota
  pub dirs : List DirLine

abbrev pub nothing : Read
nothing = record { begun = false; stage = 0; text = []; version = None; mode = None; labels = []; rows = []; names = []; parents = []; guests = []; quotas = []; dirs = [] }

-- ---- one more line, where it fits

-- the first version line counts
abbrev pub add_version : Read → ℕ → Result Read Cause
add_version read version = Ok (record read { version = option_or read.version (Some version) })

abbrev pub add_mode : Read → Mode → Result Read Cause
add_mode read mode = Ok (record read { mode = Some mode })

abbrev pub add_label : Read → (place : ℕ) → Option Label → Result Read Cause
add_label read place None = Err because.Level
add_label read place (Some label) = do
  _ ← demand (level_fits read.version read.labels place (Some label)) because.Level
  Ok (record read { labels = read.labels ++ label ∷ [] })

abbrev pub add_format : Read → (lfs pi : ℕ) → Option Spelling → Result Read Cause
add_format read lfs pi None = Err because.Format
add_format read lfs pi (Some spelling) = do
  _ ← demand (kind_fits read.version (Some spelling) && format_fits read.rows lfs pi) because.Format
  Ok (record read { rows = read.rows ++ record { pair = record { lfs = lfs; pi = pi }; spelling = spelling } ∷ [] })

abbrev pub add_name : Read → (lfs pi level : ℕ) → Option (List ℕ) → Result Read Cause
add_name read lfs pi level None = Err because.Name
add_name read lfs pi level (Some bytes) = do
  _ ← demand (name_fits read.labels read.rows read.names lfs pi level (Some bytes)) because.Name
  Ok (record read { names = read.names ++ record { pair = record { lfs = lfs; pi = pi }; level = record { 0 = level }; bytes = bytes } ∷ [] })

abbrev pub has_parent : List (ℕ × Parent) → (number : ℕ) → Bool
has_parent parents number = is_some (lookup (is_at (nat_cmp number)) parents)

abbrev pub add_parent : Read → (number : ℕ) → Option (List ℕ) → (level : ℕ) → Result Read Cause
add_parent read number None level = Err because.Parent
add_parent read number (Some secret) level = do
  _ ← demand (parent_fits read.labels (has_parent read.parents number) (Some secret) level) because.Parent
  Ok (record read { parents = with_parent read.parents (record { number = number; secret = secret; clearance = record { 0 = level } }) })

abbrev pub add_guest : Read → (class : ℕ) → (uid : Option ℕ) → (level : ℕ) → Result Read Cause
add_guest read class uid level = do
  _ ← demand (guest_fits read.labels class level) because.Guest
  Ok (record read { guests = read.guests ++ record { class = class; uid = uid; level = record { 0 = level } } ∷ [] })

abbrev pub add_quota : Read → (level nodes bytes : ℕ) → Result Read Cause
add_quota read level nodes bytes = do
  _ ← demand (quota_fits read.labels read.quotas level) because.Quota
  Ok (record read { quotas = read.quotas ++ record { level = record { 0 = level }; limit = record { nodes = nodes; bytes = bytes } } ∷ [] })

abbrev pub add_dir : Read → (path : List ℕ) → (level : ℕ) → Result Read Cause
add_dir read path level = do
  _ ← demand (dir_fits read.labels read.dirs path level) because.Dir
  Ok (record read { dirs = read.dirs ++ record { path = path; level = record { 0 = level } } ∷ [] })

abbrev pub add : Read → Line → Result Read Cause
add read (version_line version) = add_version read version
add read (mode_line mode) = add_mode read mode
add read (level_line place doi sens comps) = add_label read place (label_of doi sens comps)
add read (format_line lfs pi word) = add_format read lfs pi (spelling_of word)
add read (name_line lfs pi level hex) = add_name read lfs pi level (lower_hex_of hex)
add read (parent_line number hex level) = add_parent read number (lower_hex_sized 32 hex) level
add read (guest_line class uid level) = add_guest read class uid level
add read (quota_line level nodes bytes) = add_quota read level nodes bytes
add read (dir_line path level) = add_dir read path level

-- ---- a line of the text

abbrev pub stands : Read → Line → Bool
stands read line = nat_le read.stage (rank line) && not (is_mode line && is_some read.mode)

abbrev pub noted : Read → Line → List ℕ → Read
noted read line text = record read { begun = true; stage = rank line; text = read.text ++ text ++ newline ∷ [] }

abbrev pub judge_line : Read → (ended : Bool) → List ℕ → Result Read Cause
judge_line read ended text = do
  _ ← demand (version_in_place (not read.begun) text) because.Version
  _ ← demand (ended && is_worded text) because.Words
  line ← line_of (words text)
  _ ← demand (stands read line) because.Order
  added ← add read line
  Ok (noted added line text)

abbrev pub judge : Read → (ended : Bool) → List ℕ → Result Read Cause
judge read ended text =
    if is_skipped text then (demand (ended && is_ascii text) because.Words >>= (λ _. Ok read))
    else judge_line read ended text

-- ---- behind the last line

abbrev pub entries_in : Read → List FormatEntry
entries_in read = entries_of read.labels read.names read.rows

abbrev pub is_full : Read → Bool
is_full read = read.begun && is_some read.mode && not (is_empty read.labels) && spells_all (entries_in read) read.labels

abbrev pub finished : Read → Policy
finished read = record {
  text = read.text;
  version = unwrap_or read.version 1;
  mode = unwrap_or read.mode Enforcing;
  labels = read.labels;
  formats = entries_in read;
  parents = read.parents;
  guests = read.guests;
  quotas = read.quotas;
  dirs = read.dirs;
}

abbrev pub finish : Read → Result Policy Cause
finish read = do
  _ ← demand (is_full read) because.Missing
  Ok (finished read)

unfoldable pub read_from : (number : ℕ) → Read → List (List ℕ) → Result Policy Refused
read_from number read [] = told_at number (finish read) Ok
read_from number read (text ∷ others) =
    if is_end text others then told_at number (finish read) Ok
    else told_at number (judge read (not (is_empty others)) text) (λ next. read_from (number + 1) next others)

-- ---- why the reader stops

-- a line is refused, or memory is short
abbrev pub IsStop : {A : Type 0} → Result A Cause → Stop → Type 0
IsStop said (stop.Broken cause) = said ≡ Err cause
IsStop said stop.Memory = Unit {0}

abbrev pub error_at : (line : ℕ) → Stop → PolicyError
error_at line (stop.Broken cause) = error.Refused line cause
error_at line stop.Memory = error.Memory
