-- The labels of a site's levels as they are kept.
use Rattle.std.specs.Prelude.{ℕ, Bool, false, ◌==◌, ◌&&◌, List, length, Option, Some, None, map, position, slice_index_or}
use Rattle.std.specs.List.{find, range_with_len}
use Rattle.std.specs.Str.{bytes_eq}
use Rattle.lnfs_calipso.specs.Label.{Label}
use Rattle.lnfs_format.specs.Kinds.{writes}
use Rattle.lnfs_format.specs.declared.formats.FormatEntry.{FormatEntry}
use Rattle.lnfs_policy.specs.Policy.{Policy}
use Rattle.lnfs_world.specs.Outcome.{LabelRead, LevelOf, WrongFormat, BadLabel}
use Rattle.lnfs_world.specs.World.{Stored}
use Rattle.lnfs_site.specs.Site.{spelling, unspelled}

-- ---- tables of formats

-- a format's number and policy identifier, and the bytes that spell the label of each level in it, where it has a spelling
pub record Table : Type 0 where
  pub lfs : ℕ
  pub pi : ℕ
  pub rows : List (Option (List ℕ))

abbrev pub rows_of : FormatEntry → List Label → List (Option (List ℕ))
rows_of entry labels = map (writes entry.kind) labels

abbrev pub table_of : List Label → FormatEntry → Table
table_of labels entry = record { lfs = entry.lfs; pi = entry.pi; rows = rows_of entry labels }

abbrev pub is_table : (lfs pi : ℕ) → Table → Bool
is_table lfs pi t = t.lfs == lfs && t.pi == pi

abbrev pub is_spelled : List ℕ → Option (List ℕ) → Bool
is_spelled bytes None = false
is_spelled bytes (Some spelled) = bytes_eq spelled bytes

-- the first level that some bytes spell
abbrev pub level_by_table : Table → List ℕ → Option ℕ
level_by_table t bytes = position (is_spelled bytes) t.rows

abbrev pub level_or_bad : Option ℕ → LabelRead
level_or_bad (Some level) = LevelOf level
level_or_bad None = BadLabel

abbrev pub read_in_table : Option Table → List ℕ → LabelRead
read_in_table (Some t) bytes = level_or_bad (level_by_table t bytes)
read_in_table None bytes = WrongFormat

abbrev pub table_read : List Table → (lfs pi : ℕ) → List ℕ → LabelRead
table_read tables lfs pi bytes = read_in_table (find (is_table lfs pi) tables) bytes

-- ---- all that is kept

-- the label of each level in turn as the server writes it, and a table of each format
pub record Spellings : Type 0 where
  pub written : List Stored
  pub tables : List Table

abbrev pub written_of : Policy → List Stored
written_of p = map (spelling p) (range_with_len 0 (length p.labels))

abbrev pub spellings : Policy → Spellings
spellings p = record { written = written_of p; tables = map (table_of p.labels) p.formats }

-- the label of a level; a number past the end counts as level 0
abbrev pub spelled_at : List Stored → (level : ℕ) → Stored
spelled_at labels level = slice_index_or labels level (slice_index_or labels 0 unspelled)
