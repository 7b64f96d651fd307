-- What operations look at of a policy, and the world that stands before all events.
use Rattle.std.specs.Prelude.{ℕ, Bool, true, false, cond, List, [], length, Option, Some, None, Result, Ok, Err, map, slice_get, nat_le}
use Rattle.lnfs_calipso.specs.Label.{label_at}
use Rattle.lnfs_format.specs.Kinds.{writes}
use Rattle.lnfs_format.specs.LevelRead.{level_read}
use Rattle.lnfs_format.specs.declared.formats.ReadError.{ReadError}
use Rattle.lnfs_format.specs.declared.formats.ReadError.TheVariants as errors
use Rattle.lnfs_format.specs.declared.formats.TheConstants.{MAX_SPELLING}
use Rattle.lnfs_format.specs.declared.formats.FormatEntry.{FormatEntry}
use Rattle.lnfs_policy.specs.Policy.{Policy, dominance, limit_of}
use Rattle.lnfs_policy.specs.declared.mode.Mode.{Mode}
use Rattle.lnfs_policy.specs.declared.mode.Mode.TheVariants.{Enforcing, Limited}
use Rattle.lnfs_policy.specs.declared.rows.DirLine.{DirLine}
use Rattle.lnfs_world.specs.World.{Stored, World}
use Rattle.lnfs_world.specs.First.{FirstDir, first_tree}
use Rattle.lnfs_world.specs.Outcome.{LabelRead, LevelOf, WrongFormat, BadLabel, Site}

abbrev pub is_limited : Mode → Bool
is_limited Enforcing = false
is_limited Limited = true

-- ---- labels

-- no label: the number and the identifier of no format, and no bytes
abbrev pub unspelled : Stored
unspelled = record { lfs = 0; pi = 0; bytes = [] }

abbrev pub spelled_as : FormatEntry → Option (List ℕ) → Stored
spelled_as entry None = unspelled
spelled_as entry (Some bytes) = cond (nat_le (length bytes) MAX_SPELLING) (record { lfs = entry.lfs; pi = entry.pi; bytes = bytes }) unspelled

abbrev pub spelled_in : Policy → (level : ℕ) → Option FormatEntry → Stored
spelled_in p level None = unspelled
spelled_in p level (Some entry) = spelled_as entry (writes entry.kind (label_at p.labels level))

-- The label of a level in the first format, in which a server writes. A policy that is read has one that spells each of
-- its levels.
unfoldable pub spelling : Policy → (level : ℕ) → Stored
spelling p level = spelled_in p level (slice_get p.formats 0)

-- The level of a label in any format of the site. Where labels are carried alone, every label is taken that isn't too long.
abbrev pub told_by : Result ℕ ReadError → LabelRead
told_by (Ok level) = LevelOf level
told_by (Err errors.WrongLfs) = WrongFormat
told_by (Err errors.BadLabel) = BadLabel
told_by (Err errors.Memory) = BadLabel

abbrev pub carried : Stored → LabelRead
carried s = cond (nat_le (length s.bytes) MAX_SPELLING) (LevelOf 0) BadLabel

abbrev pub reading : Policy → Stored → LabelRead
reading p s = cond (is_limited p.mode) (carried s) (told_by (level_read p.formats p.labels s.lfs s.pi s.bytes))

-- ---- what operations look at

abbrev pub site_of : Policy → Site
site_of p = record {
  dom = dominance p;
  levels = length p.labels;
  limited = is_limited p.mode;
  nodes = λ level. (limit_of p level).nodes;
  bytes = λ level. (limit_of p level).bytes;
  spelling = spelling p;
  reading = reading p;
}

-- ---- the first world

-- Under a limited policy all levels are 0, and a node bears its label as bytes: in the first format to begin with.
abbrev pub first_label : Policy → (level : ℕ) → Option Stored
first_label p level = cond (is_limited p.mode) (Some (spelling p level)) None

abbrev pub first_dir : Policy → DirLine → FirstDir
first_dir p line = record { path = line.path; level = cond (is_limited p.mode) 0 line.level.0; stored = first_label p line.level.0 }

-- the root, and the directory of each line in turn
unfoldable pub first_world : Policy → World
first_world p = first_tree (dominance p) (first_label p 0) (map (first_dir p) p.dirs)
