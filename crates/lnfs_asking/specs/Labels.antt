-- Labels as a client sends and reads them (RFC 7862 section 12.2.4).
use Rattle.std.specs.Prelude.{◌≤◌, ℕ, nat_le, if◌then◌else◌, List, [], ◌∷◌, length, Option, Some, None, Result, Ok, Err, slice_get}
use Rattle.lnfs_types.specs.declared.limits.TheConstants.{LABEL_LIMIT}
use Rattle.lnfs_calipso.specs.Label.{label_at}
use Rattle.lnfs_calipso.specs.declared.Level.{Level}
use Rattle.lnfs_format.specs.Kinds.{writes}
use Rattle.lnfs_format.specs.LevelRead.{level_read}
use Rattle.lnfs_format.specs.declared.formats.FormatEntry.{FormatEntry}
use Rattle.lnfs_format.specs.declared.formats.ReadError.{ReadError}
use Rattle.lnfs_policy.specs.Policy.{Policy}
use Rattle.lnfs_attrs.specs.declared.bitmap.Bitmap.{Bitmap}
use Rattle.lnfs_attrs.specs.declared.raw.RawAttrs.{RawAttrs}
use Rattle.lnfs_attrs.specs.declared.view.LabelValue.{LabelValue}
use Rattle.lnfs_attrs.specs.Attributes.{label_text}

-- ---- the label of a level, as it is asserted and set: in the first format of the policy

-- no label: the number and the identifier of no format, and no bytes
abbrev pub unspelled : LabelValue
unspelled = record { lfs = 0; pi = 0; bytes = [] }

abbrev pub spelled_as : FormatEntry → Option (List ℕ) → LabelValue
spelled_as entry None = unspelled
spelled_as entry (Some bytes) = if nat_le (length bytes) LABEL_LIMIT then record { lfs = entry.lfs; pi = entry.pi; bytes = bytes } else unspelled

abbrev pub spelled_in : Policy → (level : ℕ) → Option FormatEntry → LabelValue
spelled_in p level None = unspelled
spelled_in p level (Some entry) = spelled_as entry (writes entry.kind (label_at p.labels level))

-- A policy that is read has a first format, and it spells each of its levels.
unfoldable pub spelled : Policy → (level : ℕ) → LabelValue
spelled p level = spelled_in p level (slice_get p.formats 0)

-- ---- the level of a label that was read, in any format of the policy

abbrev pub known_level : Result ℕ ReadError → Option Level
known_level (Ok level) = Some (record { 0 = level })
known_level (Err e) = None

-- No format spells a label in more bytes than a label may have.
unfoldable pub level_of : Policy → LabelValue → Option Level
level_of p v = if nat_le (length v.bytes) LABEL_LIMIT then known_level (level_read p.formats p.labels v.lfs v.pi v.bytes) else None

-- ---- attributes

-- sec_label, which is attribute 80
abbrev pub label_alone : Bitmap
label_alone = record { words = 0 ∷ 0 ∷ 65536 ∷ 0 ∷ 0 ∷ 0 ∷ 0 ∷ 0 ∷ [] }

-- rdattr_error, which is attribute 11, and sec_label
abbrev pub error_and_label : Bitmap
error_and_label = record { words = 2048 ∷ 0 ∷ 65536 ∷ 0 ∷ 0 ∷ 0 ∷ 0 ∷ 0 ∷ [] }

-- a label as the one attribute that is compared or set, in its one spelling with zero pad bytes
abbrev pub as_attributes : LabelValue → RawAttrs
as_attributes v = record { mask = label_alone; list = label_text v }

abbrev pub IsShort : LabelValue → Type 0
IsShort v = length v.bytes ≤ LABEL_LIMIT
