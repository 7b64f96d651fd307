-- How large attributes are that are answered or can be set.
use Rattle.std.specs.Prelude.{◌≡◌, ◌≤◌, ℕ, Bool, length, ◌&&◌}
use Rattle.lnfs_types.specs.declared.limits.TheConstants.{LABEL_LIMIT}
use Rattle.lnfs_attrs.specs.Bitmaps.{has_attr, trimmed, BitmapFits}
use Rattle.lnfs_attrs.specs.Attributes.{is_listed, is_answered, list_text}
use Rattle.lnfs_attrs.specs.declared.bitmap.Bitmap.{Bitmap}
use Rattle.lnfs_attrs.specs.declared.raw.RawAttrs.{RawAttrs}
use Rattle.lnfs_attrs.specs.declared.view.View.{View}

-- the bitmap is written in three words at most
abbrev pub IsNarrow : Bitmap → Type 0
IsNarrow b = length (trimmed b.words) ≤ 3

-- a file handle of this server, and a label as long as a label may be
abbrev pub ViewFits : View → Type 0
ViewFits v = (length v.handle ≡ 12) × (length v.label.bytes ≤ LABEL_LIMIT)

-- What GETATTR answers: those of the attributes asked that are answered, and their values.
pub record IsAnswer (a : RawAttrs) : Type 0 where
  pub asked : Bitmap
  pub view : View
  pub inner : Bool
  pub fits : ViewFits view
  pub words : BitmapFits a.mask
  pub mask : (n : ℕ) → has_attr a.mask n ≡ (is_listed n && is_answered asked inner n)
  pub list : a.list ≡ list_text asked view inner
