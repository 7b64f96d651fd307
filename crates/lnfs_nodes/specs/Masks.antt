-- Which attributes are answered, of those that are asked of nodes.
use Rattle.std.specs.Prelude.{ℕ, Bool, not, ◌==◌, ◌&&◌}
use Rattle.lnfs_attrs.specs.declared.bitmap.Bitmap.{Bitmap}
use Rattle.lnfs_attrs.specs.declared.numbers.TheConstants.{SEC_LABEL}
use Rattle.lnfs_attrs.specs.Bitmaps.{has_attr}
use Rattle.lnfs_attrs.specs.Attributes.{is_listed, is_answered}
use Rattle.lnfs_operations.specs.Shown.{bitmap_of}

-- those of the attributes asked that the server has, without the inner ones where these aren't allowed
abbrev pub answered_mask : (asked : Bitmap) → (inner : Bool) → Bitmap
answered_mask asked inner = bitmap_of (λ n. is_listed n && is_answered asked inner n)

-- an attribute of a set whose value has one size for all nodes
abbrev pub is_sized : Bitmap → ℕ → Bool
is_sized mask n = not (n == SEC_LABEL) && has_attr mask n
