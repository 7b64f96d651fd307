-- What a node shows, with a label that is lent.
use Rattle.std.specs.Prelude.{◌≤◌, ℕ, cond, List, [], length}
use Rattle.lnfs_types.specs.declared.limits.TheConstants.{LABEL_LIMIT}
use Rattle.lnfs_attrs.specs.declared.bitmap.Bitmap.{Bitmap}
use Rattle.lnfs_attrs.specs.declared.numbers.TheConstants.{SEC_LABEL}
use Rattle.lnfs_attrs.specs.declared.view.View.{View}
use Rattle.lnfs_attrs.specs.Attributes.{label_text}
use Rattle.lnfs_attrs.specs.Bitmaps.{has_attr}
use Rattle.lnfs_attrs.specs.Sizes.{ViewFits}
use Rattle.lnfs_world.specs.declared.stored.Stored.{Stored}
use Rattle.lnfs_world.specs.Given.{stored_of}
use Rattle.lnfs_operations.specs.Shown.{label_value}
use Rattle.lnfs_nodes.specs.declared.showing.NodeView.{NodeView}

-- the view with the label
abbrev pub view_of : NodeView → View
view_of s = record s.view { label = label_value (stored_of s.label.now) }

-- The view has room for the label that is lent in the place of its own.
abbrev pub NodeViewFits : NodeView → Type 0
NodeViewFits s = ViewFits s.view × (length s.label.now.bytes ≤ LABEL_LIMIT)

-- the value of sec_label, where it is in the bitmap that is answered
abbrev pub label_asked : Bitmap → Stored → List ℕ
label_asked mask label = cond (has_attr mask SEC_LABEL) (label_text (label_value (stored_of label))) []
