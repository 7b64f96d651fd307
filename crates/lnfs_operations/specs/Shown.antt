-- The attributes of a node as it shows them to a subject (RFC 8881 section 5, RFC 7862 section 12.2).
use Rattle.std.specs.Prelude.{ℕ, ◌+◌, ◌-◌, ◌*◌, ◌^◌, ◌&&◌, Bool, cond, map, Option, Some, None}
use Rattle.std.specs.List.{list_any, range_with_len, fold}
use Rattle.lnfs_types.specs.declared.event.Moment as outside
use Rattle.lnfs_attrs.specs.declared.bitmap.Bitmap.{Bitmap}
use Rattle.lnfs_attrs.specs.declared.raw.RawAttrs.{RawAttrs}
use Rattle.lnfs_attrs.specs.declared.view.Moment.{Moment}
use Rattle.lnfs_attrs.specs.declared.view.LabelValue.{LabelValue}
use Rattle.lnfs_attrs.specs.declared.view.View.{View}
use Rattle.lnfs_attrs.specs.Bitmaps.{has_attr}
use Rattle.lnfs_attrs.specs.Attributes.{table, inner_in, is_listed, is_answered, list_text}
use Rattle.lnfs_world.specs.World.{Kind, File, Directory, SymbolicLink, Stored, Node, World}
use Rattle.lnfs_world.specs.Names.{size_of, links_of}
use Rattle.lnfs_world.specs.Usage.{bytes_used}
use Rattle.lnfs_world.specs.Outcome.{Site, Place}
use Rattle.lnfs_monitor.specs.Rules.{Read, allows}
use Rattle.lnfs_operations.specs.Handles.{handle_of, file_id}

-- ---- values

-- nfs_ftype4
abbrev pub type_of : Kind → ℕ
type_of File = 1
type_of Directory = 2
type_of SymbolicLink = 5

abbrev pub time_of : outside.Moment → Moment
time_of m = record { secs = m.secs; nanos = m.nanos }

abbrev pub stored_or : Stored → Option Stored → Stored
stored_or spelled None = spelled
stored_or spelled (Some stored) = stored

-- The label of a node: where labels are carried alone, as it was stored, to who may read the node; otherwise as the site
-- writes it.
abbrev pub label_shown : Site → Place → Node → Stored
label_shown site p n = cond (site.limited && allows site.dom p.subject (Read n.label)) (stored_or (site.spelling n.label) n.inner.stored) (site.spelling n.label)

abbrev pub label_value : Stored → LabelValue
label_value s = record { lfs = s.lfs; pi = s.pi; bytes = s.bytes }

-- with the status of an entry whose attributes can't be read, which is 0 elsewhere
abbrev pub shown : Site → Place → World → Node → (error : ℕ) → View
shown site p w n error = record {
  kind = type_of n.kind;
  change = n.inner.change;
  size = size_of w.entries n n.kind;
  handle = handle_of n.id;
  fileid = file_id n.id;
  mode = n.inner.mode;
  links = links_of w.entries n n.kind;
  avail = site.bytes p.subject - bytes_used w.nodes p.subject;
  used = bytes_used w.nodes p.subject;
  access = time_of n.inner.accessed;
  metadata = time_of n.inner.metadata;
  modify = time_of n.inner.modified;
  label = label_value (label_shown site p n);
  error = error;
}

-- ---- answers

-- whether an inner attribute is asked
abbrev pub asks_inner : Bitmap → Bool
asks_inner asked = list_any (λ n. has_attr asked n) (inner_in table)

-- the bitmap of the attributes that pass a test: attribute 32 k + i is bit i of word k
abbrev pub word_of : (ℕ → Bool) → ℕ → ℕ
word_of test k = fold (λ sum i. sum + cond (test (32 * k + i)) (2 ^ i) 0) 0 (range_with_len 0 32)

unfoldable pub bitmap_of : (ℕ → Bool) → Bitmap
bitmap_of test = record { words = map (word_of test) (range_with_len 0 8) }

-- those of the attributes asked that the server has, without the inner ones where these aren't allowed
abbrev pub answer_to : Bitmap → (inner : Bool) → View → RawAttrs
answer_to asked inner view = record { mask = bitmap_of (λ n. is_listed n && is_answered asked inner n); list = list_text asked view inner }
