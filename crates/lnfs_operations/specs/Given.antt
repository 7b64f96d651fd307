-- Attributes that a request sets (RFC 8881 sections 5.8, 18.4 and 18.30, RFC 7862 section 12.2.4): their tests, which are
-- of the arguments and the site alone.
use Rattle.std.specs.Prelude.{ℕ, Bool, true, not, ◌||◌, cond, List, Option, Some, None, Result, Ok, Err, nat_le}
use Rattle.std.specs.List.{list_all, range_with_len}
use Rattle.lnfs_xdr.specs.Message.{parse}
use Rattle.lnfs_attrs.specs.declared.bitmap.Bitmap.{Bitmap}
use Rattle.lnfs_attrs.specs.declared.raw.RawAttrs.{RawAttrs}
use Rattle.lnfs_attrs.specs.declared.view.LabelValue.{LabelValue}
use Rattle.lnfs_attrs.specs.declared.settable.AttrSet.{AttrSet}
use Rattle.lnfs_attrs.specs.Bitmaps.{has_attr}
use Rattle.lnfs_attrs.specs.Attributes.{is_settable}
use Rattle.lnfs_attrs.specs.Settable.{list_values}
use Rattle.lnfs_world.specs.World.{Stored, Node}
use Rattle.lnfs_world.specs.Outcome.{LabelRead, LevelOf, WrongFormat, BadLabel, Site, Place, Outcome}
use Rattle.lnfs_arguments.specs.declared.statuses.TheConstants.{NFS4ERR_INVAL, NFS4ERR_ATTRNOTSUPP, NFS4ERR_BADXDR, NFS4ERR_WRONG_LFS, NFS4ERR_BADLABEL}
use Rattle.lnfs_operations.specs.declared.Gate.TheVariants.{Argument}
use Rattle.lnfs_operations.specs.declared.numbers.TheConstants.{MOST_MODE}
use Rattle.lnfs_operations.specs.Chain.{Answer, refuse, demand}
use Rattle.lnfs_operations.specs.GetAttr.{attr_end, is_supported}
use Rattle.lnfs_operations.specs.Shown.{label_shown, bitmap_of}

-- ---- values

-- whether each attribute of a set can be set
abbrev pub are_settable : Bitmap → Bool
are_settable mask = list_all (λ n. not (has_attr mask n) || is_settable n) (range_with_len 0 attr_end)

abbrev pub where_parsed : {R : Type 0} → Place → Result AttrSet (List ℕ) → (AttrSet → Outcome (Answer R)) → Outcome (Answer R)
where_parsed p (Ok set) next = next set
where_parsed p (Err stuck) next = refuse p Argument NFS4ERR_BADXDR

-- The list of values has to be exactly those of the attributes of the set.
abbrev pub where_values : {R : Type 0} → Place → RawAttrs → (AttrSet → Outcome (Answer R)) → Outcome (Answer R)
where_values p given next =
    demand (is_supported given.mask) (refuse p Argument NFS4ERR_ATTRNOTSUPP) (
    demand (are_settable given.mask) (refuse p Argument NFS4ERR_INVAL) (
    where_parsed p (parse (list_values given.mask) given.list) next))

-- the attributes that were given, as a bitmap (RFC 8881 section 3.3.7)
abbrev pub set_of : RawAttrs → Bitmap
set_of given = bitmap_of (has_attr given.mask)

-- ---- mode

abbrev pub is_mode : Option ℕ → Bool
is_mode None = true
is_mode (Some mode) = nat_le mode MOST_MODE

abbrev pub where_mode : {R : Type 0} → Place → Option ℕ → Outcome (Answer R) → Outcome (Answer R)
where_mode p mode next = demand (is_mode mode) (refuse p Argument NFS4ERR_INVAL) next

-- ---- label

-- a label that was given: its level, and its spelling
pub record GivenLabel : Type 0 where
  pub level : ℕ
  pub spelled : Stored

abbrev pub where_read : {R : Type 0} → Place → Stored → LabelRead → (Option GivenLabel → Outcome (Answer R)) → Outcome (Answer R)
where_read p spelled (LevelOf level) next = next (Some (record { level = level; spelled = spelled }))
where_read p spelled WrongFormat next = refuse p Argument NFS4ERR_WRONG_LFS
where_read p spelled BadLabel next = refuse p Argument NFS4ERR_BADLABEL

abbrev pub spelled_by : LabelValue → Stored
spelled_by v = record { lfs = v.lfs; pi = v.pi; bytes = v.bytes }

-- a label, where one was given, has to be that of a level
abbrev pub where_label : {R : Type 0} → Site → Place → Option LabelValue → (Option GivenLabel → Outcome (Answer R)) → Outcome (Answer R)
where_label site p None next = next None
where_label site p (Some v) next = where_read p (spelled_by v) (site.reading (spelled_by v)) next

-- the level of the label that was given, or else another one
abbrev pub level_or : (level : ℕ) → Option GivenLabel → ℕ
level_or level None = level
level_or level (Some given) = given.level

abbrev pub spelled_or : Stored → Option GivenLabel → Stored
spelled_or spelled None = spelled
spelled_or spelled (Some given) = given.spelled

-- How the label of a new node is kept: where labels are carried alone, as it was given, or else as its directory shows its
-- own; elsewhere the level tells it.
abbrev pub kept_label : Site → Place → (directory : Node) → Option GivenLabel → Option Stored
kept_label site p d given = cond site.limited (Some (spelled_or (label_shown site p d) given)) None
