-- GETATTR, VERIFY and NVERIFY (RFC 8881 sections 18.7, 18.31 and 18.15).
use Rattle.std.specs.Prelude.{◌||◌, ℕ, Bool, true, not, []}
use Rattle.std.specs.List.{list_all, range_with_len}
use Rattle.std.specs.Str.{bytes_eq}
use Rattle.lnfs_attrs.specs.declared.bitmap.Bitmap.{Bitmap}
use Rattle.lnfs_attrs.specs.declared.raw.RawAttrs.{RawAttrs}
use Rattle.lnfs_attrs.specs.declared.numbers.TheConstants.{RDATTR_ERROR}
use Rattle.lnfs_attrs.specs.Bitmaps.{has_attr}
use Rattle.lnfs_attrs.specs.Attributes.{is_listed, list_text}
use Rattle.lnfs_world.specs.World.{World}
use Rattle.lnfs_world.specs.Outcome.{Site, Place, Outcome, Act}
use Rattle.lnfs_arguments.specs.declared.statuses.TheConstants.{NFS4ERR_INVAL, NFS4ERR_SAME, NFS4ERR_NOT_SAME, NFS4ERR_ATTRNOTSUPP}
use Rattle.lnfs_monitor.specs.Rules.{Read}
use Rattle.lnfs_operations.specs.declared.Gate.TheVariants.{Argument, Namespace}
use Rattle.lnfs_operations.specs.Chain.{Answer, refuse, done, demand}
use Rattle.lnfs_operations.specs.Judged.{where_asked}
use Rattle.lnfs_operations.specs.Handles.{with_current}
use Rattle.lnfs_operations.specs.Shown.{shown, asks_inner, answer_to}

abbrev pub get_attr : Site → (asked : Bitmap) → Act (Answer RawAttrs)
get_attr site asked p w =
    with_current p w (λ n.
    where_asked (asks_inner asked) site p (Read n.label) (
    done p (answer_to asked true (shown site p w n 0)) []))

-- ---- comparing

-- a set of attributes has eight words of 32 bits, so none has this number or a greater one
abbrev pub attr_end : ℕ
attr_end = 256

-- whether the server has each attribute of a set
abbrev pub is_supported : Bitmap → Bool
is_supported mask = list_all (λ n. not (has_attr mask n) || is_listed n) (range_with_len 0 attr_end)

-- a list of values is compared by its bytes, as it was sent
abbrev pub compared : Site → RawAttrs → Place → World → (same : Bool → Outcome (Answer (Unit {0}))) → Outcome (Answer (Unit {0}))
compared site given p w same =
    demand (is_supported given.mask) (refuse p Argument NFS4ERR_ATTRNOTSUPP) (
    demand (not (has_attr given.mask RDATTR_ERROR)) (refuse p Argument NFS4ERR_INVAL) (
    with_current p w (λ n.
    where_asked (asks_inner given.mask) site p (Read n.label) (
    same (bytes_eq given.list (list_text given.mask (shown site p w n 0) true))))))

abbrev pub verify : Site → RawAttrs → Act (Answer (Unit {0}))
verify site given p w = compared site given p w (λ same. demand same (refuse p Namespace NFS4ERR_NOT_SAME) (done p tt []))

abbrev pub nverify : Site → RawAttrs → Act (Answer (Unit {0}))
nverify site given p w = compared site given p w (λ same. demand (not same) (refuse p Namespace NFS4ERR_SAME) (done p tt []))
