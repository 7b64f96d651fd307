-- The table of attributes (RFC 8881 section 5, RFC 7862 section 12.2.4).
use Rattle.std.specs.Prelude.{◌≡◌, ℕ, Bool, true, false, not, ◌&&◌, ◌||◌, List, [], ◌∷◌, ◌++◌, ◌==◌, if◌then◌else◌}
use Rattle.std.specs.List.{flat_map, list_any}
use Rattle.lnfs_types.specs.declared.limits.TheConstants.{LEASE}
use Rattle.lnfs_xdr.specs.Canon.{word, long, opaque}
use Rattle.lnfs_attrs.specs.Bitmaps.{has_attr}
use Rattle.lnfs_attrs.specs.declared.bitmap.Bitmap.{Bitmap}
use Rattle.lnfs_attrs.specs.declared.view.Moment.{Moment}
use Rattle.lnfs_attrs.specs.declared.view.LabelValue.{LabelValue}
use Rattle.lnfs_attrs.specs.declared.view.View.{View}

-- An attribute: its number, whether it is inner, and its value.
abbrev pub Attribute : Type 0
Attribute = ℕ × Bool × (View → List ℕ)

-- An inner attribute tells of the content. Others are open to whoever holds the handle.
abbrev pub inner : Bool
inner = true

abbrev pub outer : Bool
outer = false

-- nfstime4
abbrev pub moment_text : Moment → List ℕ
moment_text m = long m.secs ++ word m.nanos

-- sec_label4
abbrev pub label_text : LabelValue → List ℕ
label_text l = word l.lfs ++ word l.pi ++ opaque l.bytes

-- `nobody`
abbrev pub nobody : List ℕ
nobody = 110 ∷ 111 ∷ 98 ∷ 111 ∷ 100 ∷ 121 ∷ []

abbrev pub table : List Attribute
table =
    -- supported_attrs: those of this table
    (0, outer, λ v. word 3 ++ word 0x00180fff ++ word 0x00b0817a ++ word 0x00010800)
    -- type, fh_expire_type
    ∷ (1, outer, λ v. word v.kind)
    ∷ (2, outer, λ v. word 0)
    -- change, size
    ∷ (3, inner, λ v. long v.change)
    ∷ (4, inner, λ v. long v.size)
    -- link_support, symlink_support, named_attr, fsid, unique_handles
    ∷ (5, outer, λ v. word 1)
    ∷ (6, outer, λ v. word 1)
    ∷ (7, outer, λ v. word 0)
    ∷ (8, outer, λ v. long 0 ++ long 0)
    ∷ (9, outer, λ v. word 1)
    -- lease_time, rdattr_error
    ∷ (10, outer, λ v. word LEASE)
    ∷ (11, outer, λ v. word v.error)
    -- filehandle, fileid
    ∷ (19, outer, λ v. opaque v.handle)
    ∷ (20, outer, λ v. long v.fileid)
    -- mode, numlinks
    ∷ (33, inner, λ v. word v.mode)
    ∷ (35, inner, λ v. word v.links)
    -- owner, owner_group
    ∷ (36, outer, λ v. opaque nobody)
    ∷ (37, outer, λ v. opaque nobody)
    -- quota_avail_hard, quota_used
    ∷ (38, outer, λ v. long v.avail)
    ∷ (40, outer, λ v. long v.used)
    -- time_access, time_metadata, time_modify
    ∷ (47, inner, λ v. moment_text v.access)
    ∷ (52, inner, λ v. moment_text v.metadata)
    ∷ (53, inner, λ v. moment_text v.modify)
    -- mounted_on_fileid
    ∷ (55, outer, λ v. long v.fileid)
    -- suppattr_exclcreat: those that can be set
    ∷ (75, outer, λ v. word 3 ++ word 0x00000010 ++ word 0x00000002 ++ word 0x00010000)
    -- sec_label
    ∷ (80, outer, λ v. label_text v.label)
    ∷ []

-- ---- what the table says of a number

abbrev pub numbers_in : List Attribute → List ℕ
numbers_in [] = []
numbers_in (a ∷ more) = a.0 ∷ numbers_in more

abbrev pub inner_in : List Attribute → List ℕ
inner_in [] = []
inner_in ((n, true, value) ∷ more) = n ∷ inner_in more
inner_in ((n, false, value) ∷ more) = inner_in more

abbrev pub value_in : List Attribute → ℕ → View → List ℕ
value_in [] n v = []
value_in (a ∷ more) n v = if n == a.0 then a.2 v else value_in more n v

unfoldable pub is_listed : ℕ → Bool
is_listed n = list_any (λ m. m == n) (numbers_in table)

unfoldable pub is_inner : ℕ → Bool
is_inner n = list_any (λ m. m == n) (inner_in table)

-- size, mode and sec_label can be set
unfoldable pub is_settable : ℕ → Bool
is_settable n = list_any (λ m. m == n) (4 ∷ 33 ∷ 80 ∷ [])

unfoldable pub value_of : ℕ → View → List ℕ
value_of n v = value_in table n v

-- ---- what is asked

-- every attribute that is asked passes a test
abbrev pub AllAsked : Bitmap → (ℕ → Bool) → Type 0
AllAsked b test = (n : ℕ) → has_attr b n ≡ true → test n ≡ true

-- an attribute is answered where it is asked, and an inner one only where that is allowed
abbrev pub is_answered : Bitmap → Bool → ℕ → Bool
is_answered asked allowed n = has_attr asked n && (allowed || not (is_inner n))

unfoldable pub attr_text : Bitmap → View → Bool → ℕ → List ℕ
attr_text asked v allowed n = if is_answered asked allowed n then value_of n v else []

-- the values that are answered, in the order of the table
unfoldable pub list_text : Bitmap → View → Bool → List ℕ
list_text asked v allowed = flat_map (attr_text asked v allowed) (numbers_in table)
