-- SETATTR (RFC 8881 section 18.30, RFC 7862 section 12.2.4).
use Rattle.std.specs.Prelude.{ℕ, ◌==◌, ◌&&◌, ◌||◌, Bool, not, cond, List, [], ◌∷◌, Option, Some, None, is_some}
use Rattle.std.specs.Str.{bytes_eq}
use Rattle.lnfs_attrs.specs.declared.bitmap.Bitmap.{Bitmap}
use Rattle.lnfs_attrs.specs.declared.raw.RawAttrs.{RawAttrs}
use Rattle.lnfs_attrs.specs.declared.settable.AttrSet.{AttrSet}
use Rattle.lnfs_arguments.specs.declared.stateid.StateId.{StateId}
use Rattle.lnfs_arguments.specs.declared.statuses.TheConstants.{NFS4ERR_ISDIR, NFS4ERR_INVAL, NFS4ERR_NOTEMPTY}
use Rattle.lnfs_world.specs.World.{Stored, Inner, Node, World, is_directory}
use Rattle.lnfs_world.specs.Tree.{holds_names}
use Rattle.lnfs_world.specs.Change.{Change, Touch, Relabel}
use Rattle.lnfs_world.specs.Effects.{sized, data_changed, attributes_changed, parent_labels}
use Rattle.lnfs_world.specs.Outcome.{Site, Place, Outcome, Act}
use Rattle.lnfs_monitor.specs.Rules.{Write, Raise}
use Rattle.lnfs_operations.specs.declared.Gate.TheVariants.{Argument, Namespace}
use Rattle.lnfs_operations.specs.Chain.{Answer, refuse, done, demand}
use Rattle.lnfs_operations.specs.Judged.{where_allowed, where_asked}
use Rattle.lnfs_operations.specs.Handles.{with_current}
use Rattle.lnfs_operations.specs.Lookup.{is_link}
use Rattle.lnfs_operations.specs.StateIds.{Writing, where_usable}
use Rattle.lnfs_operations.specs.Files.{where_fitting}
use Rattle.lnfs_operations.specs.Shown.{label_shown}
use Rattle.lnfs_operations.specs.Given.{where_values, where_mode, GivenLabel, where_label, set_of}

-- ---- tests

-- a label is set alone
abbrev pub is_company : AttrSet → Bool
is_company values = is_some values.label && (is_some values.size || is_some values.mode)

-- A size is that of a file.
abbrev pub where_sized : {R : Type 0} → Place → Bool → Node → Outcome (Answer R) → Outcome (Answer R)
where_sized p sized n next =
    demand (not (sized && is_directory n.kind)) (refuse p Namespace NFS4ERR_ISDIR) (
    demand (not (sized && is_link n.kind)) (refuse p Namespace NFS4ERR_INVAL) next)

-- ---- a label

abbrev pub same_spelling : Stored → Stored → Bool
same_spelling a b = a.lfs == b.lfs && (a.pi == b.pi && bytes_eq a.bytes b.bytes)

-- A level that is the node's own changes nothing. A directory keeps its label as long as it holds names.
abbrev pub raised : Place → World → Node → (level : ℕ) → (set : Bitmap) → Outcome (Answer Bitmap)
raised p w n level set =
    cond (level == n.label)
    (done p set [])
    (demand (not (is_directory n.kind && holds_names w.entries n.id)) (refuse p Namespace NFS4ERR_NOTEMPTY) (
    done p set (Relabel n.id level (attributes_changed p.moment n.inner) ∷ [])))

-- Where labels are carried alone, one is kept as it was given.
abbrev pub respelled : Site → Place → Node → Stored → (set : Bitmap) → Outcome (Answer Bitmap)
respelled site p n spelled set =
    cond (same_spelling (label_shown site p n) spelled)
    (done p set [])
    (done p set (Touch n.id (attributes_changed p.moment (record n.inner { stored = Some spelled })) ∷ []))

abbrev pub label_set : Site → Place → World → Node → GivenLabel → (set : Bitmap) → Outcome (Answer Bitmap)
label_set site p w n given set =
    cond site.limited
    (where_allowed site p (Write n.label) (respelled site p n given.spelled set))
    (where_allowed site p (Raise n.label (parent_labels w.nodes w.entries n.id) given.level) (raised p w n given.level set))

-- ---- the other attributes

abbrev pub size_set : Place → Node → Option ℕ → Inner
size_set p n None = n.inner
size_set p n (Some size) = data_changed p.moment (sized size n.inner.content) n.inner

abbrev pub mode_set : Place → Option ℕ → Inner → Inner
mode_set p None inner = inner
mode_set p (Some mode) inner = attributes_changed p.moment (record inner { mode = mode })

-- Each of them steps the change number of its own.
abbrev pub values_written : Place → Node → AttrSet → List Change
values_written p n values =
    cond (is_some values.size || is_some values.mode)
    (Touch n.id (mode_set p values.mode (size_set p n values.size)) ∷ [])
    []

-- A size is set under an open state, within the limits of files and levels.
abbrev pub where_size : {R : Type 0} → Site → StateId → Place → World → Node → Option ℕ → Outcome (Answer R) → Outcome (Answer R)
where_size site id p w n None next = next
where_size site id p w n (Some size) next = where_usable site p w n id Writing (where_fitting site p w n size next)

abbrev pub values_set : Site → StateId → Place → World → Node → AttrSet → (set : Bitmap) → Outcome (Answer Bitmap)
values_set site id p w n values set =
    where_asked (is_some values.size || is_some values.mode) site p (Write n.label) (
    where_size site id p w n values.size (
    done p set (values_written p n values)))

abbrev pub set_on : Site → StateId → Place → World → Node → AttrSet → Option GivenLabel → (set : Bitmap) → Outcome (Answer Bitmap)
set_on site id p w n values None set = values_set site id p w n values set
set_on site id p w n values (Some given) set = label_set site p w n given set

-- ---- the operation

abbrev pub set_attr : Site → StateId → RawAttrs → Act (Answer Bitmap)
set_attr site id given p w =
    where_values p given (λ values.
    where_mode p values.mode (
    where_label site p values.label (λ label.
    demand (not (is_company values)) (refuse p Argument NFS4ERR_INVAL) (
    with_current p w (λ n.
    where_sized p (is_some values.size) n (
    set_on site id p w n values label (set_of given)))))))
