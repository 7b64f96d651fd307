-- CREATE (RFC 8881 section 18.4): a directory or a symbolic link.
use Rattle.std.specs.Prelude.{ℕ, Bool, true, not, ◌&&◌, List, [], ◌∷◌, length, Option, Some, None, is_some, nat_le, nat_lt}
use Rattle.lnfs_types.specs.declared.event.Moment.{Moment}
use Rattle.lnfs_words.specs.Words.{is_empty}
use Rattle.lnfs_attrs.specs.declared.bitmap.Bitmap.{Bitmap}
use Rattle.lnfs_attrs.specs.declared.raw.RawAttrs.{RawAttrs}
use Rattle.lnfs_arguments.specs.declared.stateid.Cinfo.{Cinfo}
use Rattle.lnfs_arguments.specs.declared.types.What.{What}
use Rattle.lnfs_arguments.specs.declared.types.What.TheVariants.{Dir, Symlink}
use Rattle.lnfs_arguments.specs.declared.statuses.TheConstants.{NFS4ERR_INVAL, NFS4ERR_NAMETOOLONG, NFS4ERR_NOSPC}
use Rattle.lnfs_world.specs.declared.numbers.TheConstants.{FIRST_COOKIE}
use Rattle.lnfs_world.specs.World.{Kind, Directory, SymbolicLink, Stored, Inner, Node, World}
use Rattle.lnfs_world.specs.Usage.{nodes_used}
use Rattle.lnfs_world.specs.Change.{Touch, Make}
use Rattle.lnfs_world.specs.Effects.{name_added, next_entry, has_cookie, has_number, next_id}
use Rattle.lnfs_world.specs.Outcome.{Site, Place, Outcome, Act}
use Rattle.lnfs_monitor.specs.Rules.{Change as ChangeNames, Child}
use Rattle.lnfs_operations.specs.declared.Gate.TheVariants.{Argument, Quota}
use Rattle.lnfs_operations.specs.declared.numbers.TheConstants.{DIRECTORY_MODE, LINK_MODE, MOST_TEXT}
use Rattle.lnfs_operations.specs.Chain.{Answer, refuse, done, demand}
use Rattle.lnfs_operations.specs.Judged.{where_allowed}
use Rattle.lnfs_operations.specs.Handles.{with_current}
use Rattle.lnfs_operations.specs.Names.{where_named}
use Rattle.lnfs_operations.specs.NewNames.{where_directory, where_new, changed}
use Rattle.lnfs_operations.specs.Given.{where_values, where_mode, GivenLabel, where_label, level_or, kept_label, set_of}

pub record Made : Type 0 where
  pub info : Cinfo
  pub set : Bitmap

-- ---- what is made

abbrev pub kind_of : What → Kind
kind_of Dir = Directory
kind_of (Symlink text) = SymbolicLink

abbrev pub text_of : What → List ℕ
text_of Dir = []
text_of (Symlink text) = text

abbrev pub mode_of : What → Option ℕ → ℕ
mode_of what (Some mode) = mode
mode_of Dir None = DIRECTORY_MODE
mode_of (Symlink text) None = LINK_MODE

abbrev pub is_text : What → (List ℕ → Bool) → Bool
is_text Dir test = true
is_text (Symlink text) test = test text

-- the text of a link is neither empty nor too long
abbrev pub where_text : {R : Type 0} → Place → What → Outcome (Answer R) → Outcome (Answer R)
where_text p what next =
    demand (is_text what (λ text. not (is_empty text))) (refuse p Argument NFS4ERR_INVAL) (
    demand (is_text what (λ text. nat_le (length text) MOST_TEXT)) (refuse p Argument NFS4ERR_NAMETOOLONG) next)

abbrev pub new_inner : Moment → Option Stored → (mode : ℕ) → (content : List ℕ) → Inner
new_inner moment stored mode content = record {
  stored = stored;
  mode = mode;
  content = content;
  change = 1;
  accessed = moment;
  metadata = moment;
  modified = moment;
  cookies = FIRST_COOKIE;
}

-- whether a directory's level may have one more node, has a number for it, and the directory a cookie for its name
abbrev pub has_room : Site → World → (directory : Node) → Bool
has_room site w d = nat_lt (nodes_used w.nodes d.label) (site.nodes d.label) && (has_number w.lasts.nodes d.label && has_cookie d)

-- a new node, whose home is the label of its directory
abbrev pub new_node : Site → Place → World → What → (mode : Option ℕ) → Option GivenLabel → (directory : Node) → Node
new_node site p w what mode label d = record {
  id = next_id w.lasts.nodes d.label;
  kind = kind_of what;
  label = level_or d.label label;
  verifier = None;
  inner = new_inner p.moment (kept_label site p d label) (mode_of what mode) (text_of what);
}

abbrev pub made : Place → (directory : Node) → (name : List ℕ) → (set : Bitmap) → Node → Outcome (Answer Made)
made p d name set n = done (record p { current = Some n.id }) (record { info = changed d; set = set }) (
    Touch d.id (name_added p.moment d.inner) ∷ Make n (next_entry d name n.id) ∷ [])

-- ---- the operation

abbrev pub create : Site → What → (name : List ℕ) → RawAttrs → Act (Answer Made)
create site what name given p w =
    where_named p name (
    where_values p given (λ values.
    demand (not (is_some values.size)) (refuse p Argument NFS4ERR_INVAL) (
    where_mode p values.mode (
    where_label site p values.label (λ label.
    where_text p what (
    with_current p w (λ d.
    where_directory p d (
    where_allowed site p (ChangeNames d.label) (
    where_allowed site p (Child d.label (level_or d.label label)) (
    where_new p w d name (
    demand (has_room site w d) (refuse p Quota NFS4ERR_NOSPC) (
    made p d name (set_of given) (new_node site p w what values.mode label d)))))))))))))
