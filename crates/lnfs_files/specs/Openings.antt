-- OPEN by the code's values, and its tests in groups.
use Rattle.std.specs.Prelude.{◌≡◌, [], ◌∷◌, false, true, Result, Ok, Err, ◌==◌, ◌&&◌, ◌||◌, ℕ, Bool, not, List, Option, Some, None, is_some, nat_le}
use Rattle.std.specs.Option.{option_map}
use Rattle.lnfs_attrs.specs.declared.raw.RawAttrs.{RawAttrs}
use Rattle.lnfs_arguments.specs.declared.statuses.TheConstants.{NFS4ERR_NOENT, NFS4ERR_EXIST, NFS4ERR_INVAL, NFS4ERR_SHARE_DENIED}
use Rattle.lnfs_world.specs.World.{Id, Inner, Node, Entry, World, node_at, is_directory}
use Rattle.lnfs_world.specs.Names.{entry_at}
use Rattle.lnfs_world.specs.Change.{Touch, Make}
use Rattle.lnfs_world.specs.Outcome.{Site, Place, Outcome}
use Rattle.lnfs_monitor.specs.Rules as rules
use Rattle.lnfs_operations.specs.declared.Gate.TheVariants as gates
use Rattle.lnfs_operations.specs.declared.numbers.TheConstants.{OPEN4_SHARE_ACCESS_WRITE, OPEN4_SHARE_ACCESS_BOTH}
use Rattle.lnfs_operations.specs.declared.Refusal.{Refusal}
use Rattle.lnfs_operations.specs.Chain.{Answer, refuse, demand, where_there}
use Rattle.lnfs_operations.specs.Judged.{where_allowed, where_asked}
use Rattle.lnfs_operations.specs.Handles.{with_current}
use Rattle.lnfs_operations.specs.NewNames.{where_directory}
use Rattle.lnfs_operations.specs.Files.{where_file}
use Rattle.lnfs_operations.specs.Given.{where_values, where_mode, where_label, set_of}
use Rattle.lnfs_world.specs.Opens.{has_any}
use Rattle.lnfs_operations.specs.Open.{Arguments, Opened, Wanted, access_of, is_of_handle, gives_size, is_no_size, where_shared, may_be_there, conflicts}
use Rattle.lnfs_tree.specs.Rows.{Rows}
use Rattle.lnfs_tree.specs.Changed.{ran}
use Rattle.lnfs_nodes.specs.Trees.{Holds}
use Rattle.lnfs_nodes.specs.GivenValues.{given_of}
use Rattle.lnfs_nodes.specs.declared.held.Held.{Held}
use Rattle.lnfs_files.specs.declared.asked.Opening.{Opening}
use Rattle.lnfs_files.specs.declared.wanted.Wanted as code_wanted
use Rattle.lnfs_files.specs.declared.opened.Opened as code_opened

-- ---- the code's values

abbrev pub args_of : Opening → Arguments
args_of x = record { access = x.access; deny = x.deny; owner = x.owner.now; making = x.making.now; claim = x.claim.now }

abbrev pub wanted_of : code_wanted.Wanted → Wanted
wanted_of x = record { sized = x.sized; mode = x.mode; label = option_map given_of x.label; set = x.set }

abbrev pub opened_of : code_opened.Opened → Opened
opened_of x = record { id = x.id; info = x.info; set = x.set }

-- ---- tests in groups

-- those of the arguments but the attributes and the name
abbrev pub where_words : {R : Type 0} → Place → Arguments → Outcome (Answer R) → Outcome (Answer R)
where_words p args next =
    demand (not (access_of args == 0)) (refuse p gates.Argument NFS4ERR_INVAL) (
    demand (nat_le args.deny OPEN4_SHARE_ACCESS_BOTH) (refuse p gates.Argument NFS4ERR_INVAL) (
    demand (not (is_of_handle args.claim && is_some args.making)) (refuse p gates.Argument NFS4ERR_INVAL) (
    demand (not (gives_size args.making) || has_any (access_of args) OPEN4_SHARE_ACCESS_WRITE) (refuse p gates.Argument NFS4ERR_INVAL) next)))

-- the attributes that come with a file that is to be made
abbrev pub where_given : {R : Type 0} → Site → Place → RawAttrs → (Wanted → Outcome (Answer R)) → Outcome (Answer R)
where_given site p attrs next =
    where_values p attrs (λ values.
    demand (is_no_size values.size) (refuse p gates.Argument NFS4ERR_INVAL) (
    where_mode p values.mode (
    where_label site p values.label (λ label.
    next (record { sized = is_some values.size; mode = values.mode; label = label; set = set_of attrs })))))

-- the directory that is looked into
abbrev pub where_readable : {R : Type 0} → Site → Place → World → (Node → Outcome (Answer R)) → Outcome (Answer R)
where_readable site p w next =
    with_current p w (λ d.
    where_directory p d (
    where_allowed site p (rules.Read d.label) (next d)))

-- a file that is there
abbrev pub where_openable : {R : Type 0} → Site → Arguments → Place → World → (client : ℕ) → (sized : Bool) → Node → Outcome (Answer R) → Outcome (Answer R)
where_openable site args p w client sized n next =
    where_file p n (
    demand (may_be_there args.making n) (refuse p gates.Namespace NFS4ERR_EXIST) (
    where_shared site p args n.label (
    where_asked sized site p (rules.Write n.label) (
    demand (not (conflicts site args p w client n)) (refuse p gates.Open NFS4ERR_SHARE_DENIED) next))))

-- a new file in a directory
abbrev pub where_makable : {R : Type 0} → Site → Arguments → Place → (directory : Node) → (label : ℕ) → Outcome (Answer R) → Outcome (Answer R)
where_makable site args p d label next =
    where_allowed site p (rules.Change d.label) (
    where_allowed site p (rules.Child d.label label) (
    where_shared site p args label next))

-- ---- what the code holds

-- a node that is there
abbrev pub IsThere : Rows → Held → Type 0
IsThere t h = (n : Node) × Holds t n h

-- ---- looks at the tree

-- a node that tests lead to, or what refuses it
abbrev pub Leads : Place → ((Node → Outcome (Answer Opened)) → Outcome (Answer Opened)) → Rows → Result Held Refusal → Type 0
Leads p stage t (Ok h) = (n : Node) × (Holds t n h × ((next : Node → Outcome (Answer Opened)) → stage next ≡ next n))
Leads p stage t (Err why) = (next : Node → Outcome (Answer Opened)) → stage next ≡ refuse p why.gate why.status

-- what a name of a directory leads to: its node, or what follows where there is no such name
abbrev pub where_named_in : Place → Rows → (directory : Node) → (name : List ℕ) → (Node → Outcome (Answer Opened)) → Outcome (Answer Opened) → Outcome (Answer Opened)
where_named_in p t d name found absent =
    where_there (entry_at t.entries d.id name)
    (λ e. where_there (node_at t.nodes e.node) found (refuse p gates.Namespace NFS4ERR_NOENT))
    absent

abbrev pub Finds : Place → Rows → (directory : Node) → (name : List ℕ) → Result (Option Held) Refusal → Type 0
Finds p t d name (Ok (Some h)) = (n : Node) × (Holds t n h × ((found : Node → Outcome (Answer Opened)) (absent : Outcome (Answer Opened)) → where_named_in p t d name found absent ≡ found n))
Finds p t d name (Ok None) = (is_some (entry_at t.entries d.id name) ≡ false) × ((found : Node → Outcome (Answer Opened)) (absent : Outcome (Answer Opened)) → where_named_in p t d name found absent ≡ absent)
Finds p t d name (Err why) = (found : Node → Outcome (Answer Opened)) (absent : Outcome (Answer Opened)) → where_named_in p t d name found absent ≡ refuse p why.gate why.status

-- a directory that hasn't a name
abbrev pub IsAbsentIn : Rows → Held → (name : List ℕ) → Type 0
IsAbsentIn t dir name = (d : Node) × (Holds t d dir × (is_directory d.kind ≡ true) × (is_some (entry_at t.entries d.id name) ≡ false))

-- ---- without memory

-- a file that was made, and what its directory holds then
pub record MadeFile : Type 0 where
  pub directory : Id
  pub inner : Inner
  pub node : Node
  pub entry : Entry

abbrev pub after_making : Option MadeFile → Rows → Rows
after_making None t = t
after_making (Some m) t = ran (Touch m.directory m.inner ∷ Make m.node m.entry ∷ []) t

-- a tree as it was, or with a file that was made
abbrev pub IsOrMade : (before after : Rows) → Type 0
IsOrMade before after = (m : Option MadeFile) × (after ≡ after_making m before)
