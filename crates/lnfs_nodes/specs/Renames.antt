-- What RENAME tests before the tree does.
use Rattle.std.specs.Prelude.{◌≡◌, ℕ, if◌then◌else◌, List, Option, Some, None, Ok}
use Rattle.lnfs_arguments.specs.declared.statuses.TheConstants.{NFS4ERR_NOENT}
use Rattle.lnfs_world.specs.World.{Id, Node, Entry, World, node_at, same_id}
use Rattle.lnfs_world.specs.Names.{entry_at}
use Rattle.lnfs_world.specs.Outcome.{Site, Place, Outcome}
use Rattle.lnfs_monitor.specs.Rules.{Change as ChangeNames, Drop}
use Rattle.lnfs_operations.specs.declared.Gate.TheVariants.{Namespace}
use Rattle.lnfs_operations.specs.Chain.{Answer}
use Rattle.lnfs_operations.specs.Chain as chain
use Rattle.lnfs_operations.specs.Judged.{where_allowed}
use Rattle.lnfs_operations.specs.Handles.{with_node, with_current}
use Rattle.lnfs_operations.specs.NewNames.{where_directory}
use Rattle.lnfs_operations.specs.Rename.{Renamed}
use Rattle.lnfs_tree.specs.declared.node.Info.{Info}
use Rattle.lnfs_tree.specs.Rows.{Rows}
use Rattle.lnfs_tree.specs.Changed.{Gone}
use Rattle.lnfs_nodes.specs.Trees.{held_in, IsHeld, denial}
use Rattle.lnfs_nodes.specs.Told.{no_directory, cinfo_of, gone_at}
use Rattle.lnfs_nodes.specs.declared.held.Held.{Held}

-- ---- the directories

-- the saved directory and the current one, both of whose names the subject may change
abbrev pub with_ends : Site → Place → World → (Node → Node → Outcome (Answer Renamed)) → Outcome (Answer Renamed)
with_ends site p w next =
    with_node p w p.saved (λ from.
    with_current p w (λ to.
    where_directory p from (
    where_directory p to (
    where_allowed site p (ChangeNames from.label) (
    where_allowed site p (ChangeNames to.label) (
    next from to))))))

-- what the code finds of them
pub record AreEnds (site : Site) (subject : ℕ) (t : Rows) (saved current : Option Id) (from to : Held) : Type 0 where
  pub source : IsHeld t (held_in t.nodes saved) (Ok from)
  pub target : IsHeld t (held_in t.nodes current) (Ok to)
  pub source_kind : None ≡ no_directory from.facts.kind
  pub target_kind : None ≡ no_directory to.facts.kind
  pub source_open : None ≡ denial site subject (ChangeNames from.facts.label.0)
  pub target_open : None ≡ denial site subject (ChangeNames to.facts.label.0)

-- ---- what has the new name

abbrev pub taking : Site → (subject : ℕ) → Option Node → Option chain.Refusal
taking site s None = Some (record { gate = Namespace; status = NFS4ERR_NOENT })
taking site s (Some n) = denial site s (Drop n.label)

-- what the rules of labels refuse where another node than the one that moves has the new name
abbrev pub giving_way : Site → (subject : ℕ) → List Node → (mover : Id) → Option Entry → Option chain.Refusal
giving_way site s nodes mover None = None
giving_way site s nodes mover (Some other) = if same_id mover other.node then None else taking site s (node_at nodes other.node)

-- ---- what is told

abbrev pub renamed_of : Info → Info → Renamed
renamed_of from to = record { source = cinfo_of from; target = cinfo_of to }

-- what goes where one name takes the place of another
abbrev pub gone_between : Rows → (old new : Option Entry) → Option Gone
gone_between t (Some e) (Some other) = if same_id e.node other.node then None else gone_at t (Some other)
gone_between t _ _ = None

abbrev pub gone_past : Rows → (saved : Option Id) → (old : List ℕ) → (current : Option Id) → (new : List ℕ) → Option Gone
gone_past t (Some from) old (Some to) new = gone_between t (entry_at t.entries from old) (entry_at t.entries to new)
gone_past t _ old _ new = None
