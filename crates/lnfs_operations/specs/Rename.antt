-- RENAME (RFC 8881 section 18.26): a name of the saved directory becomes one of the current directory.
use Rattle.std.specs.Prelude.{ℕ, not, List, [], ◌∷◌, ◌++◌, Option, Some, None, cond}
use Rattle.lnfs_arguments.specs.declared.stateid.Cinfo.{Cinfo}
use Rattle.lnfs_arguments.specs.declared.statuses.TheConstants.{NFS4ERR_INVAL, NFS4ERR_EXIST, NFS4ERR_NOSPC}
use Rattle.lnfs_world.specs.World.{Node, Entry, World, same_id}
use Rattle.lnfs_world.specs.Names.{entry_at}
use Rattle.lnfs_world.specs.Tree.{goes_under}
use Rattle.lnfs_world.specs.Change.{Change, Move}
use Rattle.lnfs_world.specs.Effects.{next_entry, has_cookie, taken_out, may_give_way, directories_changed}
use Rattle.lnfs_world.specs.Outcome.{Site, Place, Outcome, Act}
use Rattle.lnfs_monitor.specs.Rules.{Change as ChangeNames, Drop}
use Rattle.lnfs_operations.specs.declared.Gate.TheVariants.{Namespace, Quota}
use Rattle.lnfs_operations.specs.Chain.{Answer, refuse, done, demand}
use Rattle.lnfs_operations.specs.Judged.{where_allowed}
use Rattle.lnfs_operations.specs.Handles.{with_node, with_current}
use Rattle.lnfs_operations.specs.Names.{where_named}
use Rattle.lnfs_operations.specs.NewNames.{where_directory, where_old, changed, unchanged}

-- the two directories, before and after
pub record Renamed : Type 0 where
  pub source : Cinfo
  pub target : Cinfo

-- what moves: the name, its node, and the directories from which and to which
pub record Mover : Type 0 where
  pub entry : Entry
  pub node : Node
  pub from : Node
  pub to : Node

-- The name moves, after what is done to make room for it: it takes a new cookie, in the same directory too.
abbrev pub moved : Site → (new : List ℕ) → Place → World → Mover → (making_room : List Change) → Outcome (Answer Renamed)
moved site new p w m making_room =
    demand (not (goes_under site.dom p.subject w m.node.id m.to.id)) (refuse p Namespace NFS4ERR_INVAL) (
    demand (has_cookie m.to) (refuse p Quota NFS4ERR_NOSPC) (
    done p (record { source = changed m.from; target = changed m.to }) (
    directories_changed p.moment m.from m.to ++ making_room ++ Move m.entry (next_entry m.to new m.node.id) ∷ [])))

-- Where the new name is there, what it names gives way, but where both names are of one node, nothing is done.
abbrev pub moved_onto : Site → (new : List ℕ) → Place → World → Mover → Option Entry → Outcome (Answer Renamed)
moved_onto site new p w m None = moved site new p w m []
moved_onto site new p w m (Some other) =
    cond (same_id m.node.id other.node)
    (done p (record { source = unchanged m.from; target = unchanged m.to }) [])
    (where_old p w m.to new (λ e n.
    where_allowed site p (Drop n.label) (
    demand (may_give_way w.entries m.node n) (refuse p Namespace NFS4ERR_EXIST) (
    moved site new p w m (taken_out p.moment w.entries e n)))))

abbrev pub rename : Site → (old new : List ℕ) → Act (Answer Renamed)
rename site old new p w =
    where_named p old (
    where_named p new (
    with_node p w p.saved (λ from.
    with_current p w (λ to.
    where_directory p from (
    where_directory p to (
    where_allowed site p (ChangeNames from.label) (
    where_allowed site p (ChangeNames to.label) (
    where_old p w from old (λ e n.
    moved_onto site new p w (record { entry = e; node = n; from = from; to = to }) (entry_at w.entries to.id new))))))))))
