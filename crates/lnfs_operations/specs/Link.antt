-- LINK (RFC 8881 section 18.9): a further name of the node of the saved handle.
use Rattle.std.specs.Prelude.{ℕ, not, List, [], ◌∷◌, nat_lt}
use Rattle.lnfs_arguments.specs.declared.stateid.Cinfo.{Cinfo}
use Rattle.lnfs_arguments.specs.declared.statuses.TheConstants.{NFS4ERR_ISDIR, NFS4ERR_MLINK, NFS4ERR_NOSPC}
use Rattle.lnfs_world.specs.declared.numbers.TheConstants.{MOST_NAMES}
use Rattle.lnfs_world.specs.World.{is_directory}
use Rattle.lnfs_world.specs.Names.{names_of}
use Rattle.lnfs_world.specs.Change.{Touch, Link}
use Rattle.lnfs_world.specs.Effects.{attributes_changed, name_added, next_entry, has_cookie}
use Rattle.lnfs_world.specs.Outcome.{Site, Act}
use Rattle.lnfs_monitor.specs.Rules.{Change as ChangeNames, Drop}
use Rattle.lnfs_operations.specs.declared.Gate.TheVariants.{Namespace, Quota}
use Rattle.lnfs_operations.specs.Chain.{Answer, refuse, done, demand}
use Rattle.lnfs_operations.specs.Judged.{where_allowed}
use Rattle.lnfs_operations.specs.Handles.{with_node, with_current}
use Rattle.lnfs_operations.specs.Names.{where_named}
use Rattle.lnfs_operations.specs.NewNames.{where_directory, where_new, changed}

-- A second name can be taken out like the last one, so the rule for taking out is asked too.
abbrev pub link : Site → (name : List ℕ) → Act (Answer Cinfo)
link site name p w =
    where_named p name (
    with_node p w p.saved (λ n.
    with_current p w (λ d.
    demand (not (is_directory n.kind)) (refuse p Namespace NFS4ERR_ISDIR) (
    where_directory p d (
    where_allowed site p (ChangeNames d.label) (
    where_allowed site p (Drop n.label) (
    where_new p w d name (
    demand (nat_lt (names_of w.entries n.id) MOST_NAMES) (refuse p Namespace NFS4ERR_MLINK) (
    demand (has_cookie d) (refuse p Quota NFS4ERR_NOSPC) (
    done p (changed d) (
    Touch d.id (name_added p.moment d.inner) ∷ Touch n.id (attributes_changed p.moment n.inner) ∷ Link (next_entry d name n.id) ∷ [])))))))))))
