-- REMOVE (RFC 8881 section 18.25).
use Rattle.std.specs.Prelude.{ℕ, not, List, ◌∷◌}
use Rattle.lnfs_arguments.specs.declared.stateid.Cinfo.{Cinfo}
use Rattle.lnfs_arguments.specs.declared.statuses.TheConstants.{NFS4ERR_NOTEMPTY}
use Rattle.lnfs_world.specs.Tree.{holds_names}
use Rattle.lnfs_world.specs.Change.{Touch}
use Rattle.lnfs_world.specs.Effects.{names_changed, taken_out}
use Rattle.lnfs_world.specs.Outcome.{Site, Act}
use Rattle.lnfs_monitor.specs.Rules.{Change as ChangeNames, Drop}
use Rattle.lnfs_operations.specs.declared.Gate.TheVariants.{Namespace}
use Rattle.lnfs_operations.specs.Chain.{Answer, refuse, done, demand}
use Rattle.lnfs_operations.specs.Judged.{where_allowed}
use Rattle.lnfs_operations.specs.Handles.{with_current}
use Rattle.lnfs_operations.specs.Names.{where_named}
use Rattle.lnfs_operations.specs.NewNames.{where_directory, where_old, changed}

-- Whether the node may be taken out comes before what it holds.
abbrev pub remove : Site → (name : List ℕ) → Act (Answer Cinfo)
remove site name p w =
    where_named p name (
    with_current p w (λ d.
    where_directory p d (
    where_allowed site p (ChangeNames d.label) (
    where_old p w d name (λ e n.
    where_allowed site p (Drop n.label) (
    demand (not (holds_names w.entries n.id)) (refuse p Namespace NFS4ERR_NOTEMPTY) (
    done p (changed d) (Touch d.id (names_changed p.moment d.inner) ∷ taken_out p.moment w.entries e n))))))))
