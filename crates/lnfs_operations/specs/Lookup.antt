-- LOOKUP and LOOKUPP (RFC 8881 sections 18.13 and 18.14).
use Rattle.std.specs.Prelude.{ℕ, Bool, true, false, not, List, [], Some}
use Rattle.lnfs_world.specs.World.{Kind, File, Directory, SymbolicLink, is_directory}
use Rattle.lnfs_world.specs.Names.{entry_at}
use Rattle.lnfs_world.specs.Tree.{parent_of}
use Rattle.lnfs_world.specs.Outcome.{Site, Act}
use Rattle.lnfs_arguments.specs.declared.statuses.TheConstants.{NFS4ERR_NOENT, NFS4ERR_NOTDIR, NFS4ERR_SYMLINK}
use Rattle.lnfs_monitor.specs.Rules.{Read}
use Rattle.lnfs_operations.specs.declared.Gate.TheVariants.{Namespace}
use Rattle.lnfs_operations.specs.Chain.{Answer, refuse, done, demand, where_there}
use Rattle.lnfs_operations.specs.Judged.{where_allowed}
use Rattle.lnfs_operations.specs.Handles.{with_current}
use Rattle.lnfs_operations.specs.Names.{where_named}

abbrev pub is_link : Kind → Bool
is_link File = false
is_link Directory = false
is_link SymbolicLink = true

abbrev pub lookup : Site → (name : List ℕ) → Act (Answer (Unit {0}))
lookup site name p w =
    where_named p name (
    with_current p w (λ d.
    demand (not (is_link d.kind)) (refuse p Namespace NFS4ERR_SYMLINK) (
    demand (is_directory d.kind) (refuse p Namespace NFS4ERR_NOTDIR) (
    where_allowed site p (Read d.label) (
    where_there (entry_at w.entries d.id name) (λ e. done (record p { current = Some e.node }) tt []) (refuse p Namespace NFS4ERR_NOENT))))))

-- the root has no parent
abbrev pub lookup_parent : Site → Act (Answer (Unit {0}))
lookup_parent site p w =
    with_current p w (λ d.
    demand (is_directory d.kind) (refuse p Namespace NFS4ERR_NOTDIR) (
    where_allowed site p (Read d.label) (
    where_there (parent_of w.entries d.id) (λ i. done (record p { current = Some i }) tt []) (refuse p Namespace NFS4ERR_NOENT))))
