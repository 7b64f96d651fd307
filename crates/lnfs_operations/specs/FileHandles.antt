-- The operations on file handles alone: PUTFH, PUTROOTFH, GETFH, SAVEFH, RESTOREFH (RFC 8881 sections 18.19, 18.21,
-- 18.8, 18.28, 18.27).
use Rattle.std.specs.Prelude.{ℕ, List, [], Some}
use Rattle.lnfs_world.specs.World.{node_at}
use Rattle.lnfs_world.specs.Tree.{root}
use Rattle.lnfs_world.specs.Outcome.{Site, Act}
use Rattle.lnfs_arguments.specs.declared.statuses.TheConstants.{NFS4ERR_STALE, NFS4ERR_BADHANDLE, NFS4ERR_NOFILEHANDLE}
use Rattle.lnfs_operations.specs.declared.Gate.TheVariants.{Argument, Namespace}
use Rattle.lnfs_operations.specs.Chain.{Answer, refuse, done, demand, where_there}
use Rattle.lnfs_operations.specs.Judged.{where_home}
use Rattle.lnfs_operations.specs.Handles.{handle_of, handle_named, is_handle, with_current}

-- Whether the subject may name the node comes before whether there is one.
abbrev pub put_fh : Site → (handle : List ℕ) → Act (Answer (Unit {0}))
put_fh site handle p w =
    demand (is_handle site handle) (refuse p Argument NFS4ERR_BADHANDLE) (
    where_home site p (handle_named handle).level (
    where_there (node_at w.nodes (handle_named handle)) (λ n. done (record p { current = Some n.id }) tt []) (refuse p Namespace NFS4ERR_STALE)))

abbrev pub put_root_fh : Act (Answer (Unit {0}))
put_root_fh p w = done (record p { current = Some root }) tt []

abbrev pub get_fh : Act (Answer (List ℕ))
get_fh p w = with_current p w (λ n. done p (handle_of n.id) [])

abbrev pub save_fh : Act (Answer (Unit {0}))
save_fh p w = with_current p w (λ n. done (record p { saved = Some n.id }) tt [])

-- The node of the saved handle isn't looked at.
abbrev pub restore_fh : Act (Answer (Unit {0}))
restore_fh p w = where_there p.saved (λ i. done (record p { current = Some i }) tt []) (refuse p Namespace NFS4ERR_NOFILEHANDLE)
