-- LOCKT (RFC 8881 section 18.11): it tests for a lock, and needs no open.
use Rattle.std.specs.Prelude.{[]}
use Rattle.lnfs_arguments.specs.declared.statuses.TheConstants.{NFS4ERR_OP_NOT_IN_SESSION}
use Rattle.lnfs_world.specs.Outcome.{Site, Act}
use Rattle.lnfs_monitor.specs.Rules.{Read}
use Rattle.lnfs_operations.specs.declared.Gate.TheVariants.{Session}
use Rattle.lnfs_operations.specs.Chain.{Answer, refuse, done, where_there}
use Rattle.lnfs_operations.specs.Judged.{where_allowed}
use Rattle.lnfs_operations.specs.Handles.{with_current}
use Rattle.lnfs_operations.specs.Files.{where_file}
use Rattle.lnfs_locks.specs.Arguments.{LockTArgs}
use Rattle.lnfs_locks.specs.Locks.{Locks}
use Rattle.lnfs_locks.specs.Ranges.{where_range}
use Rattle.lnfs_locks.specs.Effects.{Came, Free}
use Rattle.lnfs_locks.specs.Lock.{asker, where_free}

abbrev pub lockt : Site → LockTArgs → Locks → Act (Answer Came)
lockt site args own p w =
    where_there p.client
    (λ client.
    where_range p args.asked (
    with_current p w (λ n.
    where_file p n (
    where_allowed site p (Read n.label) (
    where_free site own p w n (asker p client args.owner) args.asked (
    done p Free []))))))
    (refuse p Session NFS4ERR_OP_NOT_IN_SESSION)
