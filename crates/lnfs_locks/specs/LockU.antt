-- LOCKU (RFC 8881 section 18.12): no lock is left in the range. The type is looked at only as an argument.
use Rattle.std.specs.Prelude.{[]}
use Rattle.lnfs_arguments.specs.declared.statuses.TheConstants.{NFS4ERR_NOSPC}
use Rattle.lnfs_world.specs.Outcome.{Act}
use Rattle.lnfs_operations.specs.declared.Gate.TheVariants.{Quota}
use Rattle.lnfs_operations.specs.Chain.{Answer, refuse, done, demand}
use Rattle.lnfs_operations.specs.Handles.{with_current}
use Rattle.lnfs_operations.specs.Files.{where_file}
use Rattle.lnfs_locks.specs.Arguments.{LockUArgs}
use Rattle.lnfs_locks.specs.Locks.{Locks}
use Rattle.lnfs_locks.specs.StateIds.{where_lock}
use Rattle.lnfs_locks.specs.Ranges.{where_range}
use Rattle.lnfs_locks.specs.Effects.{Came, Holds, unlocked, gone_by_unlocking, has_ranges_left}

-- A range in the middle makes two of one, for which there may be no room.
abbrev pub locku : LockUArgs → Locks → Act (Answer Came)
locku args own p w =
    where_range p args.asked (
    with_current p w (λ n.
    where_file p n (
    where_lock own p w n args.lock (λ o l.
    demand (has_ranges_left w (unlocked args.asked l) own.locks) (refuse p Quota NFS4ERR_NOSPC) (
    done p (Holds (unlocked args.asked l) (gone_by_unlocking w p.subject own.locks)) [])))))
