-- The arguments as the code has them, and what they stand for.
use Rattle.lnfs_locks.specs.Arguments as args
use Rattle.lnfs_lock_args.specs.declared.asked.Asked.{Asked}
use Rattle.lnfs_lock_args.specs.declared.values.Locker.{Locker}
use Rattle.lnfs_lock_args.specs.declared.values.Locker.TheVariants.{New, Known}
use Rattle.lnfs_lock_args.specs.declared.values.LockArgs.{LockArgs}
use Rattle.lnfs_lock_args.specs.declared.values.LockTArgs.{LockTArgs}
use Rattle.lnfs_lock_args.specs.declared.values.LockUArgs.{LockUArgs}

abbrev pub asked_of : Asked → args.Asked
asked_of a = record { kind = a.kind; offset = a.offset; length = a.length }

abbrev pub locker_of : Locker → args.Locker
locker_of (New opening owner) = args.New opening owner.now
locker_of (Known lock) = args.Known lock

abbrev pub lock_args_of : LockArgs → args.LockArgs
lock_args_of a = record { asked = asked_of a.asked; reclaim = a.reclaim; locker = locker_of a.locker }

abbrev pub lockt_args_of : LockTArgs → args.LockTArgs
lockt_args_of a = record { asked = asked_of a.asked; owner = a.owner.now }

abbrev pub locku_args_of : LockUArgs → args.LockUArgs
locku_args_of a = record { asked = asked_of a.asked; lock = a.lock }
