use Rattle.lnfs_locks.proofs.LockCarried.{locks_carry}
use Rattle.lnfs_locks.proofs.LockLaws as locks
use Rattle.lnfs_locks.proofs.laws.locks_are_lawful.Goals as goal

pub returns : goal.returns
returns c = record { laws = locks.locks_are_lawful; labels = locks_carry }
