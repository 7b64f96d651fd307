use Rattle.std.proofs.Common.{subst}
use Rattle.lnfs_world.specs.Rows.{Rising}
use Rattle.lnfs_locks.specs.Locks as kept
use Rattle.lnfs_locks.specs.Locks.{lock_order}
use Rattle.lnfs_locking.proofs.locks.Locks.next_gone.Goals as goal

pub returns-in_err-id-clause-rise : goal.returns-in_err-id-clause-rise
returns-in_err-id-clause-rise g c = subst (λ (k : kept.Locks). Rising lock_order k.locks) c.self.view_is c.self.invariant.indexed.rise

pub returns-clause-rise : goal.returns-clause-rise
returns-clause-rise g c = subst (λ (k : kept.Locks). Rising lock_order k.locks) c.self.view_is c.self.invariant.indexed.rise
