use Rattle.std.proofs.Common.{◌≡◌, false}
use Rattle.lnfs_locks.specs.Locks.{rows_of}
use Rattle.lnfs_locks.specs.Outcome.{locking}
use Rattle.lnfs_step.specs.Journal.{IsKept}
use Rattle.lnfs_vault.specs.Pieces.{state_of}
use Rattle.lnfs_test_extra.proofs.locks.replies_alone.Given as goal

-- the state is kept
abbrev pub invariant-loop-event : goal.invariant-loop-event
invariant-loop-event g l = l.core.stopped ≡ false → IsKept locking l.core.policy (state_of rows_of l.core)
