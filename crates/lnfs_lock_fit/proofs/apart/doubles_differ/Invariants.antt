use Rattle.std.proofs.Common.{take}
use Rattle.lnfs_world.specs.Rows.{Apart}
use Rattle.lnfs_rows.specs.World.{world_of}
use Rattle.lnfs_locks.specs.Facts.{are_doubles}
use Rattle.lnfs_lock_fit.specs.Keys.{AreHolders}
use Rattle.lnfs_lock_fit.specs.RowsOf.{locks_of}
use Rattle.lnfs_lock_fit.proofs.apart.doubles_differ.Given as goal

abbrev pub invariant-loop-place : goal.invariant-loop-place
invariant-loop-place l = record {
  apart : Apart (are_doubles (world_of l.lists)) (take l.place (locks_of l.rows));
  seen : AreHolders (world_of l.lists) l.seen (take l.place (locks_of l.rows));
}
