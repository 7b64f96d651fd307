use Rattle.std.proofs.Common.{◌≡◌, ◌+◌, ◌&&◌, not, cond, map, length}
use Rattle.lnfs_world.specs.World.{same_id}
use Rattle.lnfs_locking.specs.Keys.{id_of}
use Rattle.lnfs_locking.specs.Rows.{entry_of, AreOwn}
use Rattle.lnfs_locking.specs.Usage.{total, locks_beside, ranges_beside}
use Rattle.lnfs_locking.proofs.LevelRuns.{level_run}
use Rattle.lnfs_locking.proofs.usage.usage_beside.Given as goal

abbrev pub invariant-loop-id : goal.invariant-loop-id
invariant-loop-id g l =
    let counts = g.T.LockTest.passes l.standing in
    record {
      own : AreOwn l.id-iterator;
      locks : l.usage.locks + total (λ e. cond (not (same_id (id_of l.own) (entry_of e).id) && counts (entry_of e)) 1 0) (level_run l.own.level l.id-iterator) ≡ locks_beside counts (id_of l.own) (map entry_of l.rows.entries);
      ranges : l.usage.ranges + total (λ e. cond (not (same_id (id_of l.own) (entry_of e).id) && counts (entry_of e)) (length (entry_of e).ranges) 0) (level_run l.own.level l.id-iterator) ≡ ranges_beside counts (id_of l.own) (map entry_of l.rows.entries);
    }
