use Rattle.std.proofs.Common.{◌≡◌, map}
use Rattle.std.specs.Prelude.{find}
use Rattle.std.specs.Option.{option_map}
use Rattle.lnfs_locking.specs.Keys.{id_of}
use Rattle.lnfs_locking.specs.Rows.{entry_of, AreOwn}
use Rattle.lnfs_locking.specs.Walks.{from_on}
use Rattle.lnfs_locking.proofs.LevelRuns.{level_run}
use Rattle.lnfs_locking.proofs.walks.first_from.Given as goal

abbrev pub invariant-loop-id : goal.invariant-loop-id
invariant-loop-id g l =
    let test = g.T.LockTest.passes l.test in
    record {
      own : AreOwn l.id-iterator;
      found : option_map entry_of (find (λ e. test (entry_of e)) (level_run l.from.level l.id-iterator)) ≡ find (from_on (id_of l.from) test) (map entry_of l.rows.entries);
    }
