use Rattle.std.proofs.Common.{◌≡◌, length}
use Rattle.std.specs.Prelude.{not, filter}
use Rattle.lnfs_locking.specs.Keys.{id_of}
use Rattle.lnfs_locking.specs.Walks.{from_on}
use Rattle.lnfs_locking.proofs.locks.Locks.drop_gone.Given as goal

abbrev pub invariant-loop-id : goal.invariant-loop-id
invariant-loop-id g l =
    let test = g.T.LockTest.passes l.going in
    record {
      locks : filter (λ x. not (from_on (id_of l.from) test x)) l.self.locks ≡ filter (λ x. not (from_on (record { level = l.level; number = 0 }) test x)) l.fn.self.locks;
      lasts : l.self.lasts ≡ l.fn.self.lasts;
    }

abbrev pub decreases-loop-id : goal.decreases-loop-id
decreases-loop-id g l = length l.self.locks
