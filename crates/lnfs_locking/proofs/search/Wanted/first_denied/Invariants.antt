use Rattle.std.proofs.Common.{◌≡◌, map}
use Rattle.std.specs.Option.{option_and_then}
use Rattle.lnfs_calipso.specs.Label.{dom_of}
use Rattle.lnfs_locking.specs.Keys.{id_of}
use Rattle.lnfs_locking.specs.Rows.{entry_of, lock_at}
use Rattle.lnfs_locks.specs.Denial.{is_rival, denied_by, denial, first_of}
use Rattle.lnfs_locking.specs.Asking.{asker_of}
use Rattle.lnfs_locking.proofs.Runs.{group_run}
use Rattle.lnfs_locking.proofs.search.Wanted.first_denied.Given as goal

abbrev pub invariant-loop-place : goal.invariant-loop-place
invariant-loop-place g l =
    let rival = is_rival (dom_of l.rival.lattice.now) (g.T.LockTest.passes l.standing) (asker_of l.rival) in
    first_of (λ e. option_and_then (denied_by rival l.self.first l.self.last l.self.write) (lock_at (map entry_of l.rows.entries) (id_of e.0.id))) (group_run l.node l.place-iterator)
    ≡ denial rival (id_of l.node) l.self.first l.self.last l.self.write (map entry_of l.rows.entries)
