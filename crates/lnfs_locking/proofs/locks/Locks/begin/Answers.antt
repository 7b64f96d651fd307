use Rattle.std.proofs.Common.{◌&&◌, not, ap, ◌∙◌}
use Rattle.std.specs.Prelude.{◌==◌, filter}
use Rattle.lnfs_locks.specs.Locks as kept
use Rattle.lnfs_locking.specs.Keys.{id_of}
use Rattle.lnfs_locking.specs.Rows.{lock_of}
use Rattle.lnfs_locking.proofs.Settled.{settled_new}
use Rattle.lnfs_locking.proofs.locks.Locks.begin.Goals as goal

pub returns-clause-begun : goal.returns-clause-begun
returns-clause-begun g c =
    let p = g.T.LockTest.passes c.args.going.now in
    let level = c.args.id.level in
    c.drop_gone.ensures
    ∙ (ap (λ (k : kept.Locks). record k { locks = filter (λ x. not (x.id.level == level && p x)) k.locks }) c.in_ok-add.ensures.added
    ∙ settled_new c.args.self.now (lock_of (id_of c.args.id) c.args.row) level p c.requires.stays c.in_ok-add.ensures.rise c.requires.fresh)
