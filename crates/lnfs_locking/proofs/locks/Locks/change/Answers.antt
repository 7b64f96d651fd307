use Rattle.std.proofs.Common.{◌≡◌, ◌&&◌, not, ap, ◌∙◌}
use Rattle.std.specs.Prelude.{◌==◌, filter}
use Rattle.lnfs_locks.specs.Locks as kept
use Rattle.lnfs_locks.specs.Locks.{Lock}
use Rattle.lnfs_locks.specs.Effects.{kept_with}
use Rattle.lnfs_world.specs.World.{Id}
use Rattle.lnfs_world.proofs.Keys.{id_same}
use Rattle.lnfs_counts.proofs.Rows.{found_id}
use Rattle.lnfs_locking.specs.Keys.{id_of}
use Rattle.lnfs_locking.specs.Rows.{lock_id, with_ranges, rows_with}
use Rattle.lnfs_locking.proofs.Settled.{settled_old}
use Rattle.lnfs_locking.proofs.locks.Locks.change.Goals as goal

pub returns : goal.returns
returns g c = λ l there is_old stays.
    let p = g.T.LockTest.passes c.args.going.now in
    let own = c.args.self.now in
    let i = id_of c.args.id in
    let level = c.args.id.level in
    let new : Lock = with_ranges c.args.seq c.args.ranges l in
    let same : i ≡ l.id = id_same i l.id (found_id lock_id own.locks i l there) in
    c.drop_gone.ensures
    ∙ (ap (λ (k : kept.Locks). record k { locks = filter (λ x. not (x.id.level == level && p x)) k.locks }) c.set.ensures.set
    ∙ (ap (λ o. let k : kept.Locks = record own { locks = rows_with (with_ranges c.args.seq c.args.ranges) o own.locks } in record k { locks = filter (λ x. not (x.id.level == level && p x)) k.locks }) there
    ∙ (settled_old own new level p stays c.set.ensures.rise is_old
    ∙ ap (λ (j : Id). kept_with new (filter (λ x. x.id.level == j.level && p x) own.locks) own) same)))
