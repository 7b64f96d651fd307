use Rattle.std.proofs.Common.{refl}
use Rattle.lnfs_world.specs.Outcome.{Place}
use Rattle.lnfs_operations.specs.Extra.{place_at}
use Rattle.lnfs_engine.specs.Further.{spot_of}
use Rattle.lnfs_locks.specs.Arguments.{New}
use Rattle.lnfs_byte_locks.proofs.OwnLocks.{err_holder, no_opening, under_opening}
use Rattle.lnfs_byte_locks.proofs.holders.new_holder.Goals as goal

pub returns-in_err-opened : goal.returns-in_err-opened
returns-in_err-opened c = λ client n of node.
    let p : Place = place_at (spot_of c.args.at.now) in
    err_holder c.args.locks.now p c.args.store.now client n (New c.args.opening.now c.args.owner.now) c.from_residual.result c.in_err-opened.field-0.0 c.from_residual.ensures.1
    (no_opening c.args.store.now c.args.locks.now c.requires.facts p client of n c.args.opening.now c.args.owner.now c.in_err-opened.field-0.0 (c.in_err-opened.ensures n node))

pub returns : goal.returns
returns c = λ client n of node.
    let p : Place = place_at (spot_of c.args.at.now) in
    under_opening c.args.store.now c.args.locks.now c.requires.facts p client of n c.args.opening.now c.args.owner.now c.in_ok-opened.opened (c.in_ok-opened.ensures n node) _ refl refl refl c.told_under-lock.ensures
