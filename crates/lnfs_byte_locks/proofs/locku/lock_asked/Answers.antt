use Rattle.lnfs_world.specs.Outcome.{Place}
use Rattle.lnfs_operations.specs.Extra.{place_at}
use Rattle.lnfs_engine.specs.Further.{spot_of}
use Rattle.lnfs_lock_args.specs.Values.{locku_args_of}
use Rattle.lnfs_locks.specs.Arguments.{LockUArgs}
use Rattle.lnfs_byte_locks.proofs.Unlocks.{err_asked, asked_names}
use Rattle.lnfs_byte_locks.proofs.locku.lock_asked.Goals as goal

pub returns-in_err-held : goal.returns-in_err-held
returns-in_err-held c =
    let at : Place = place_at (spot_of c.args.at.now) in
    let args : LockUArgs = locku_args_of c.args.args.now in
    err_asked args c.args.locks.now at c.args.store.now c.from_residual.result c.in_err-held.field-0.0 c.from_residual.ensures.1 c.in_err-held.ensures

pub returns : goal.returns
returns c =
    let at : Place = place_at (spot_of c.args.at.now) in
    let args : LockUArgs = locku_args_of c.args.args.now in
    asked_names args c.args.locks.now at c.args.store.now c.in_ok-held.held c.in_ok-held.ensures c.lock_named.result
    (c.lock_named.ensures c.in_ok-held.ensures.node c.in_ok-held.ensures.holds.id)
