use Rattle.std.proofs.Common.{◌∙◌, ap}
use Rattle.lnfs_xdr.specs.Reading.{read}
use Rattle.lnfs_operations.specs.Chain.{Answer}
use Rattle.lnfs_operations.specs.Extra.{place_at}
use Rattle.lnfs_engine.specs.Further.{spot_of}
use Rattle.lnfs_locks.specs.Arguments.{LockUArgs, locku_args}
use Rattle.lnfs_locks.specs.Effects.{Came}
use Rattle.lnfs_locks.specs.LockU.{locku}
use Rattle.lnfs_lock_args.specs.Values.{locku_args_of}
use Rattle.lnfs_lock_args.proofs.Deciding.{on_read, with_read}
use Rattle.lnfs_byte_locks.proofs.Concluded.{ends_as, refusal_ends}
use Rattle.lnfs_byte_locks.proofs.serving.serve_locku.Goals as goal

pub returns-in-Ok : goal.returns-in-Ok
returns-in-Ok c =
    let next : LockUArgs → Answer Came = λ args. (locku args c.args.locks.now (place_at (spot_of c.args.at.now)) c.args.store.now).answer in
    ends_as _ _ c.locku.result c.args.locks.now c.locku.new.locks
    (with_read locku_args_of c.read_locku.result (read locku_args c.args.args.now) c.read_locku.ensures next ∙ ap (λ r. on_read locku_args_of r next) c.in-Ok.is) c.locku.ensures

pub returns-in-Err : goal.returns-in-Err
returns-in-Err c =
    let next : LockUArgs → Answer Came = λ args. (locku args c.args.locks.now (place_at (spot_of c.args.at.now)) c.args.store.now).answer in
    refusal_ends _ c.unreadable.result _ c.refused.result c.args.locks.now c.refused.ensures c.unreadable.ensures
    (with_read locku_args_of c.read_locku.result (read locku_args c.args.args.now) c.read_locku.ensures next ∙ ap (λ r. on_read locku_args_of r next) c.in-Err.is)
