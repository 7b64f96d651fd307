use Rattle.std.proofs.Common.{◌∙◌, ap}
use Rattle.lnfs_xdr.specs.Reading.{read}
use Rattle.lnfs_site.specs.Site.{site_of}
use Rattle.lnfs_operations.specs.Chain.{Answer}
use Rattle.lnfs_operations.specs.Extra.{place_at}
use Rattle.lnfs_engine.specs.Further.{spot_of}
use Rattle.lnfs_locks.specs.Arguments.{LockArgs, lock_args}
use Rattle.lnfs_locks.specs.Effects.{Came}
use Rattle.lnfs_locks.specs.Lock.{lock}
use Rattle.lnfs_lock_args.specs.Values.{lock_args_of}
use Rattle.lnfs_lock_args.proofs.Deciding.{on_read, with_read}
use Rattle.lnfs_byte_locks.proofs.Concluded.{ends_as, refusal_ends}
use Rattle.lnfs_byte_locks.proofs.serving.serve_lock.Goals as goal

pub returns-in-Ok : goal.returns-in-Ok
returns-in-Ok c =
    let next : LockArgs → Answer Came = λ args. (lock (site_of c.args.at.now.site.now) args c.args.locks.now (place_at (spot_of c.args.at.now)) c.args.store.now).answer in
    ends_as _ _ c.lock.result c.args.locks.now c.lock.new.locks
    (with_read lock_args_of c.read_lock.result (read lock_args c.args.args.now) c.read_lock.ensures next ∙ ap (λ r. on_read lock_args_of r next) c.in-Ok.is) c.lock.ensures

pub returns-in-Err : goal.returns-in-Err
returns-in-Err c =
    let next : LockArgs → Answer Came = λ args. (lock (site_of c.args.at.now.site.now) args c.args.locks.now (place_at (spot_of c.args.at.now)) c.args.store.now).answer in
    refusal_ends _ c.unreadable.result _ c.refused.result c.args.locks.now c.refused.ensures c.unreadable.ensures
    (with_read lock_args_of c.read_lock.result (read lock_args c.args.args.now) c.read_lock.ensures next ∙ ap (λ r. on_read lock_args_of r next) c.in-Err.is)
