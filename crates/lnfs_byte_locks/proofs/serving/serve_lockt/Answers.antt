use Rattle.std.proofs.Common.{◌∙◌, ap}
use Rattle.lnfs_xdr.specs.Reading.{read}
use Rattle.lnfs_site.specs.Site.{site_of}
use Rattle.lnfs_operations.specs.Chain.{Answer}
use Rattle.lnfs_operations.specs.Extra.{place_at}
use Rattle.lnfs_engine.specs.Further.{spot_of}
use Rattle.lnfs_locks.specs.Arguments.{LockTArgs, lockt_args}
use Rattle.lnfs_locks.specs.Effects.{Came}
use Rattle.lnfs_locks.specs.LockT.{lockt}
use Rattle.lnfs_lock_args.specs.Values.{lockt_args_of}
use Rattle.lnfs_lock_args.proofs.Deciding.{on_read, with_read}
use Rattle.lnfs_byte_locks.proofs.Concluded.{ends_as, refusal_ends}
use Rattle.lnfs_byte_locks.proofs.serving.serve_lockt.Goals as goal

pub returns-in-Ok : goal.returns-in-Ok
returns-in-Ok c =
    let next : LockTArgs → Answer Came = λ args. (lockt (site_of c.args.at.now.site.now) args c.args.locks.now (place_at (spot_of c.args.at.now)) c.args.store.now).answer in
    ends_as _ _ c.lockt.result c.args.locks.now c.args.locks.now
    (with_read lockt_args_of c.read_lockt.result (read lockt_args c.args.args.now) c.read_lockt.ensures next ∙ ap (λ r. on_read lockt_args_of r next) c.in-Ok.is) c.lockt.ensures

pub returns-in-Err : goal.returns-in-Err
returns-in-Err c =
    let next : LockTArgs → Answer Came = λ args. (lockt (site_of c.args.at.now.site.now) args c.args.locks.now (place_at (spot_of c.args.at.now)) c.args.store.now).answer in
    refusal_ends _ c.unreadable.result _ c.refused.result c.args.locks.now c.refused.ensures c.unreadable.ensures
    (with_read lockt_args_of c.read_lockt.result (read lockt_args c.args.args.now) c.read_lockt.ensures next ∙ ap (λ r. on_read lockt_args_of r next) c.in-Err.is)
