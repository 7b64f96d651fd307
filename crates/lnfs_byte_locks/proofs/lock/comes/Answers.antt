use Rattle.std.proofs.Common.{sym, subst, ◌∙◌, Option}
use Rattle.lnfs_arguments.specs.declared.statuses.TheConstants.{NFS4ERR_NOSPC}
use Rattle.lnfs_world.specs.Outcome.{Place}
use Rattle.lnfs_site.specs.Site.{site_of}
use Rattle.lnfs_operations.specs.declared.Gate.TheVariants.{Quota}
use Rattle.lnfs_operations.specs.Extra.{place_at}
use Rattle.lnfs_engine.specs.Further.{spot_of}
use Rattle.lnfs_lock_args.specs.Values.{lock_args_of}
use Rattle.lnfs_locks.specs.Arguments.{LockArgs}
use Rattle.lnfs_locks.specs.Locks.{Lock}
use Rattle.lnfs_byte_locks.specs.declared.taking.Taking.{Taking}
use Rattle.lnfs_byte_locks.specs.Holders.{lock_held}
use Rattle.lnfs_byte_locks.specs.Taking.{MayTake}
use Rattle.lnfs_byte_locks.proofs.LockEnds.{ends_refused, ends_tested, not_asks, denied, no_room, holds}
use Rattle.lnfs_byte_locks.proofs.lock.comes.Goals as goal

pub returns-in-Err : goal.returns-in-Err
returns-in-Err c =
    let p : Place = place_at (spot_of c.args.at.now) in
    ends_refused _ c.in-Err.why c.args.locks.now _ (not_asks (site_of c.args.at.now.site.now) (lock_args_of c.args.args.now) c.args.locks.now p c.args.store.now c.in-Err.why c.in-Err.ensures) c.refused.ensures

pub returns-then-is_some : goal.returns-then-is_some
returns-then-is_some c =
    let p : Place = place_at (spot_of c.args.at.now) in
    let asks = c.in-Ok.ensures in
    ends_tested _ c.first_in_way-in_way.result c.args.locks.now _
    (denied (site_of c.args.at.now.site.now) (lock_args_of c.args.args.now) c.args.locks.now p c.args.store.now c.in-Ok.asks asks c.first_in_way-in_way.result
    (c.first_in_way-in_way.ensures.denial asks.node asks.id) (sym c.is_some.ensures ∙ c.if-is_some.true))
    c.in_ok-tested.ensures

pub returns-in_default : goal.returns-in_default
returns-in_default c =
    let p : Place = place_at (spot_of c.args.at.now) in
    let args : LockArgs = lock_args_of c.args.args.now in
    let asks = c.in-Ok.ensures in
    let held : Lock = lock_held c.args.locks.now p c.in-Ok.asks.client asks.node c.in-Ok.asks.holder in
    let full = subst (λ (o : Option Taking). MayTake args.asked c.args.locks.now p c.args.store.now c.in-Ok.asks.client asks.node held o) c.in_default.is (c.in_ok-taking.ensures asks.node asks.id asks.lock_is) in
    ends_refused _ (record { gate = Quota; status = NFS4ERR_NOSPC }) c.args.locks.now _
    (no_room (site_of c.args.at.now.site.now) args c.args.locks.now p c.args.store.now c.in-Ok.asks asks c.first_in_way-in_way.result
    (c.first_in_way-in_way.ensures.denial asks.node asks.id) (sym c.is_some.ensures ∙ c.if-is_some.false) full)
    c.refused-in_default.ensures

pub returns : goal.returns
returns c =
    let p : Place = place_at (spot_of c.args.at.now) in
    let args : LockArgs = lock_args_of c.args.args.now in
    let asks = c.in-Ok.ensures in
    let held : Lock = lock_held c.args.locks.now p c.in-Ok.asks.client asks.node c.in-Ok.asks.holder in
    let may = subst (λ (o : Option Taking). MayTake args.asked c.args.locks.now p c.args.store.now c.in-Ok.asks.client asks.node held o) c.in-Some.is (c.in_ok-taking.ensures asks.node asks.id asks.lock_is) in
    record {
      takes = record { client = c.in-Ok.asks.client; node = asks.node; lock = held; taken = may.1 };
      answer = holds (site_of c.args.at.now.site.now) args c.args.locks.now p c.args.store.now c.in-Ok.asks asks c.first_in_way-in_way.result
          (c.first_in_way-in_way.ensures.denial asks.node asks.id) (sym c.is_some.ensures ∙ c.if-is_some.false) may.0;
    }
