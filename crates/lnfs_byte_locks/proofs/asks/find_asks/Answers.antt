use Rattle.lnfs_world.specs.Outcome.{Place}
use Rattle.lnfs_site.specs.Site.{site_of}
use Rattle.lnfs_operations.specs.Extra.{place_at}
use Rattle.lnfs_engine.specs.Further.{spot_of}
use Rattle.lnfs_lock_args.specs.Values.{lock_args_of}
use Rattle.lnfs_byte_locks.proofs.LockAsks.{err_asks, no_target, no_holder, no_mode, are_asks}
use Rattle.lnfs_byte_locks.proofs.asks.find_asks.Goals as goal

pub returns-in_err-target : goal.returns-in_err-target
returns-in_err-target c =
    let p : Place = place_at (spot_of c.args.at.now) in
    let site = site_of c.args.at.now.site.now in
    let args = lock_args_of c.args.args.now in
    err_asks site args c.args.locks.now p c.args.store.now c.from_residual.result c.in_err-target.field-0.0 c.from_residual.ensures.1
    (no_target site args c.args.locks.now p c.args.store.now c.in_err-target.field-0.0 c.in_err-target.ensures)

pub returns-in_err-holder : goal.returns-in_err-holder
returns-in_err-holder c =
    let p : Place = place_at (spot_of c.args.at.now) in
    let site = site_of c.args.at.now.site.now in
    let args = lock_args_of c.args.args.now in
    let target = c.in_ok-target.ensures in
    err_asks site args c.args.locks.now p c.args.store.now c.from_residual-in_err-holder.result c.in_err-holder.field-0.0 c.from_residual-in_err-holder.ensures.1
    (no_holder site args c.args.locks.now p c.args.store.now c.in_ok-target.target target c.in_err-holder.field-0.0
    (c.in_err-holder.ensures c.in_ok-target.target.client target.node target.client target.id))

pub returns-then-holder-access-eq0 : goal.returns-then-holder-access-eq0
returns-then-holder-access-eq0 c =
    let p : Place = place_at (spot_of c.args.at.now) in
    let target = c.in_ok-target.ensures in
    no_mode (site_of c.args.at.now.site.now) (lock_args_of c.args.args.now) c.args.locks.now p c.args.store.now c.in_ok-target.target target
    c.in_ok-holder.holder (c.in_ok-holder.ensures c.in_ok-target.target.client target.node target.client target.id) c.access.result c.access.ensures c.if-holder-access-eq0.true

pub returns : goal.returns
returns c =
    let p : Place = place_at (spot_of c.args.at.now) in
    let target = c.in_ok-target.ensures in
    are_asks (site_of c.args.at.now.site.now) (lock_args_of c.args.args.now) c.args.locks.now p c.args.store.now c.in_ok-target.target target
    c.in_ok-holder.holder (c.in_ok-holder.ensures c.in_ok-target.target.client target.node target.client target.id) c.access.result c.access.ensures c.if-holder-access-eq0.false
