use Rattle.lnfs_world.specs.Outcome.{Place}
use Rattle.lnfs_site.specs.Site.{site_of}
use Rattle.lnfs_operations.specs.Extra.{place_at}
use Rattle.lnfs_engine.specs.Further.{spot_of}
use Rattle.lnfs_lock_args.specs.Values.{lock_args_of}
use Rattle.lnfs_byte_locks.proofs.LockAsks.{err_target, no_client, no_file, no_grace, not_allowed, is_target}
use Rattle.lnfs_byte_locks.proofs.asks.find_target.Goals as goal

pub returns-in_default : goal.returns-in_default
returns-in_default c = no_client (site_of c.args.at.now.site.now) (lock_args_of c.args.args.now) (place_at (spot_of c.args.at.now)) c.args.store.now c.in_default.is

pub returns-in_err-held : goal.returns-in_err-held
returns-in_err-held c =
    let p : Place = place_at (spot_of c.args.at.now) in
    let site = site_of c.args.at.now.site.now in
    let args = lock_args_of c.args.args.now in
    err_target site args p c.args.store.now c.from_residual.result c.in_err-held.field-0.0 c.from_residual.ensures.1
    (no_file site args p c.args.store.now c.in-Some.client c.in-Some.is c.in_err-held.field-0.0 c.in_err-held.ensures)

pub returns-then-args : goal.returns-then-args
returns-then-args c =
    no_grace (site_of c.args.at.now.site.now) (lock_args_of c.args.args.now) (place_at (spot_of c.args.at.now)) c.args.store.now c.in-Some.client c.in-Some.is c.in_ok-held.held c.in_ok-held.ensures c.if-args.true

pub returns-in_err-check_allowed : goal.returns-in_err-check_allowed
returns-in_err-check_allowed c =
    let p : Place = place_at (spot_of c.args.at.now) in
    let site = site_of c.args.at.now.site.now in
    let args = lock_args_of c.args.args.now in
    err_target site args p c.args.store.now c.from_residual-in_err-check_allowed.result c.in_err-check_allowed.field-0.0 c.from_residual-in_err-check_allowed.ensures.1
    (not_allowed site args p c.args.store.now c.in-Some.client c.in-Some.is c.in_ok-held.held c.in_ok-held.ensures c.if-args.false c.in_err-check_allowed.field-0.0 c.in_err-check_allowed.ensures)

pub returns : goal.returns
returns c =
    is_target (site_of c.args.at.now.site.now) (lock_args_of c.args.args.now) (place_at (spot_of c.args.at.now)) c.args.store.now c.in-Some.client c.in-Some.is c.in_ok-held.held c.in_ok-held.ensures c.if-args.false c.in_ok-check_allowed.ensures
