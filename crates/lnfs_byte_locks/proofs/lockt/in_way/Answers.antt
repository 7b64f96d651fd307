use Rattle.std.proofs.Common.{◌∙◌, sym, ap}
use Rattle.lnfs_world.specs.Outcome.{Place, Outcome}
use Rattle.lnfs_site.specs.Site.{site_of}
use Rattle.lnfs_operations.specs.Chain.{Answer}
use Rattle.lnfs_operations.specs.Extra.{place_at}
use Rattle.lnfs_engine.specs.Further.{spot_of}
use Rattle.lnfs_lock_args.specs.Values.{lockt_args_of}
use Rattle.lnfs_locks.specs.Effects.{Came}
use Rattle.lnfs_byte_locks.proofs.LockTests.{err_tested, outside, inside, behind, unread, tested}
use Rattle.lnfs_byte_locks.proofs.lockt.in_way.Goals as goal

pub returns-in_default-clause-tested : goal.returns-in_default-clause-tested
returns-in_default-clause-tested c =
    let at : Place = place_at (spot_of c.args.at.now) in
    sym (ap (λ (o : Outcome (Answer Came)). o.answer) (outside (site_of c.args.at.now.site.now) (lockt_args_of c.args.args.now) c.args.locks.now at c.args.store.now c.in_default.is))

pub returns-in_err-held-clause-tested : goal.returns-in_err-held-clause-tested
returns-in_err-held-clause-tested c =
    let at : Place = place_at (spot_of c.args.at.now) in
    let site = site_of c.args.at.now.site.now in
    err_tested at c.from_residual.result c.in_err-held.field-0.0 c.from_residual.ensures.1 _
    (inside site (lockt_args_of c.args.args.now) c.args.locks.now at c.args.store.now c.in-Some.client c.in-Some.is
    ∙ c.in_err-held.ensures (behind site (lockt_args_of c.args.args.now) c.args.locks.now at c.args.store.now c.in-Some.client))

pub returns-in_err-check_allowed-clause-tested : goal.returns-in_err-check_allowed-clause-tested
returns-in_err-check_allowed-clause-tested c =
    let at : Place = place_at (spot_of c.args.at.now) in
    err_tested at c.from_residual-in_err-check_allowed.result c.in_err-check_allowed.field-0.0 c.from_residual-in_err-check_allowed.ensures.1 _
    (unread (site_of c.args.at.now.site.now) (lockt_args_of c.args.args.now) c.args.locks.now at c.args.store.now c.in-Some.client c.in-Some.is c.in_ok-held.held c.in_ok-held.ensures c.in_err-check_allowed.field-0.0 c.in_err-check_allowed.ensures)

pub returns-clause-tested : goal.returns-clause-tested
returns-clause-tested c =
    let at : Place = place_at (spot_of c.args.at.now) in
    tested (site_of c.args.at.now.site.now) (lockt_args_of c.args.args.now) c.args.locks.now at c.args.store.now c.in-Some.client c.in-Some.is c.in_ok-held.held c.in_ok-held.ensures c.in_ok-check_allowed.ensures c.first_in_way.result
    (c.first_in_way.ensures.denial c.in_ok-held.ensures.node c.in_ok-held.ensures.holds.id)
