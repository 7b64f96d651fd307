use Rattle.std.proofs.Common.{sym, ap}
use Rattle.lnfs_arguments.specs.declared.types.Op.TheVariants as ops
use Rattle.lnfs_results.specs.declared.types.OpResult.TheVariants as results
use Rattle.lnfs_world.specs.Outcome.{begins_at}
use Rattle.lnfs_operations.specs.DestroySession.{destroy_session}
use Rattle.lnfs_operations.specs.Served.{Reply, Nowhere, success, reply_of}
use Rattle.lnfs_session.specs.Standing.{standing}
use Rattle.lnfs_session.specs.Answers.{nothing_of}
use Rattle.lnfs_engine.proofs.Own.{destroy_session_own}
use Rattle.lnfs_engine.proofs.Acting.{not_memory, refused_as, acts}
use Rattle.lnfs_engine.proofs.sessions.destroy_session.Goals as goal

abbrev told : Unit {0} → Reply
told _ = success results.DestroySession Nowhere

pub returns-in-Ok : goal.returns-in-Ok
returns-in-Ok c = λ site sent moment rest.
    let op = ops.DestroySession c.args.session in
    let p = begins_at c.args.level moment in
    let w = standing rest c.args.clients.now in
    acts rest rest.opens c.args.clients.now c.destroy_session.new.self (destroy_session c.args.session p w) _ p _ (destroy_session_own c.args.level moment w c.args.session)
    (ap (reply_of op told) (sym (c.in-Ok.ensures.answer moment rest)))
    (c.in-Ok.ensures.lists moment rest)

pub returns-in_ok-refused_by-in-Err : goal.returns-in_ok-refused_by-in-Err
returns-in_ok-refused_by-in-Err c = λ site sent moment rest.
    let op = ops.DestroySession c.args.session in
    let p = begins_at c.args.level moment in
    let w = standing rest c.args.clients.now in
    let why = c.in_ok-refused_by-in-Err.field-0 in
    let is = c.in_ok-refused_by-in-Err.ensures in
    acts rest rest.opens c.args.clients.now c.destroy_session.new.self (destroy_session c.args.session p w) _ p _ (destroy_session_own c.args.level moment w c.args.session)
    (refused_as nothing_of op told _ c.in-Err.error why is (c.in-Err.ensures.answer moment rest))
    (not_memory (Unit {0}) c.in-Err.error why is c.in-Err.ensures.lists moment rest)
