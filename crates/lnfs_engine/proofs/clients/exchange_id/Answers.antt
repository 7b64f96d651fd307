use Rattle.std.proofs.Common.{sym, ap}
use Rattle.lnfs_arguments.specs.declared.types.Op.TheVariants as ops
use Rattle.lnfs_world.specs.Outcome.{begins_at}
use Rattle.lnfs_operations.specs.ExchangeId.{Arguments, exchange_id}
use Rattle.lnfs_operations.specs.Served.{told_reply, reply_of}
use Rattle.lnfs_session.specs.declared.exchange.ClientInfo.{ClientInfo}
use Rattle.lnfs_session.specs.Standing.{standing}
use Rattle.lnfs_session.specs.Answers.{told_of}
use Rattle.lnfs_engine.proofs.Own.{exchange_id_own}
use Rattle.lnfs_engine.proofs.Acting.{not_memory, refused_as, acts}
use Rattle.lnfs_engine.proofs.clients.exchange_id.Goals as goal

pub returns-in-Ok : goal.returns-in-Ok
returns-in-Ok c = λ site sent implementation moment rest behind.
    let args : Arguments = record { verifier = c.args.verifier; owner = c.args.owner.now; flags = c.args.flags } in
    let op = ops.ExchangeId c.args.verifier c.args.owner.now c.args.flags implementation in
    let p = begins_at c.args.level moment in
    let w = standing rest c.args.clients.now in
    acts rest rest.opens c.args.clients.now c.exchange_id.new.self (exchange_id args p w) _ p _ (exchange_id_own args p w behind)
    (ap (reply_of op (told_reply c.args.level)) (sym (c.in-Ok.ensures.answer moment rest)))
    (c.in-Ok.ensures.lists moment rest)

pub returns-in_ok-refused_by-in-Err : goal.returns-in_ok-refused_by-in-Err
returns-in_ok-refused_by-in-Err c = λ site sent implementation moment rest behind.
    let args : Arguments = record { verifier = c.args.verifier; owner = c.args.owner.now; flags = c.args.flags } in
    let op = ops.ExchangeId c.args.verifier c.args.owner.now c.args.flags implementation in
    let p = begins_at c.args.level moment in
    let w = standing rest c.args.clients.now in
    let why = c.in_ok-refused_by-in-Err.field-0 in
    let is = c.in_ok-refused_by-in-Err.ensures in
    acts rest rest.opens c.args.clients.now c.exchange_id.new.self (exchange_id args p w) _ p _ (exchange_id_own args p w behind)
    (refused_as told_of op (told_reply c.args.level) _ c.in-Err.error why is (c.in-Err.ensures.answer moment rest))
    (not_memory ClientInfo c.in-Err.error why is c.in-Err.ensures.lists moment rest)
