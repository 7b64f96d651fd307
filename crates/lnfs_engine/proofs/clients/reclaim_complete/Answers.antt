use Rattle.std.proofs.Common.{Some, sym, ap, ◌∙◌}
use Rattle.lnfs_arguments.specs.declared.types.Op.TheVariants as ops
use Rattle.lnfs_results.specs.declared.types.OpResult.TheVariants as results
use Rattle.lnfs_world.specs.Outcome.{Place, begins_at}
use Rattle.lnfs_operations.specs.ReclaimComplete.{reclaim_complete}
use Rattle.lnfs_operations.specs.Served.{Reply, Nowhere, success, reply_of}
use Rattle.lnfs_session.specs.Standing.{Lists, standing}
use Rattle.lnfs_session.specs.Answers.{nothing_of}
use Rattle.lnfs_engine.proofs.Own.{reclaim_complete_own, reclaim_complete_sessions}
use Rattle.lnfs_engine.proofs.Acting.{not_memory, refused_as, acts, some_world, some_moment}
use Rattle.lnfs_engine.proofs.clients.reclaim_complete.Goals as goal

abbrev told : Unit {0} → Reply
told _ = success results.ReclaimComplete Nowhere

pub returns-in-Ok-clause-acts : goal.returns-in-Ok-clause-acts
returns-in-Ok-clause-acts c = λ site sent at rest.
    let op = ops.ReclaimComplete c.args.one_fs in
    let p : Place = record at { subject = c.args.client.level; client = Some c.args.client.number } in
    let w = standing rest c.args.clients.now in
    acts rest rest.opens c.args.clients.now c.reclaim_complete.new.self (reclaim_complete c.args.one_fs p w) _ p _ (reclaim_complete_own c.args.one_fs p w)
    (ap (reply_of op told) (sym (c.in-Ok.ensures.answer at rest)))
    (c.in-Ok.ensures.lists at rest)

pub returns-in_ok-refused_by-in-Err-clause-acts : goal.returns-in_ok-refused_by-in-Err-clause-acts
returns-in_ok-refused_by-in-Err-clause-acts c = λ site sent at rest.
    let op = ops.ReclaimComplete c.args.one_fs in
    let p : Place = record at { subject = c.args.client.level; client = Some c.args.client.number } in
    let w = standing rest c.args.clients.now in
    let why = c.in_ok-refused_by-in-Err.field-0 in
    let is = c.in_ok-refused_by-in-Err.ensures in
    acts rest rest.opens c.args.clients.now c.reclaim_complete.new.self (reclaim_complete c.args.one_fs p w) _ p _ (reclaim_complete_own c.args.one_fs p w)
    (refused_as nothing_of op told _ c.in-Err.error why is (c.in-Err.ensures.answer at rest))
    (not_memory (Unit {0}) c.in-Err.error why is c.in-Err.ensures.lists at rest)

pub returns-in-Ok-clause-sessions : goal.returns-in-Ok-clause-sessions
returns-in-Ok-clause-sessions c =
    let p : Place = record (begins_at c.args.client.level some_moment) { client = Some c.args.client.number } in
    ap (λ (l : Lists). l.sessions) (c.in-Ok.ensures.lists p some_world) ∙ reclaim_complete_sessions c.args.one_fs p (standing some_world c.args.clients.now)
