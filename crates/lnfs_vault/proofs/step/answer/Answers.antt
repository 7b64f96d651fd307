use Rattle.std.proofs.Common.{sym, ap, ◌∙◌}
use Rattle.lnfs_world.specs.Both.{both}
use Rattle.lnfs_step.specs.Request.{MakeContext, EndContext}
use Rattle.lnfs_vault.specs.Requests.{seen_call, seen_task}
use Rattle.lnfs_vault.proofs.Calls.{done, done_said}
use Rattle.lnfs_vault.proofs.step.answer.Goals as goal

pub returns-in-MakeContext : goal.returns-in-MakeContext
returns-in-MakeContext g c =
    let rows = g.X.ExtraRows.rows in
    let asked = c.in-MakeContext.asked in
    let p = c.args.site.now in
    let event = c.args.arrival.event.now in
    done g.X.ExtraRows.extra g.M.Mechanism.signing p (both c.args.engine.now.store (rows c.args.engine.now.extra)) (both c.make_context.new.engine.store (rows c.make_context.new.engine.extra)) event
    (seen_call c.args.call.now) (seen_task c.args.task.now) (MakeContext asked.parent (record { lfs = asked.lfs; pi = asked.pi; label = asked.label })) c.args.arrival.at c.make_context.result
    (sym c.is_there.ensures ∙ c.if-not-is_there.false) (ap seen_task c.in-MakeContext.is)
    (c.make_context.ensures p event)

pub returns-in-EndContext : goal.returns-in-EndContext
returns-in-EndContext g c =
    let rows = g.X.ExtraRows.rows in
    let p = c.args.site.now in
    let event = c.args.arrival.event.now in
    done_said g.X.ExtraRows.extra g.M.Mechanism.signing p (both c.args.engine.now.store (rows c.args.engine.now.extra)) (both c.end_context.new.engine.store (rows c.end_context.new.engine.extra)) event
    (seen_call c.args.call.now) (seen_task c.args.task.now) (EndContext c.in-EndContext.context.number) c.args.arrival.at c.end_context.result
    (sym c.is_there.ensures ∙ c.if-not-is_there.false) (ap seen_task c.in-EndContext.is)
    (c.end_context.ensures p event)
