use Rattle.std.proofs.Common.{sym, subst}
use Rattle.std.specs.Prelude.{Result}
use Rattle.std.proofs.lemmas.Result.{IfOk-weaker}
use Rattle.lnfs_arguments.specs.declared.types.Op.TheVariants as ops
use Rattle.lnfs_results.specs.declared.types.OpResult.TheVariants as results
use Rattle.lnfs_world.specs.World.{World}
use Rattle.lnfs_world.specs.Outcome.{Site, Place}
use Rattle.lnfs_operations.specs.Sequence.{Sent}
use Rattle.lnfs_operations.specs.Served.{Nowhere, row}
use Rattle.lnfs_session.specs.Standing.{standing}
use Rattle.lnfs_operations.specs.declared.Refusal.{Refusal}
use Rattle.lnfs_engine.specs.Places.{place_of}
use Rattle.lnfs_engine.specs.Nodes.{told_as}
use Rattle.lnfs_engine.specs.Replies.{Acts, own_of}
use Rattle.lnfs_engine.proofs.perform.reclaim_in.Goals as goal

pub returns-clause-acts : goal.returns-clause-acts
returns-clause-acts c =
    let op = ops.ReclaimComplete c.args.one_fs in
    let p = place_of c.args.place.now in
    let before = c.args.clients.now in
    let after = c.reclaim_complete.new.clients in
    let Acts-at : Place → Site → Sent → Result (Unit {0}) Refusal → World → Type 0 = λ q site sent answer rest. Acts (row site sent op q (standing rest before)) (own_of op Nowhere (told_as (λ it. results.ReclaimComplete) answer)) q (standing rest before) (standing rest after) in
    IfOk-weaker c.reclaim_complete.result _ (λ (answer : Result (Unit {0}) Refusal). (site : Site) (sent : Sent) (rest : World) → Acts-at p site sent answer rest)
    (λ answer did site sent rest. subst (λ client. Acts-at (record p { client = client }) site sent answer rest) (sym c.in-Some.is) (did site sent p rest))
    c.reclaim_complete.ensures.acts
