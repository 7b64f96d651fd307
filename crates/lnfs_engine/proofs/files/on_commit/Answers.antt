use Rattle.lnfs_operations.specs.Served.{zeros}
use Rattle.lnfs_operations.specs.Write.{commit}
use Rattle.lnfs_nodes.specs.Trees.{with_tree}
use Rattle.lnfs_world.specs.Outcome.{Place}
use Rattle.lnfs_results.specs.declared.types.OpResult.TheVariants as results
use Rattle.lnfs_nodes.specs.Acts.{placed}
use Rattle.lnfs_engine.specs.Places.{place_of}
use Rattle.lnfs_engine.specs.Performs.{site_in}
use Rattle.lnfs_engine.proofs.OnNames.{stays_serves}
use Rattle.lnfs_engine.proofs.files.on_commit.Goals as goal

pub returns-clause-serves : goal.returns-clause-serves
returns-clause-serves c = λ rest.
    let p = place_of c.args.place.now in
    let site = site_in c.args.request.now in
    let w = with_tree rest c.args.tree.now in
    stays_serves (λ (it : Unit {0}). results.Commit (zeros 8)) (λ (it : Unit {0}). it) w (placed p c.caller_of-caller.result) p (λ (q : Place). commit site q w) c.commit-told.result c.plain.result
    c.caller_of-caller.ensures c.plain.ensures.answer (c.commit-told.ensures p rest)
