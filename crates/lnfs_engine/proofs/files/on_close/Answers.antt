use Rattle.std.proofs.Common.{refl, ap, ◌∙◌}
use Rattle.lnfs_arguments.specs.declared.stateid.StateId.{StateId}
use Rattle.lnfs_operations.specs.Close.{closed, close}
use Rattle.lnfs_world.specs.Outcome.{Place}
use Rattle.lnfs_results.specs.declared.types.OpResult.TheVariants as results
use Rattle.lnfs_files.specs.Worlds.{with_files}
use Rattle.lnfs_nodes.specs.Acts.{placed}
use Rattle.lnfs_engine.specs.Places.{place_of}
use Rattle.lnfs_engine.specs.Nodes.{told_as}
use Rattle.lnfs_engine.proofs.OnNames.{on_both, serves}
use Rattle.lnfs_engine.proofs.files.on_close.Goals as goal

pub returns-clause-serves : goal.returns-clause-serves
returns-clause-serves c = λ rest.
    let p = place_of c.args.place.now in
    let id = c.args.id.now in
    let t = c.args.tree.now in
    let s = c.args.opens.now in
    let v = c.close-told.new.opens in
    let told = c.close-told.result in
    let at : Place = placed p c.caller_of-caller.result in
    serves (λ (it : Unit {0}). results.Close closed) (λ (it : Unit {0}). it) (with_files rest t s) (with_files rest t v) at p (λ (q : Place). close id q (with_files rest t s)) told c.plain.result
    c.caller_of-caller.ensures (c.plain.ensures.answer ∙ ap (λ (i : StateId). told_as (λ (it : Unit {0}). results.Close i) told) c.closed.ensures)
    (on_both (λ (it : Unit {0}). it) (λ (it : Unit {0}). at) at rest t t s v (close id at (with_files rest t s)) told (c.close-told.ensures.acts p rest refl))
