use Rattle.std.proofs.Common.{refl}
use Rattle.lnfs_attrs.specs.declared.bitmap.Bitmap.{Bitmap}
use Rattle.lnfs_operations.specs.SetAttr.{set_attr}
use Rattle.lnfs_world.specs.Outcome.{Place}
use Rattle.lnfs_results.specs.declared.types.OpResult.TheVariants as results
use Rattle.lnfs_files.specs.Worlds.{with_files}
use Rattle.lnfs_nodes.specs.Acts.{placed}
use Rattle.lnfs_engine.specs.Places.{place_of}
use Rattle.lnfs_engine.specs.Performs.{site_in}
use Rattle.lnfs_engine.proofs.Told.{told_at}
use Rattle.lnfs_engine.proofs.OnNames.{on_both, serves}
use Rattle.lnfs_engine.proofs.files.on_set_attr.Goals as goal

pub returns-clause-serves : goal.returns-clause-serves
returns-clause-serves g c = λ rest tells.
    let p = place_of c.args.place.now in
    let site = site_in c.args.request.now in
    let id = c.args.id.now in
    let given = c.args.given.now in
    let t = c.args.tree.now in
    let u = c.set_attr.new.tree in
    let s = c.args.opens.now in
    let told = c.in_ok-told in
    let at : Place = placed p c.caller_of-caller.result in
    serves (results.SetAttr 0) (λ (set : Bitmap). set) (with_files rest t s) (with_files rest u s) at p (λ (q : Place). set_attr site id given q (with_files rest t s)) told.told c.tell_set.result
    c.caller_of-caller.ensures c.tell_set.ensures.answer
    (on_both (λ (set : Bitmap). set) (λ (set : Bitmap). at) at rest t u s s (set_attr site id given at (with_files rest t s)) told.told (told.ensures.acts p rest (told_at _ rest p c.caller_of-caller.result c.caller_of-caller.ensures tells) refl))
