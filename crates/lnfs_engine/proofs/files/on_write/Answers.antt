use Rattle.std.proofs.Common.{ℕ, refl}
use Rattle.lnfs_operations.specs.declared.numbers.TheConstants.{FILE_SYNC4}
use Rattle.lnfs_operations.specs.Served.{zeros}
use Rattle.lnfs_operations.specs.Write.{Arguments, write}
use Rattle.lnfs_world.specs.Outcome.{Place}
use Rattle.lnfs_results.specs.declared.types.OpResult.TheVariants as results
use Rattle.lnfs_files.specs.Worlds.{with_files}
use Rattle.lnfs_nodes.specs.Acts.{placed}
use Rattle.lnfs_engine.specs.Places.{place_of}
use Rattle.lnfs_engine.specs.Performs.{site_in}
use Rattle.lnfs_engine.proofs.Told.{told_at}
use Rattle.lnfs_engine.proofs.OnNames.{on_both, serves}
use Rattle.lnfs_engine.proofs.files.on_write.Goals as goal

pub returns-clause-serves : goal.returns-clause-serves
returns-clause-serves g c = λ rest tells.
    let p = place_of c.args.place.now in
    let site = site_in c.args.request.now in
    let x = c.args.args.now in
    let args : Arguments = record { id = x.id.now; offset = x.offset; stable = x.stable; content = x.content.now } in
    let t = c.args.tree.now in
    let u = c.write.new.tree in
    let s = c.args.opens.now in
    let told = c.in_ok-told in
    let at : Place = placed p c.caller_of-caller.result in
    serves (λ (many : ℕ). results.Write many FILE_SYNC4 (zeros 8)) (λ (many : ℕ). many) (with_files rest t s) (with_files rest u s) at p (λ (q : Place). write site args q (with_files rest t s)) told.told c.tell_written.result
    c.caller_of-caller.ensures c.tell_written.ensures.answer
    (on_both (λ (many : ℕ). many) (λ (many : ℕ). at) at rest t u s s (write site args at (with_files rest t s)) told.told (told.ensures.acts p rest (told_at _ rest p c.caller_of-caller.result c.caller_of-caller.ensures tells) refl))
