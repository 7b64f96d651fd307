use Rattle.std.proofs.Common.{Some, refl}
use Rattle.lnfs_world.specs.Outcome.{Place}
use Rattle.lnfs_results.specs.declared.types.OpResult.TheVariants as results
use Rattle.lnfs_files.specs.Worlds.{with_files}
use Rattle.lnfs_nodes.specs.Acts.{placed}
use Rattle.lnfs_engine.specs.Places.{place_of}
use Rattle.lnfs_engine.specs.Performs.{site_in}
use Rattle.lnfs_results.specs.declared.types.OpResult.{OpResult}
use Rattle.lnfs_operations.specs.Open.{Opened, open_file}
use Rattle.lnfs_operations.specs.declared.numbers.TheConstants.{OPEN4_RESULT_LOCKTYPE_POSIX}
use Rattle.lnfs_tree.specs.Rows.{id_of}
use Rattle.lnfs_files.specs.declared.opened.Opened as code
use Rattle.lnfs_files.specs.Openings.{args_of, opened_of}
use Rattle.lnfs_engine.proofs.Told.{told_at}
use Rattle.lnfs_engine.proofs.OnNames.{on_both, serves_to, lands_moved}
use Rattle.lnfs_engine.proofs.files.on_open.Goals as goal

abbrev lands : Place → code.Opened → Place
lands q o = record q { current = Some (id_of o.node) }

abbrev result_of : Opened → OpResult
result_of o = results.Open o.id o.info OPEN4_RESULT_LOCKTYPE_POSIX o.set 0

pub returns-clause-serves : goal.returns-clause-serves
returns-clause-serves g c = λ rest tells.
    let p = place_of c.args.place.now in
    let site = site_in c.args.request.now in
    let args = args_of c.args.args.now in
    let t = c.args.tree.now in
    let u = c.open.new.tree in
    let s = c.args.opens.now in
    let v = c.open.new.opens in
    let told = c.in_ok-told in
    let at : Place = placed p c.caller_of-caller.result in
    serves_to result_of opened_of (with_files rest t s) (with_files rest u v) lands at p (λ (q : Place). open_file site args q (with_files rest t s))
    told.told c.take_opened.result (place_of c.take_opened.new.place) c.caller_of-caller.ensures c.take_opened.ensures.answer c.take_opened.ensures.place
    (on_both opened_of (lands at) at rest t u s v (open_file site args at (with_files rest t s)) told.told (told.ensures.acts p rest (told_at _ rest p c.caller_of-caller.result c.caller_of-caller.ensures tells) refl))

pub returns-clause-moved : goal.returns-clause-moved
returns-clause-moved g c =
    let p = place_of c.args.place.now in
    lands_moved (lands p) p (place_of c.take_opened.new.place) c.in_ok-told.told (λ a. refl) c.take_opened.ensures.place
