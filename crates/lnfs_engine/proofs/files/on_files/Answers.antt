use Rattle.std.proofs.Common.{rules, ◌≡◌, ◌∙◌, List, sym, ap}
use Rattle.std.proofs.lemmas.Result.{IfOk-weaker}
use Rattle.lnfs_world.specs.World.{Client, World}
use Rattle.lnfs_world.specs.Leases.{over_at}
use Rattle.lnfs_open.specs.Listed.{client_id}
use Rattle.lnfs_files.specs.Worlds.{with_files}
use Rattle.lnfs_engine.specs.declared.place.Keeper as code
use Rattle.lnfs_engine.specs.declared.reply.Came.{Came}
use Rattle.lnfs_engine.specs.Places.{place_of}
use Rattle.lnfs_engine.specs.Performs.{site_in, sent_of, turn, Performs}
use Rattle.lnfs_engine.proofs.Acting.{some_world}
use Rattle.lnfs_engine.proofs.files.on_files.Goals as goal

-- The leases are those of a world that has the clients.
pub returns-clause-performs : goal.returns-clause-performs
returns-clause-performs c =
    let r = c.args.request.now in
    let p = place_of c.args.place.now in
    let clients = c.args.clients.now.clients in
    let before = λ (rest : World). with_files rest c.args.tree.now c.args.opens.now in
    let after = λ (rest : World). with_files rest c.serve_files.new.tree c.serve_files.new.opens in
    IfOk-weaker c.serve_files.result _ (λ (came : Came). (keeper : code.Keeper) (rest : World) → rest.clients ≡ clients → Performs r.begin c.args.out.now c.serve_files.new.out keeper keeper (place_of c.serve_files.new.place) (after rest) (turn (site_in r) (sent_of r) c.args.op.now p (before rest)) came)
    (λ came did keeper rest own. did keeper rest (λ client answer known few told. let now : answer ≡ over_at clients p.moment (client_id client) = search rules in now ∙ ap (λ (cs : List Client). over_at cs p.moment (client_id client)) (sym own)))
    c.serve_files.ensures.performs

pub returns-clause-counts : goal.returns-clause-counts
returns-clause-counts c =
    let p = place_of c.args.place.now in
    c.serve_files.ensures.counts (record some_world { clients = c.args.clients.now.clients }) (λ client answer known few told. search rules)
