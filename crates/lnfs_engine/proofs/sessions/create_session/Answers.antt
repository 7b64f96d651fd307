use Rattle.std.proofs.Common.{refl, sym, ap, ◌∙◌, subst}
use Rattle.std.proofs.lemmas.Result.{IfOk-weaker}
use Rattle.lnfs_arguments.specs.declared.types.Op.TheVariants as ops
use Rattle.lnfs_world.specs.World.{World, client_at}
use Rattle.lnfs_world.specs.Outcome.{begins_at}
use Rattle.lnfs_operations.specs.Identifiers.{client_named}
use Rattle.lnfs_operations.specs.Served.{Kept, row, created_keeper}
use Rattle.lnfs_session.specs.Creates.{kept_reply, or_none}
use Rattle.lnfs_session.specs.Standing.{standing}
use Rattle.lnfs_engine.specs.declared.reply.Came.{Came}
use Rattle.lnfs_engine.specs.Places.{Stands, place_of, keeper_of}
use Rattle.lnfs_files.specs.Worlds.{with_opens}
use Rattle.lnfs_engine.specs.Replies.{own_of, Acts, Says}
use Rattle.lnfs_engine.specs.Performs.{first_kept, made_of, site_in, sent_of, turn, Performs}
use Rattle.lnfs_engine.proofs.Acting.{performs, named, starts_stands}
use Rattle.lnfs_engine.proofs.sessions.create_session.Goals as goal

pub returns-in-Some-clause-performs : goal.returns-in-Some-clause-performs
returns-in-Some-clause-performs c =
    let r = c.args.request.now in
    let args = c.args.args.now in
    let op = c.args.op.now in
    let before = c.args.clients.now in
    let after = c.make_session.new.clients in
    let next = c.created_keeper-created.result in
    let at = place_of c.args.place.now in
    let p = begins_at at.subject at.moment in
    let Goal : Came → Type 0 = λ came. (rest : World) → Performs r.begin c.args.out.now c.say.new.out c.args.keeper.now next at (standing (with_opens rest c.make_session.new.opens) after) (turn (site_in r) (sent_of r) op at (standing (with_opens rest c.args.opens.now) before)) came in
    IfOk-weaker c.say.result _ Goal
    (λ came says rest.
    let w = standing (with_opens rest c.args.opens.now) before in
    let v = standing (with_opens rest c.make_session.new.opens) after in
    let keeper = created_keeper args p w in
    let did = subst (λ answer. Acts (row (site_in r) (sent_of r) (ops.CreateSession args) p w) (made_of (ops.CreateSession args) keeper after args answer) p w v) c.in-Some.is (c.in_ok-answer.ensures.acts (site_in r) r.size r.compound.now.count at.moment rest refl) in
    subst (λ q. Performs r.begin c.args.out.now c.say.new.out c.args.keeper.now next q v (turn (site_in r) (sent_of r) op q w) came) (sym c.requires.first.place)
    (performs r.begin c.args.out.now c.say.new.out c.args.keeper.now next p (site_in r) (sent_of r) op p p w v (own_of op keeper c.in-Some.answer) came
    (named (site_in r) (sent_of r) op (ops.CreateSession args) p p w v (λ o. own_of o keeper c.in-Some.answer) c.requires.op did)
    refl
    (ap (λ x. first_kept (keeper_of x) keeper) c.requires.first.nowhere ∙ sym (c.created_keeper-created.ensures.keeper at.moment (with_opens rest c.args.opens.now)))
    (says r.begin keeper)))
    c.say.ensures

pub returns-in-Some-clause-stands : goal.returns-in-Some-clause-stands
returns-in-Some-clause-stands c =
    let at = place_of c.args.place.now in
    IfOk-weaker c.say.result _ (λ (came : Came). Stands at c.make_session.new.clients.sessions c.created_keeper-created.result)
    (λ came says. subst (λ q. Stands q c.make_session.new.clients.sessions c.created_keeper-created.result) (sym c.requires.first.place) (c.created_keeper-created.ensures.stands at.moment c.make_session.new.clients.sessions))
    c.say.ensures

pub returns-in-None-clause-performs : goal.returns-in-None-clause-performs
returns-in-None-clause-performs c =
    let r = c.args.request.now in
    let args = c.args.args.now in
    let op = c.args.op.now in
    let before = c.args.clients.now in
    let after = c.make_session.new.clients in
    let here = c.args.keeper.now in
    let at = place_of c.args.place.now in
    let p = begins_at at.subject at.moment in
    let Goal : Came → Type 0 = λ came. (rest : World) → Performs r.begin c.args.out.now c.repeat.new.out here here at (standing (with_opens rest c.make_session.new.opens) after) (turn (site_in r) (sent_of r) op at (standing (with_opens rest c.args.opens.now) before)) came in
    IfOk-weaker c.repeat.result _ Goal
    (λ came says rest.
    let w = standing (with_opens rest c.args.opens.now) before in
    let v = standing (with_opens rest c.make_session.new.opens) after in
    let keeper = created_keeper args p w in
    let kept = or_none (kept_reply (client_at after.clients (client_named args.client))) in
    let did = subst (λ answer. Acts (row (site_in r) (sent_of r) (ops.CreateSession args) p w) (made_of (ops.CreateSession args) keeper after args answer) p w v) c.in-None.is (c.in_ok-answer.ensures.acts (site_in r) r.size r.compound.now.count at.moment rest refl) in
    subst (λ q. Performs r.begin c.args.out.now c.repeat.new.out here here q v (turn (site_in r) (sent_of r) op q w) came) (sym c.requires.first.place)
    (performs r.begin c.args.out.now c.repeat.new.out here here p (site_in r) (sent_of r) op p p w v (Kept kept) came
    (named (site_in r) (sent_of r) op (ops.CreateSession args) p p w v (λ o. Kept kept) c.requires.op did)
    refl
    refl
    (subst (λ k. Says r.begin c.args.out.now c.repeat.new.out (Kept k) came) c.kept_created.ensures says)))
    c.repeat.ensures

pub returns-in-None-clause-stands : goal.returns-in-None-clause-stands
returns-in-None-clause-stands c = IfOk-weaker c.repeat.result _ (λ (came : Came). Stands (place_of c.args.place.now) c.make_session.new.clients.sessions c.args.keeper.now) (λ came says. starts_stands (place_of c.args.place.now) c.make_session.new.clients.sessions c.args.keeper.now c.requires.first) c.repeat.ensures
