use Rattle.std.proofs.Common.{◌≡◌, List, Some, Ok, Err, refl, sym, ap, ◌∙◌, subst}
use Rattle.std.proofs.lemmas.Result.{IfOk-weaker}
use Rattle.lnfs_arguments.specs.declared.types.Op.TheVariants as ops
use Rattle.lnfs_world.specs.World.{Session, World, client_at}
use Rattle.lnfs_world.specs.Outcome.{Place, begins_at}
use Rattle.lnfs_operations.specs.Chain.{Answer, Done, Refused}
use Rattle.lnfs_operations.specs.Sequence.{sequence}
use Rattle.lnfs_operations.specs.Served.{Nowhere, Slot, Kept}
use Rattle.lnfs_session.specs.declared.clients.SessionError.{SessionError}
use Rattle.lnfs_session.specs.declared.clients.SessionError.TheVariants.{Status, Memory}
use Rattle.lnfs_session.specs.declared.sequence.Seq.{Seq}
use Rattle.lnfs_session.specs.Answers.{Answers}
use Rattle.lnfs_session.specs.Listed.{id_of, session_id_of}
use Rattle.lnfs_session.specs.Arrived.{Arrived, arrival_of}
use Rattle.lnfs_session.specs.Standing.{Lists, standing}
use Rattle.lnfs_operations.specs.declared.Refusal.{Refusal}
use Rattle.lnfs_engine.specs.declared.place.Keeper.TheVariants as keepers
use Rattle.lnfs_engine.specs.declared.reply.Came.{Came}
use Rattle.lnfs_engine.specs.Places.{Stands, place_of, keeper_of}
use Rattle.lnfs_nodes.specs.Trees.{refusal_of}
use Rattle.lnfs_engine.specs.Replies.{IsRefusal, own_of}
use Rattle.lnfs_engine.specs.Results.{sequence_result}
use Rattle.lnfs_engine.specs.Performs.{first_kept, site_in, sent_of, turn, Performs}
use Rattle.lnfs_engine.proofs.Acting.{performs, named, first_nowhere, starts_stands, some_world}
use Rattle.lnfs_engine.proofs.Sequencing.{is_new, is_again, is_refused, acts_new, acts_again, acts_refused, new_place, new_stands, renewed_stands, renewed_sessions}
use Rattle.lnfs_engine.proofs.sessions.sequence.Goals as goal

-- the refusal of a test
refused : (e : SessionError) (why : Refusal) (a : Answer Arrived) → IsRefusal e why → Answers arrival_of (Err e) a → Refused (refusal_of why) ≡ a
refused (Status code foreign) why a is answers = ap Refused is ∙ answers
refused Memory why a is answers = absurd is

pub returns-in-Ok-New-clause-performs : goal.returns-in-Ok-New-clause-performs
returns-in-Ok-New-clause-performs c =
    let r = c.args.request.now in
    let args = c.args.args.now in
    let op = c.args.op.now in
    let sent = sent_of r in
    let site = site_in r in
    let x = c.in-Ok-New in
    let at = place_of c.args.place.now in
    let p = begins_at at.subject at.moment in
    let next = keepers.Session (record { at = x.at; sequence = args.sequence; client = x.client; room = x.room }) in
    let later : Place = record at { client = Some x.client.number; session = Some x.at.session.number } in
    let Goal : Came → Type 0 = λ came. (rest : World) → Performs r.begin c.args.out.now c.say_sequence.new.out c.args.keeper.now next later (standing rest c.renew.new.self) (turn site sent op at (standing rest c.args.clients.now)) came in
    IfOk-weaker c.say_sequence.result _ Goal
    (λ came says rest.
    let w = standing rest c.args.clients.now in
    let v = standing rest c.renew.new.self in
    let o = client_at c.args.clients.now.clients (id_of x.client) in
    let after = ap (standing rest) (c.renew.ensures at.moment rest refl) ∙ renewed_stands at.moment o rest c.args.clients.now in
    let n = is_new args sent p w (session_id_of x.at.session) x.at.slot (id_of x.client) x.room x.highest (ap (λ (y : Seq). Done (arrival_of y)) (sym x.field-0-is) ∙ x.ensures.answer at.moment rest) in
    let keeper = Slot x.at.slot args.sequence in
    subst (λ (q : Place). Performs r.begin c.args.out.now c.say_sequence.new.out c.args.keeper.now next (record q { client = Some x.client.number; session = Some x.at.session.number }) v (turn site sent op q w) came) (sym c.requires.first.place)
    (performs r.begin c.args.out.now c.say_sequence.new.out c.args.keeper.now next _ site sent op p _ w v (own_of op keeper (Ok (sequence_result args x.highest))) came
    (named site sent op (ops.Sequence args) p _ w v (λ o. own_of o keeper (Ok (sequence_result args x.highest))) c.requires.op (acts_new site args sent p w _ x.at.slot _ x.room x.highest n v after))
    (new_place at.subject at.moment args w (sequence args sent p w) x.at x.client x.room x.highest n)
    (ap (λ k. first_kept (keeper_of k) keeper) c.requires.first.nowhere)
    (says r.begin keeper)))
    c.say_sequence.ensures

pub returns-in-Ok-New-clause-stands : goal.returns-in-Ok-New-clause-stands
returns-in-Ok-New-clause-stands c =
    let r = c.args.request.now in
    let args = c.args.args.now in
    let sent = sent_of r in
    let site = site_in r in
    let x = c.in-Ok-New in
    let at = place_of c.args.place.now in
    let p = begins_at at.subject at.moment in
    let next = keepers.Session (record { at = x.at; sequence = args.sequence; client = x.client; room = x.room }) in
    let later : Place = record at { client = Some x.client.number; session = Some x.at.session.number } in
    let w = standing some_world c.args.clients.now in
    let n = is_new args sent p w (session_id_of x.at.session) x.at.slot (id_of x.client) x.room x.highest (ap (λ (y : Seq). Done (arrival_of y)) (sym x.field-0-is) ∙ x.ensures.answer at.moment some_world) in
    let sessions = ap (λ (l : Lists). l.sessions) (c.renew.ensures at.moment some_world refl) ∙ renewed_sessions at.moment (client_at c.args.clients.now.clients (id_of x.client)) some_world c.args.clients.now in
    IfOk-weaker c.say_sequence.result _ (λ (came : Came). Stands later c.renew.new.self.sessions next)
    (λ came says. subst (λ (xs : List Session). Stands later xs next) (sym sessions) (subst (λ (q : Place). Stands (record q { client = Some x.client.number; session = Some x.at.session.number }) c.args.clients.now.sessions next) (sym c.requires.first.place) (new_stands at.subject at.moment args w (sequence args sent p w) x.at x.client x.room x.highest n)))
    c.say_sequence.ensures

pub returns-in-Ok-Replay-clause-performs : goal.returns-in-Ok-Replay-clause-performs
returns-in-Ok-Replay-clause-performs c =
    let r = c.args.request.now in
    let args = c.args.args.now in
    let op = c.args.op.now in
    let sent = sent_of r in
    let site = site_in r in
    let here = c.args.keeper.now in
    let x = c.in-Ok-Replay in
    let at = place_of c.args.place.now in
    let p = begins_at at.subject at.moment in
    let Goal : Came → Type 0 = λ came. (rest : World) → Performs r.begin c.args.out.now c.repeat.new.out here here at (standing rest c.args.clients.now) (turn site sent op at (standing rest c.args.clients.now)) came in
    IfOk-weaker c.repeat.result _ Goal
    (λ came says rest.
    let w = standing rest c.args.clients.now in
    let is = is_again args sent p w x.kept.now (ap (λ (y : Seq). Done (arrival_of y)) (sym x.field-0-is) ∙ x.ensures.answer at.moment rest) in
    subst (λ q. Performs r.begin c.args.out.now c.repeat.new.out here here q w (turn site sent op q w) came) (sym c.requires.first.place)
    (performs r.begin c.args.out.now c.repeat.new.out here here p site sent op p p w w (Kept x.kept.now) came
    (named site sent op (ops.Sequence args) p p w w (λ o. Kept x.kept.now) c.requires.op (acts_again site args sent p w x.kept.now is))
    refl refl says))
    c.repeat.ensures

pub returns-in_ok-refused_by-in-Err-clause-performs : goal.returns-in_ok-refused_by-in-Err-clause-performs
returns-in_ok-refused_by-in-Err-clause-performs c =
    let r = c.args.request.now in
    let args = c.args.args.now in
    let op = c.args.op.now in
    let sent = sent_of r in
    let site = site_in r in
    let here = c.args.keeper.now in
    let why = c.in_ok-refused_by-in-Err.field-0 in
    let at = place_of c.args.place.now in
    let p = begins_at at.subject at.moment in
    let Goal : Came → Type 0 = λ came. (rest : World) → Performs r.begin c.args.out.now c.say.new.out here here at (standing rest c.args.clients.now) (turn site sent op at (standing rest c.args.clients.now)) came in
    IfOk-weaker c.say.result _ Goal
    (λ came says rest.
    let w = standing rest c.args.clients.now in
    let is = is_refused args sent p w (refusal_of why) (refused c.in-Err.error why _ c.in_ok-refused_by-in-Err.ensures (c.in-Err.ensures.answer at.moment rest)) in
    subst (λ q. Performs r.begin c.args.out.now c.say.new.out here here q w (turn site sent op q w) came) (sym c.requires.first.place)
    (performs r.begin c.args.out.now c.say.new.out here here p site sent op p p w w (own_of op Nowhere (Err why)) came
    (named site sent op (ops.Sequence args) p p w w (λ o. own_of o Nowhere (Err why)) c.requires.op (acts_refused site args sent p w why is))
    refl
    (first_nowhere (keeper_of here))
    (says r.begin Nowhere)))
    c.say.ensures

-- one that doesn't run stays in no session
pub returns-in-Ok-Replay-clause-stands : goal.returns-in-Ok-Replay-clause-stands
returns-in-Ok-Replay-clause-stands c = IfOk-weaker c.repeat.result _ (λ (came : Came). Stands (place_of c.args.place.now) c.args.clients.now.sessions c.args.keeper.now) (λ came says. starts_stands (place_of c.args.place.now) c.args.clients.now.sessions c.args.keeper.now c.requires.first) c.repeat.ensures

pub returns-in_ok-refused_by-in-Err-clause-stands : goal.returns-in_ok-refused_by-in-Err-clause-stands
returns-in_ok-refused_by-in-Err-clause-stands c = IfOk-weaker c.say.result _ (λ (came : Came). Stands (place_of c.args.place.now) c.args.clients.now.sessions c.args.keeper.now) (λ came says. starts_stands (place_of c.args.place.now) c.args.clients.now.sessions c.args.keeper.now c.requires.first) c.say.ensures
