use Rattle.std.proofs.Common.{◌≡◌, ℕ, List, Bool, refl, sym, ap, ◌∙◌, subst}
use Rattle.std.proofs.lemmas.Result.{IfOk-weaker}
use Rattle.lnfs_arguments.specs.declared.types.Op.TheVariants as ops
use Rattle.lnfs_arguments.specs.declared.statuses.TheConstants.{NFS4ERR_NOTSUPP}
use Rattle.lnfs_results.specs.declared.types.OpResult.TheVariants as results
use Rattle.lnfs_results.specs.Texts.{result_text, fields_text}
use Rattle.lnfs_world.specs.World.{World}
use Rattle.lnfs_operations.specs.Results.{told_result}
use Rattle.lnfs_operations.specs.declared.Gate.TheVariants as gates
use Rattle.lnfs_operations.specs.declared.Refusal.{Refusal}
use Rattle.lnfs_engine.specs.declared.reply.Came.{Came}
use Rattle.lnfs_engine.specs.Replies.{IsBare}
use Rattle.lnfs_session.specs.Answers.{told_of}
use Rattle.lnfs_engine.specs.Behind.{OpensBehind}
use Rattle.lnfs_engine.specs.Nodes.{told_as}
use Rattle.lnfs_engine.specs.Places.{place_of, Starts, HasToBeFirst}
use Rattle.lnfs_engine.specs.Performs.{site_in, sent_of, turn, Performs}
use Rattle.lnfs_files.specs.Worlds.{with_opens}
use Rattle.lnfs_engine.specs.Stores.{beside, stored}
use Rattle.lnfs_engine.proofs.Telling.{told, told_first, told_refused, bare_said}
use Rattle.lnfs_engine.proofs.perform.on_clients.Goals as goal

-- the results with nothing behind their status
bare_destroy_session : (session : List ℕ) → IsBare (ops.DestroySession session) results.DestroySession
unfolding result_text fields_text
bare_destroy_session session = (refl, refl)

bare_destroy_clientid : (client : ℕ) → IsBare (ops.DestroyClientId client) results.DestroyClientId
unfolding result_text fields_text
bare_destroy_clientid client = (refl, refl)

bare_reclaim_complete : (one_fs : Bool) → IsBare (ops.ReclaimComplete one_fs) results.ReclaimComplete
unfolding result_text fields_text
bare_reclaim_complete one_fs = (refl, refl)

pub returns-in_ok-answer-in-ExchangeId-clause-performs : goal.returns-in_ok-answer-in-ExchangeId-clause-performs
returns-in_ok-answer-in-ExchangeId-clause-performs c =
    let r = c.args.request.now in
    let p = place_of c.args.place.now in
    let x = c.in-ExchangeId in
    let same = ops.ExchangeId x.verifier c.as_slice.result.now x.flags x.implementation in
    let is : c.args.op.now ≡ same = x.is ∙ ap (λ owner. ops.ExchangeId x.verifier owner x.flags x.implementation) (sym c.as_slice.ensures) in
    let answer = c.in_ok-answer-in-ExchangeId in
    told_first r.begin c.args.out.now c.say_told.new.out c.args.keeper.now (site_in r) (sent_of r) c.args.op.now same p (told_as (λ told. told_result p.subject (told_of told)) answer.answer) is c.say_told.result c.say_told.ensures
    c.args.store.now c.store.inside.clients c.exchange_id.new.clients c.store.inside.tree c.store.inside.opens c.store.inside.contexts c.store.view_is
    (subst (λ o. HasToBeFirst o → Starts p c.args.keeper.now) x.is c.requires.first tt)
    (answer.ensures (site_in r) (sent_of r) x.implementation p.moment (with_opens (beside c.store.inside.tree c.store.inside.contexts) c.store.inside.opens) (subst (λ (w : World). OpensBehind w.clients w.opens) (sym c.store.view_is) c.requires.opens))

pub returns-in-CreateSession-clause-performs : goal.returns-in-CreateSession-clause-performs
returns-in-CreateSession-clause-performs c =
    let r = c.args.request.now in
    let p = place_of c.args.place.now in
    let tree = c.store.inside.tree in
    let after = stored c.create_session.new.clients tree c.create_session.new.opens c.store.inside.contexts in
    let Goal : World → Came → Type 0 = λ w came. Performs r.begin c.args.out.now c.create_session.new.out c.args.keeper.now c.create_session.new.keeper p after (turn (site_in r) (sent_of r) c.args.op.now p w) came in
    IfOk-weaker c.create_session.result _ (Goal c.args.store.now)
    (λ came did. subst (λ w. Goal w came) c.store.view_is (did (beside tree c.store.inside.contexts)))
    c.create_session.ensures.performs

pub returns-in_ok-ended-in-DestroySession-clause-performs : goal.returns-in_ok-ended-in-DestroySession-clause-performs
returns-in_ok-ended-in-DestroySession-clause-performs c =
    let r = c.args.request.now in
    let p = place_of c.args.place.now in
    let x = c.in-DestroySession in
    let same = ops.DestroySession x.session in
    let ended = c.in_ok-ended-in-DestroySession in
    told_first r.begin c.args.out.now c.say_bare.new.out c.args.keeper.now (site_in r) (sent_of r) c.args.op.now same p (told_as (λ it. results.DestroySession) ended.ended) x.is c.say_bare.result
    (bare_said c.args.out.now c.say_bare.new.out c.args.op.now same results.DestroySession ended.ended x.is c.say_bare.result c.say_bare.ensures (bare_destroy_session x.session))
    c.args.store.now c.store.inside.clients c.destroy_session.new.clients c.store.inside.tree c.store.inside.opens c.store.inside.contexts c.store.view_is
    (subst (λ o. HasToBeFirst o → Starts p c.args.keeper.now) x.is c.requires.first tt)
    (ended.ensures (site_in r) (sent_of r) p.moment (with_opens (beside c.store.inside.tree c.store.inside.contexts) c.store.inside.opens))

pub returns-in_ok-ended-in-DestroyClientId-clause-performs : goal.returns-in_ok-ended-in-DestroyClientId-clause-performs
returns-in_ok-ended-in-DestroyClientId-clause-performs c =
    let r = c.args.request.now in
    let p = place_of c.args.place.now in
    let x = c.in-DestroyClientId in
    let same = ops.DestroyClientId x.client in
    let ended = c.in_ok-ended-in-DestroyClientId in
    told_first r.begin c.args.out.now c.say_bare-in-DestroyClientId.new.out c.args.keeper.now (site_in r) (sent_of r) c.args.op.now same p (told_as (λ it. results.DestroyClientId) ended.ended) x.is c.say_bare-in-DestroyClientId.result
    (bare_said c.args.out.now c.say_bare-in-DestroyClientId.new.out c.args.op.now same results.DestroyClientId ended.ended x.is c.say_bare-in-DestroyClientId.result c.say_bare-in-DestroyClientId.ensures (bare_destroy_clientid x.client))
    c.args.store.now c.store.inside.clients c.destroy_clientid.new.clients c.store.inside.tree c.store.inside.opens c.store.inside.contexts c.store.view_is
    (subst (λ o. HasToBeFirst o → Starts p c.args.keeper.now) x.is c.requires.first tt)
    (ended.ensures (site_in r) (sent_of r) p.moment (with_opens (beside c.store.inside.tree c.store.inside.contexts) c.store.inside.opens) refl)

pub returns-in_ok-ended-in-ReclaimComplete-clause-performs : goal.returns-in_ok-ended-in-ReclaimComplete-clause-performs
returns-in_ok-ended-in-ReclaimComplete-clause-performs c =
    let r = c.args.request.now in
    let p = place_of c.args.place.now in
    let x = c.in-ReclaimComplete in
    let same = ops.ReclaimComplete x.one_fs in
    let ended = c.in_ok-ended-in-ReclaimComplete in
    told r.begin c.args.out.now c.say_bare-in-ReclaimComplete.new.out c.args.keeper.now (site_in r) (sent_of r) c.args.op.now same p (told_as (λ it. results.ReclaimComplete) ended.ended) x.is c.say_bare-in-ReclaimComplete.result
    (bare_said c.args.out.now c.say_bare-in-ReclaimComplete.new.out c.args.op.now same results.ReclaimComplete ended.ended x.is c.say_bare-in-ReclaimComplete.result c.say_bare-in-ReclaimComplete.ensures (bare_reclaim_complete x.one_fs))
    c.args.store.now c.store.inside.clients c.reclaim_in.new.clients c.store.inside.tree c.store.inside.opens c.store.inside.contexts c.store.view_is
    (ended.ensures.acts (site_in r) (sent_of r) (with_opens (beside c.store.inside.tree c.store.inside.contexts) c.store.inside.opens))

pub returns-in-Outside-clause-performs : goal.returns-in-Outside-clause-performs
returns-in-Outside-clause-performs c =
    let r = c.args.request.now in
    let x = c.in-Outside in
    let why : Refusal = record { gate = gates.Outside; status = x.status } in
    told_refused r.begin c.args.out.now c.say.new.out c.args.keeper.now (site_in r) (sent_of r) c.args.op.now (ops.Outside x.number x.status) (place_of c.args.place.now) why x.is c.say.result c.say.ensures c.args.store.now refl

-- one that no further operation serves
pub returns-in-Extra-clause-performs : goal.returns-in-Extra-clause-performs
returns-in-Extra-clause-performs c =
    let r = c.args.request.now in
    let x = c.in-Extra in
    let why : Refusal = record { gate = gates.Outside; status = NFS4ERR_NOTSUPP } in
    told_refused r.begin c.args.out.now c.say-in-Extra.new.out c.args.keeper.now (site_in r) (sent_of r) c.args.op.now (ops.Extra x.number x.args) (place_of c.args.place.now) why x.is c.say-in-Extra.result c.say-in-Extra.ensures c.args.store.now refl
