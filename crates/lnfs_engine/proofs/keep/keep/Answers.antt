use Rattle.std.proofs.Common.{◌≡◌, Some, sym, ap, ◌∙◌, subst}
use Rattle.lnfs_world.specs.World.{Kept}
use Rattle.lnfs_world.specs.Outcome.{Place, done_to}
use Rattle.lnfs_operations.specs.Keeping.{keep_result, keep_created}
use Rattle.lnfs_operations.specs.SlotRule.{keep_in}
use Rattle.lnfs_session.specs.Standing.{standing}
use Rattle.lnfs_engine.specs.Places.{keeper_of, Stands}
use Rattle.lnfs_engine.proofs.Own.{whole, keep_created_own, keep_result_own}
use Rattle.lnfs_engine.proofs.keep.keep.Goals as goal

pub returns-in_ok-reply-in-Client : goal.returns-in_ok-reply-in-Client
returns-in_ok-reply-in-Client c = λ p rest stands.
    let w = standing rest c.args.clients.now in
    let client = c.in-Client.client in
    let at_record = subst (Stands p c.args.clients.now.sessions) c.in-Client.is stands in
    let level : client.level ≡ p.subject = at_record.own in
    let held : Kept = record { arguments = c.in_ok-bytes-in-Client.bytes.items; reply = c.in_ok-reply-in-Client.reply.items } in
    let kept : Kept = record { arguments = c.args.bytes.now; reply = c.args.reply.now } in
    let same : held ≡ kept = λ i. record { arguments = c.in_ok-bytes-in-Client.ensures.items i; reply = c.in_ok-reply-in-Client.ensures.items i } in
    let at : Place = record p { subject = client.level } in
    let o = keep_created client.number held at w in
    ap (standing rest) (c.keep_created.ensures p rest) ∙ whole rest rest.opens c.args.clients.now at o (keep_created_own client.number held at w)
    ∙ (λ i. done_to w (keep_created client.number (same i) (record p { subject = level i }) w))
    ∙ ap (λ x. done_to w (keep_in (keeper_of x) kept p w)) (sym c.in-Client.is)

pub returns-in_ok-resettle-in-Session : goal.returns-in_ok-resettle-in-Session
returns-in_ok-resettle-in-Session c = λ p rest stands.
    let w = standing rest c.args.clients.now in
    let s = c.in-Session.session in
    let in_session = subst (Stands p c.args.clients.now.sessions) c.in-Session.is stands in
    let level : s.at.session.level ≡ p.subject = in_session.level in
    let number : Some s.at.session.number ≡ p.session = sym in_session.session in
    let kept : Kept = record { arguments = c.args.bytes.now; reply = c.args.reply.now } in
    let at : Place = record p { subject = s.at.session.level; session = Some s.at.session.number } in
    let o = keep_result s.at.slot s.sequence kept at w in
    ap (standing rest) (c.in_ok-resettle-in-Session.ensures p rest) ∙ whole rest rest.opens c.args.clients.now at o (keep_result_own s.at.slot s.sequence kept at w)
    ∙ (λ i. done_to w (keep_result s.at.slot s.sequence kept (record p { subject = level i; session = number i }) w))
    ∙ ap (λ x. done_to w (keep_in (keeper_of x) kept p w)) (sym c.in-Session.is)
