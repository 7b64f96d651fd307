use Rattle.std.proofs.Common.{◌≡◌, true, Some, option_map, refl, sym, ap, subst, ◌∙◌, arith}
use Rattle.std.specs.Prelude.{◌==◌, nat_le, slice_get}
use Rattle.std.proofs.lemmas.Bool.Decides.{nat_tests}
use Rattle.std.proofs.lemmas.Option.{slice_get-map, slice_get-get_or}
use Rattle.lnfs_types.specs.declared.event.Moment.{Moment}
use Rattle.lnfs_world.specs.World.{Slot, Session, World}
use Rattle.lnfs_world.specs.Outcome.{begins_at}
use Rattle.lnfs_operations.specs.Identifiers.{session_named, session_under}
use Rattle.lnfs_operations.specs.Sequence.{Sent, sequence, on_slot}
use Rattle.lnfs_session.specs.Answers.{Answers}
use Rattle.lnfs_session.specs.Arrived.{arrival_of, arrived, answered_as, left_for}
use Rattle.lnfs_session.specs.declared.rows.SessionRef.{SessionRef}
use Rattle.lnfs_session.specs.Listed.{session_of, slot_of, session_key}
use Rattle.lnfs_session.specs.Standing.{Lists, standing}
use Rattle.lnfs_session.proofs.Sequencing.{came_on}
use Rattle.lnfs_session.proofs.clients.Clients.sequence.Goals as goal

pub returns-clause-answer : goal.returns-clause-answer
returns-clause-answer c =
    let args = c.args.args.now in
    let level = c.args.level in
    let sent : Sent = record { arguments = c.args.bytes.now; size = c.args.size; count = c.args.count } in
    let lists : Lists = record { clients = c.self.inside.records.clients; sessions = c.self.inside.sessions.sessions; client_lasts = c.self.inside.records.lasts; session_lasts = c.self.inside.sessions.lasts } in
    let named : c.session_named-name.result ≡ session_key args.session = c.session_named-name.ensures in
    let x : Session = session_of (session_key args.session, c.in-Some.session.now) in
    let slot : Slot = slot_of c.in-Some-get.slot.now in
    let own : ((session_named args.session).level == level) ≡ true = grind (arith, nat_tests, named) in
    let found : session_under args.session lists.sessions ≡ Some x = sym c.in-Some.ensures in
    let size : nat_le sent.size x.channel.max_request ≡ true = grind (arith, nat_tests) in
    let count : nat_le sent.count x.channel.max_operations ≡ true = grind (arith, nat_tests) in
    let items = c.in-Some.session.now.slots.items in
    let row = c.in-Some-get.slot.now in
    let got : slice_get items args.slot ≡ Some row = grind (arith, nat_tests, c.deref.ensures.value, slice_get-get_or items args.slot row) in
    let there : slice_get x.slots args.slot ≡ Some slot = slice_get-map slot_of items args.slot ∙ ap (option_map slot_of) got in
    let step : (moment : Moment) (rest : World) → Answers arrival_of c.on_slot.result (answered_as (arrived args) (sequence args sent (begins_at level moment) (standing rest lists)).answer) =
    λ moment rest.
    subst (λ o. Answers arrival_of c.on_slot.result (answered_as (arrived args) o.answer)) (sym (came_on args sent level moment rest lists own x found size count slot there))
    (subst (λ (name : SessionRef). Answers arrival_of c.on_slot.result (answered_as (arrived args) (on_slot args sent (begins_at level moment) (standing rest lists) (session_of (name, c.in-Some.session.now)) slot).answer)) named (c.on_slot.ensures.answer (begins_at level moment) (standing rest lists) sent refl)) in
    subst (λ (k : Lists). (moment : Moment) (rest : World) → Answers arrival_of c.on_slot.result (answered_as (arrived args) (sequence args sent (begins_at level moment) (standing rest k)).answer)) c.self.view_is step

pub returns-clause-changes : goal.returns-clause-changes
returns-clause-changes c =
    let args = c.args.args.now in
    let level = c.args.level in
    let sent : Sent = record { arguments = c.args.bytes.now; size = c.args.size; count = c.args.count } in
    let lists : Lists = record { clients = c.self.inside.records.clients; sessions = c.self.inside.sessions.sessions; client_lasts = c.self.inside.records.lasts; session_lasts = c.self.inside.sessions.lasts } in
    let named : c.session_named-name.result ≡ session_key args.session = c.session_named-name.ensures in
    let x : Session = session_of (session_key args.session, c.in-Some.session.now) in
    let slot : Slot = slot_of c.in-Some-get.slot.now in
    let own : ((session_named args.session).level == level) ≡ true = grind (arith, nat_tests, named) in
    let found : session_under args.session lists.sessions ≡ Some x = sym c.in-Some.ensures in
    let size : nat_le sent.size x.channel.max_request ≡ true = grind (arith, nat_tests) in
    let count : nat_le sent.count x.channel.max_operations ≡ true = grind (arith, nat_tests) in
    let items = c.in-Some.session.now.slots.items in
    let row = c.in-Some-get.slot.now in
    let got : slice_get items args.slot ≡ Some row = grind (arith, nat_tests, c.deref.ensures.value, slice_get-get_or items args.slot row) in
    let there : slice_get x.slots args.slot ≡ Some slot = slice_get-map slot_of items args.slot ∙ ap (option_map slot_of) got in
    let level_is : level ≡ c.session_named-name.result.level = grind (arith, nat_tests) in
    let step : (moment : Moment) (rest : World) → (sequence args sent (begins_at level moment) (standing rest lists)).changes ≡ left_for moment lists.clients c.on_slot.result =
    λ moment rest.
    ap (λ o. o.changes) (came_on args sent level moment rest lists own x found size count slot there)
    ∙ subst (λ (name : SessionRef). (on_slot args sent (begins_at level moment) (standing rest lists) (session_of (name, c.in-Some.session.now)) slot).changes ≡ left_for moment lists.clients c.on_slot.result) named (c.on_slot.ensures.changes (begins_at level moment) (standing rest lists) sent refl level_is) in
    subst (λ (k : Lists). (moment : Moment) (rest : World) → (sequence args sent (begins_at level moment) (standing rest k)).changes ≡ left_for moment k.clients c.on_slot.result) c.self.view_is step
