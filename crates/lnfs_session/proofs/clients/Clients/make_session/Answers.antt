use Rattle.std.proofs.Common.{◌≡◌, ◌+◌, true, Some, map, option_map, sym, ap, subst, ◌∙◌, arith}
use Rattle.std.specs.Prelude.{find, nat_lt, replicate}
use Rattle.std.proofs.lemmas.Bool.Decides.{nat_tests}
use Rattle.lnfs_types.specs.declared.event.Moment.{Moment}
use Rattle.lnfs_world.specs.Rows.{inserted}
use Rattle.lnfs_world.specs.World.{Id, Client, Session, World, client_order, session_order, client_at, last_of}
use Rattle.lnfs_world.specs.Outcome.{begins_at, done_to}
use Rattle.lnfs_world.specs.declared.numbers.TheConstants.{LAST_NUMBER}
use Rattle.lnfs_operations.specs.declared.numbers.TheConstants.{SESSIONS_OF_A_LEVEL}
use Rattle.lnfs_operations.specs.CreateSession.{made, is_large_enough, granted_of, is_replaced, fresh_slot, new_session, sessions_of}
use Rattle.lnfs_session.specs.Records.{ClientLists, replaced_by, with_confirmed}
use Rattle.lnfs_session.specs.Listed.{id_of, session_of, slot_of}
use Rattle.lnfs_session.specs.Standing.{Lists, standing, lists_of, clients_left, clients_set, sessions_left, confirmed, seen_at}
use Rattle.lnfs_session.proofs.Creating.{makes, created, client-id, session-added, set_renewed}
use Rattle.lnfs_session.proofs.Exchanging.{left_as}
use Rattle.lnfs_session.proofs.clients.Clients.make_session.Goals as goal

pub returns-clause-lists : goal.returns-clause-lists
returns-clause-lists c =
    let args = c.args.args.now in
    let level = c.args.id.level in
    let id = id_of c.args.id in
    let rows = c.self.inside.records.clients in
    let sessions = c.self.inside.sessions.sessions in
    let lasts = c.self.inside.records.lasts in
    let session_lasts = c.self.inside.sessions.lasts in
    let lists : Lists = record { clients = rows; sessions = sessions; client_lasts = lasts; session_lasts = session_lasts } in
    let granted = granted_of args.fore in
    let large : is_large_enough args.fore ≡ true = grind (arith, c.is_large_enough.ensures) in
    let room : nat_lt (sessions_of level sessions) SESSIONS_OF_A_LEVEL ≡ true = grind (arith, nat_tests, c.count.ensures) in
    let number : nat_lt (last_of level session_lasts) LAST_NUMBER ≡ true = grind (arith, nat_tests, c.last.ensures) in
    let slots : map slot_of c.in_ok-fresh_slots.field-0.items ≡ replicate granted.max_requests fresh_slot =
    c.in_ok-fresh_slots.ensures ∙ ap (λ g. replicate g.max_requests fresh_slot) c.granted_of-granted.ensures.sizes in
    let i : Id = record { level = level; number = last_of level session_lasts + 1 } in
    let x : Session = session_of (record { level = level; number = last_of level session_lasts + 1 }, record { client = c.args.id.number; channel = c.granted_of-granted.result; slots = c.in_ok-fresh_slots.field-0 }) in
    let added = c.add.new.self in
    let new : Lists = record { clients = c.renew.new.self.clients; sessions = c.remove_any.new.self.sessions; client_lasts = c.renew.new.self.lasts; session_lasts = c.remove_any.new.self.lasts } in
    let step : (moment : Moment) (rest : World) (k : Client) → moment.secs ≡ c.args.secs → client_at rows id ≡ Some k → new ≡ lists_of (done_to (standing rest lists) (made args (begins_at level moment) (standing rest lists) k)) =
    λ moment rest k at there.
    let is : k.id ≡ id = client-id rows id k there in
    let other = find (is_replaced k) rows in
    let dropped = option_map (λ d. d.id) other in
    let gone : option_map id_of c.confirm-dropped.result ≡ dropped = c.confirm-dropped.ensures.gone ∙ ap (λ o. option_map (λ d. d.id) (replaced_by o rows)) there in
    let records : c.confirm-dropped.new.self ≡ record c.self.inside.records { clients = inserted client_order (confirmed k) (clients_left dropped rows) } =
    c.confirm-dropped.ensures.lists ∙ (λ i. record c.self.inside.records { clients = with_confirmed (there i) rows }) ∙ (λ i. record c.self.inside.records { clients = inserted client_order (confirmed k) (left_as other rows i) }) in
    let renewed : c.renew.new.self ≡ record c.self.inside.records { clients = inserted client_order (seen_at moment.secs (confirmed k)) (clients_left dropped rows) } =
    c.renew.ensures
    ∙ ap (λ (r : ClientLists). record r { clients = clients_set (seen_at c.args.secs) (client_at r.clients id) r.clients }) records
    ∙ (λ i. record c.self.inside.records { clients = clients_set (seen_at c.args.secs) (client_at (inserted client_order (confirmed k) (clients_left dropped rows)) (sym is i)) (inserted client_order (confirmed k) (clients_left dropped rows)) })
    ∙ (λ i. record c.self.inside.records { clients = set_renewed c.args.secs (confirmed k) (clients_left dropped rows) i })
    ∙ (λ i. record c.self.inside.records { clients = inserted client_order (seen_at (sym at i) (confirmed k)) (clients_left dropped rows) }) in
    let session : Session = new_session i k granted in
    let session_is : x ≡ session = λ t. record { id = i; client = (sym is t).number; channel = c.granted_of-granted.ensures.sizes t; slots = slots t } in
    let left : c.remove_any.new.self ≡ record added { sessions = sessions_left dropped added.sessions } =
    c.remove_any.ensures ∙ ap (λ g. record added { sessions = sessions_left g added.sessions }) gone in
    let kept : sessions_left dropped added.sessions ≡ inserted session_order session (sessions_left dropped sessions) =
    session-added k x rows sessions added.sessions (λ t. (sym is t).level) (λ t. (sym is t).number) c.in_ok-number.ensures.sessions c.in_ok-number.ensures.added_last
    ∙ ap (λ y. inserted session_order y (sessions_left dropped sessions)) session_is in
    (λ t. record { clients = (renewed t).clients; sessions = (left t).sessions; client_lasts = (renewed t).lasts; session_lasts = (left t).lasts })
    ∙ (λ t. record { clients = inserted client_order (seen_at moment.secs (confirmed k)) (clients_left dropped rows); sessions = kept t; client_lasts = lasts; session_lasts = c.in_ok-number.ensures.lasts t })
    ∙ sym (created rest lists other (seen_at moment.secs (confirmed k)) session)
    ∙ sym (ap (λ o. lists_of (done_to (standing rest lists) o)) (makes args level moment rest lists k large room number)) in
    subst (λ (l : Lists). (moment : Moment) (rest : World) (k : Client) → moment.secs ≡ c.args.secs → client_at l.clients id ≡ Some k → new ≡ lists_of (done_to (standing rest l) (made args (begins_at level moment) (standing rest l) k))) c.self.view_is step
