use Rattle.std.proofs.Common.{◌≡◌, ◌+◌, true, false, None, sym, ap, ◌∙◌, subst, arith}
use Rattle.std.specs.Prelude.{find, nat_lt, option_map}
use Rattle.std.proofs.lemmas.Bool.Decides.{nat_tests}
use Rattle.lnfs_types.specs.declared.event.Moment.{Moment}
use Rattle.lnfs_world.specs.World.{World, last_of}
use Rattle.lnfs_world.specs.Outcome.{begins_at, done_to}
use Rattle.lnfs_world.specs.declared.numbers.TheConstants.{LAST_NUMBER}
use Rattle.lnfs_operations.specs.declared.numbers.TheConstants.{EXCHGID4_FLAG_CONFIRMED_R, EXCHGID4_FLAG_UPD_CONFIRMED_REC_A, CLIENTS_OF_A_LEVEL}
use Rattle.lnfs_operations.specs.ExchangeId.{Arguments, exchange_id, has_flag, is_confirmed_as, is_pending, others_of, new_client}
use Rattle.lnfs_session.specs.Standing.{Lists, standing, lists_of, sessions_left}
use Rattle.lnfs_session.specs.Listed.{client_of}
use Rattle.lnfs_session.specs.Records.{ClientLists}
use Rattle.lnfs_session.proofs.Creating.{found_passes}
use Rattle.lnfs_session.proofs.Exchanging.{made, pending_as}
use Rattle.lnfs_session.proofs.clients.Clients.exchange_id.Goals as goal

pub returns-clause-lists : goal.returns-clause-lists
returns-clause-lists c =
    let args : Arguments = record { verifier = c.args.verifier; owner = c.args.owner.now; flags = c.args.flags } in
    let level = c.args.level in
    let records : ClientLists = c.self.inside.records in
    let sessions = c.self.inside.sessions.sessions in
    let session_lasts = c.self.inside.sessions.lasts in
    let lists : Lists = record { clients = records.clients; sessions = sessions; client_lasts = records.lasts; session_lasts = session_lasts } in
    let told : has_flag args.flags EXCHGID4_FLAG_CONFIRMED_R ≡ false = grind arith in
    let update : has_flag args.flags EXCHGID4_FLAG_UPD_CONFIRMED_REC_A ≡ false = grind arith in
    let none : find (is_confirmed_as level args.owner args.verifier) records.clients ≡ None = sym (rw c.in_default.is at c.known-others.ensures.confirmed) in
    let room : nat_lt (others_of level args.owner records.clients) CLIENTS_OF_A_LEVEL ≡ true = grind (arith, nat_tests, c.known-others.ensures.others) in
    let number : nat_lt (last_of level records.lasts) LAST_NUMBER ≡ true = grind (arith, nat_tests, c.last.ensures) in
    let pending = find (is_pending level args.owner) records.clients in
    let row = new_client (record { level = level; number = last_of level records.lasts + 1 }) args in
    let gone : c.remove_any.new.self ≡ record c.self.inside.sessions { sessions = sessions_left (option_map (λ d. d.id) pending) sessions } =
    c.remove_any.ensures ∙ ap (λ o. record c.self.inside.sessions { sessions = sessions_left o sessions }) c.in_ok-client.ensures.gone in
    let new : Lists = record { clients = c.replace_pending.new.self.clients; sessions = c.remove_any.new.self.sessions; client_lasts = c.replace_pending.new.self.lasts; session_lasts = c.remove_any.new.self.lasts } in
    let step : (moment : Moment) (rest : World) → new ≡ lists_of (done_to (standing rest lists) (exchange_id args (begins_at level moment) (standing rest lists))) =
    λ moment rest.
    (λ i. record { clients = (c.in_ok-client.ensures.lists i).clients; sessions = (gone i).sessions; client_lasts = (c.in_ok-client.ensures.lists i).lasts; session_lasts = (gone i).lasts })
    ∙ pending_as rest lists pending row
    ∙ sym (ap (λ o. lists_of (done_to (standing rest lists) o)) (made args level moment rest lists told update none room number)) in
    subst (λ (k : Lists). (moment : Moment) (rest : World) → new ≡ lists_of (done_to (standing rest k) (exchange_id args (begins_at level moment) (standing rest k)))) c.self.view_is step

-- a record that is found is of the level
pub returns-in-Some-clause-level : goal.returns-in-Some-clause-level
returns-in-Some-clause-level c =
    let row = client_of (c.in-Some.client, c.in-Some.row.now) in
    let passes : is_confirmed_as c.args.level c.args.owner.now c.args.verifier row ≡ true = found_passes (is_confirmed_as c.args.level c.args.owner.now c.args.verifier) row c.self.inside.records.clients (sym (rw c.in-Some.is at c.known-others.ensures.confirmed)) in
    grind (arith, nat_tests, passes)
