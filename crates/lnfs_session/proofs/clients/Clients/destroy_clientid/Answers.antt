use Rattle.std.proofs.Common.{◌≡◌, true, false, Some, sym, ap, subst, ◌∙◌, arith}
use Rattle.std.specs.Prelude.{◌==◌}
use Rattle.std.specs.List.{list_any}
use Rattle.std.specs.Option.{option_map}
use Rattle.std.proofs.lemmas.Bool.Decides.{nat_tests}
use Rattle.lnfs_types.specs.declared.event.Moment.{Moment}
use Rattle.lnfs_world.specs.World.{Client, World, client_at}
use Rattle.lnfs_world.specs.Change.{is_session_of, is_open_of}
use Rattle.lnfs_world.specs.Outcome.{begins_at, done_to}
use Rattle.lnfs_operations.specs.Identifiers.{client_named}
use Rattle.lnfs_operations.specs.DestroyClientId.{destroy_clientid}
use Rattle.lnfs_counts.proofs.Rows.{none_filtered}
use Rattle.lnfs_session.specs.Listed.{id_of, client_of}
use Rattle.lnfs_session.specs.Standing.{Lists, standing, lists_of}
use Rattle.lnfs_session.proofs.Destroying.{freed}
use Rattle.lnfs_session.proofs.clients.Clients.destroy_clientid.Goals as goal

pub returns-clause-lists : goal.returns-clause-lists
returns-clause-lists c =
    let id = c.args.id in
    let client = c.client_named-client.result in
    let named : id_of client ≡ client_named id = c.client_named-client.ensures in
    let row : Client = client_of (client, c.in-Some.field-0.now) in
    let lists : Lists = record { clients = c.self.inside.records.clients; sessions = c.self.inside.sessions.sessions; client_lasts = c.self.inside.records.lasts; session_lasts = c.self.inside.sessions.lasts } in
    let own : ((client_named id).level == c.args.level) ≡ true = grind (arith, nat_tests, named) in
    let found : client_at lists.clients (client_named id) ≡ Some row = ap (client_at lists.clients) (sym named) ∙ sym c.at.ensures ∙ ap (option_map (λ x. client_of (client, x.now))) c.in-Some.is in
    let session : list_any (is_session_of (id_of client)) lists.sessions ≡ false = sym c.any_of.ensures ∙ c.if-any_of.false in
    let new : Lists = record lists { clients = c.remove.new.self.clients; client_lasts = c.remove.new.self.lasts } in
    let step : (moment : Moment) (rest : World) → c.args.opens ≡ list_any (is_open_of (client_named id)) rest.opens → new ≡ lists_of (done_to (standing rest lists) (destroy_clientid id (begins_at c.args.level moment) (standing rest lists))) =
    λ moment rest told.
    let opens : list_any (is_open_of (id_of client)) rest.opens ≡ false = ap (λ i. list_any (is_open_of i) rest.opens) named ∙ sym told ∙ c.if-opens.false in
    (λ i. record lists { clients = (c.remove.ensures i).clients; client_lasts = (c.remove.ensures i).lasts; sessions = sym (none_filtered (is_session_of (id_of client)) lists.sessions session) i })
    ∙ sym (ap (λ o. lists_of (done_to (standing rest lists) o)) (freed id c.args.level moment rest lists own row found session opens)) in
    subst (λ (k : Lists). (moment : Moment) (rest : World) → c.args.opens ≡ list_any (is_open_of (client_named id)) rest.opens → new ≡ lists_of (done_to (standing rest k) (destroy_clientid id (begins_at c.args.level moment) (standing rest k)))) c.self.view_is step
