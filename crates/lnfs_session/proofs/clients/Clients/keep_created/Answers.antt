use Rattle.std.proofs.Common.{◌≡◌, Option, Some, None, refl, subst, ◌∙◌}
use Rattle.lnfs_world.specs.World.{Kept, Client, World, client_at}
use Rattle.lnfs_world.specs.Change.{apply_all}
use Rattle.lnfs_world.specs.Outcome.{Place, done_to}
use Rattle.lnfs_operations.specs.Keeping.{kept_of, keep_created}
use Rattle.lnfs_session.specs.Listed.{id_of}
use Rattle.lnfs_session.specs.Standing.{Lists, standing, lists_of, answered, clients_set}
use Rattle.lnfs_session.proofs.clients.Clients.keep_created.Goals as goal

kept_in : (kept : Kept) (o : Option Client) (rest : World) (lists : Lists) → record lists { clients = clients_set (answered kept) o lists.clients } ≡ lists_of (apply_all (kept_of kept o) (standing rest lists))
kept_in kept None rest lists = refl
kept_in kept (Some c) rest lists = refl

pub returns : goal.returns
returns c =
    let kept : Kept = record { arguments = c.args.bytes.items; reply = c.args.reply.items } in
    let lists : Lists = record { clients = c.self.inside.records.clients; sessions = c.self.inside.sessions.sessions; client_lasts = c.self.inside.records.lasts; session_lasts = c.self.inside.sessions.lasts } in
    let at = client_at lists.clients (id_of c.args.client) in
    let records : c.keep.new.self ≡ record c.self.inside.records { clients = clients_set (answered kept) at lists.clients } = c.keep.ensures in
    let new : Lists = record lists { clients = c.keep.new.self.clients; client_lasts = c.keep.new.self.lasts } in
    let step : (p : Place) (rest : World) → new ≡ lists_of (done_to (standing rest lists) (keep_created c.args.client.number kept (record p { subject = c.args.client.level }) (standing rest lists))) = λ p rest. (λ i. record lists { clients = (records i).clients; client_lasts = (records i).lasts }) ∙ kept_in kept at rest lists in
    subst (λ (k : Lists). (p : Place) (rest : World) → new ≡ lists_of (done_to (standing rest k) (keep_created c.args.client.number kept (record p { subject = c.args.client.level }) (standing rest k)))) c.self.view_is step
