use Rattle.std.proofs.Common.{◌≡◌, Some, None, option_map, sym, ap, ◌∙◌}
use Rattle.lnfs_world.specs.World.{Open}
use Rattle.lnfs_open.specs.Lists.{Lists}
use Rattle.lnfs_open.specs.Listed.{id_of, client_id, node_id}
use Rattle.lnfs_open.specs.Kept.{lists_in}
use Rattle.lnfs_open.specs.Opening.{own_open}
use Rattle.lnfs_open.specs.Finding.{index_of}
use Rattle.lnfs_open.specs.Owners.{number_at}
use Rattle.lnfs_open.proofs.Indexing.{find-matter, at_number, matter_id}
use Rattle.lnfs_open.proofs.opens.Opens.own.Goals as goal

pub returns-in_err-number : goal.returns-in_err-number
returns-in_err-number c =
    let s = lists_in c.self.inside.rows.entries c.self.inside.counters in
    let client = client_id c.args.client in
    let node = node_id c.args.node in
    let name = c.args.owner.now in
    let none : None ≡ number_at c.self.inside.finder.owners client node name = c.in_err-number.ensures ∙ (λ t. number_at c.self.inside.finder.owners (c.key.ensures t) (c.key-2.ensures t) name) in
    ap (option_map id_of) c.from_residual.ensures
    ∙ ap (option_map (λ (o : Open). o.id)) (sym (find-matter s (index_of c.self.inside.counters c.self.inside.finder) c.self.invariant.indexed client node name ∙ ap (at_number s.opens client.level) (sym none)))
    ∙ ap (λ (lists : Lists). option_map (λ (o : Open). o.id) (own_open lists (record { client = client; owner = name; node = node; access = 0; deny = 0 }))) c.self.view_is

pub returns : goal.returns
returns c =
    let s = lists_in c.self.inside.rows.entries c.self.inside.counters in
    let client = client_id c.args.client in
    let node = node_id c.args.node in
    let name = c.args.owner.now in
    let some : Some c.in_ok-number.number ≡ number_at c.self.inside.finder.owners client node name = c.in_ok-number.ensures ∙ (λ t. number_at c.self.inside.finder.owners (c.key.ensures t) (c.key-2.ensures t) name) in
    let found = matter_id s (index_of c.self.inside.counters c.self.inside.finder) c.self.invariant.indexed client node name c.in_ok-number.number (sym some) in
    ap Some (sym found.2)
    ∙ ap (option_map (λ (o : Open). o.id)) (sym found.1)
    ∙ ap (λ (lists : Lists). option_map (λ (o : Open). o.id) (own_open lists (record { client = client; owner = name; node = node; access = 0; deny = 0 }))) c.self.view_is
