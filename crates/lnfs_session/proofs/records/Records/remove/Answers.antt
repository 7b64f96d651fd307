use Rattle.std.proofs.Common.{◌≡◌, ℕ, List, None, cond, not, filter, map, sym, ap, ◌∙◌, subst, arith}
use Rattle.std.specs.Prelude.{◌==◌, ◌&&◌}
use Rattle.std.specs.Option.{IsSome}
use Rattle.std.specs.Str.{bytes_eq}
use Rattle.lnfs_world.specs.World as world
use Rattle.lnfs_world.specs.World.{client_at, same_id}
use Rattle.lnfs_counts.proofs.Rows.{none_gone}
use Rattle.lnfs_session.specs.Listed.{id_of, client_of}
use Rattle.lnfs_session.specs.Levels.{last_at, records_at, numbers_at, number_by, cleared, lasts_of}
use Rattle.lnfs_session.specs.Records.{ClientLists}
use Rattle.lnfs_session.specs.Indexed.{own_id}
use Rattle.lnfs_session.proofs.Reindexed.{same, dropped}
use Rattle.lnfs_session.proofs.records.Records.remove.Goals as goal

pub invariant_of-self : goal.invariant_of-self
invariant_of-self c =
    let i = id_of c.args.id in
    let levels = c.self.inside.levels in
    let row : world.Client = client_of (c.args.id, c.in-Some.row.now) in
    let left = dropped (map client_of c.self.inside.rows.entries) (lasts_of levels.entries) (last_at levels) (records_at levels) (numbers_at levels) c.self.invariant i row (sym c.in-Some.ensures) in
    same _ _ _ _ _ left _ _ _ _ _ c.drop_client.ensures c.clear_number.ensures.lasts c.clear_number.ensures.last c.clear_number.ensures.records
    (λ l o. c.clear_number.ensures.numbers l o ∙ ap (λ (owner : List ℕ). cond (i.level == l && bytes_eq owner o) (cleared row.confirmed (numbers_at levels i.level owner)) (numbers_at levels l o)) c.as_slice.ensures)

pub returns-in_default : goal.returns-in_default
returns-in_default c =
    let i = id_of c.args.id in
    let rows = map client_of c.self.inside.rows.entries in
    let none : client_at rows i ≡ None = sym c.in_default.ensures in
    let lists : ClientLists = record { clients = rows; lasts = lasts_of c.self.inside.levels.entries } in
    let all : lists ≡ record lists { clients = filter (λ x. not (same_id i x.id)) rows } = ap (λ (clients : List world.Client). record lists { clients = clients }) (sym (none_gone own_id i rows none)) in
    subst (λ (k : ClientLists). k ≡ record k { clients = filter (λ x. not (same_id i x.id)) k.clients }) c.self.view_is all

pub clear_number-requires : goal.clear_number-requires
clear_number-requires c =
    let levels = c.self.inside.levels in
    let row : world.Client = client_of (c.args.id, c.in-Some.row.now) in
    let filed = c.self.invariant.filed (id_of c.args.id) row (sym c.in-Some.ensures) in
    subst (λ (owner : List ℕ). IsSome (number_by row.confirmed (numbers_at levels c.args.id.level owner))) (sym c.as_slice.ensures) (grind (arith, filed))
