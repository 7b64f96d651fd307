use Rattle.std.proofs.Common.{◌≡◌, ℕ, List, Some, None, map, option_map, sym, ap, ◌∙◌, subst}
use Rattle.std.specs.Prelude.{cond, ◌==◌, ◌&&◌}
use Rattle.std.specs.Str.{bytes_eq}
use Rattle.lnfs_world.specs.World as world
use Rattle.lnfs_world.specs.World.{Id, client_order, client_at}
use Rattle.lnfs_session.specs.Listed.{id_of, client_of}
use Rattle.lnfs_session.specs.Levels.{last_at, records_at, numbers_at, number_by, without, lasts_of}
use Rattle.lnfs_session.specs.Standing.{clients_left, clients_set}
use Rattle.lnfs_session.specs.Records.{ClientLists, replaced_by, with_confirmed}
use Rattle.lnfs_session.proofs.Reindexed.{same}
use Rattle.lnfs_session.proofs.Replaced.{ids_at}
use Rattle.lnfs_session.proofs.Confirming.{confirm, none_replaced, confirmed_already, replaced_id, confirmed_rows, confirmed_indexed}
use Rattle.lnfs_session.proofs.records.Records.confirm.Goals as goal

pub invariant_of-self : goal.invariant_of-self
invariant_of-self c =
    let i = id_of c.args.id in
    let levels = c.self.inside.levels in
    let rows = map client_of c.self.inside.rows.entries in
    let row : world.Client = client_of (c.args.id, c.in-Some.row.now) in
    let confirmed = confirmed_indexed rows (lasts_of levels.entries) (last_at levels) (records_at levels) (numbers_at levels) c.self.invariant row (sym c.in-Some.ensures) c.if-row.false in
    let new = c.confirm_number-replaced.ensures in
    let owner = c.as_slice.ensures in
    let gone : option_map id_of c.confirm_number-replaced.result ≡ ids_at i.level (numbers_at levels i.level row.owner).confirmed = new.gone ∙ ap (λ (o : List ℕ). ids_at i.level (numbers_at levels i.level o).confirmed) owner in
    let left : map client_of c.drop_any.new.rows.entries ≡ clients_left (ids_at i.level (numbers_at levels i.level row.owner).confirmed) rows = c.drop_any.ensures ∙ ap (λ o. clients_left o rows) gone in
    same _ _ _ _ _ confirmed _ _ _ _ _ (c.set_confirmed.ensures ∙ ap (λ (rows : List world.Client). clients_set confirm (client_at rows i) rows) left) new.lasts new.last
    (λ l. new.records l ∙ ap (λ (o : List ℕ). cond (i.level == l) (without (records_at levels i.level) (numbers_at levels i.level o).confirmed) (records_at levels l)) owner)
    (λ l o. new.numbers l o ∙ ap (λ (x : List ℕ). cond (i.level == l && bytes_eq x o) (record { pending = None; confirmed = Some i.number }) (numbers_at levels l o)) owner)

pub confirm_number-replaced-requires : goal.confirm_number-replaced-requires
confirm_number-replaced-requires c =
    let i = id_of c.args.id in
    let levels = c.self.inside.levels in
    let row : world.Client = client_of (c.args.id, c.in-Some.row.now) in
    ap (λ (o : List ℕ). (numbers_at levels i.level o).pending) c.as_slice.ensures
    ∙ (λ t. number_by (sym c.if-row.false t) (numbers_at levels i.level row.owner))
    ∙ c.self.invariant.filed i row (sym c.in-Some.ensures)

pub returns-then-row-clause-gone : goal.returns-then-row-clause-gone
returns-then-row-clause-gone c =
    let i = id_of c.args.id in
    let levels = c.self.inside.levels in
    let rows = map client_of c.self.inside.rows.entries in
    let row : world.Client = client_of (c.args.id, c.in-Some.row.now) in
    let none = none_replaced rows (lasts_of levels.entries) (last_at levels) (records_at levels) (numbers_at levels) c.self.invariant row (sym c.in-Some.ensures) c.if-row.true in
    ap (option_map (λ (r : world.Client). r.id)) (sym none)
    ∙ ap (λ o. option_map (λ (r : world.Client). r.id) (replaced_by o rows)) c.in-Some.ensures
    ∙ ap (λ (lists : ClientLists). option_map (λ (r : world.Client). r.id) (replaced_by (client_at lists.clients i) lists.clients)) c.self.view_is

pub returns-then-row-clause-lists : goal.returns-then-row-clause-lists
returns-then-row-clause-lists c =
    let i = id_of c.args.id in
    let levels = c.self.inside.levels in
    let rows = map client_of c.self.inside.rows.entries in
    let lists : ClientLists = record { clients = rows; lasts = lasts_of levels.entries } in
    let row : world.Client = client_of (c.args.id, c.in-Some.row.now) in
    let already = confirmed_already rows (lasts_of levels.entries) (last_at levels) (records_at levels) (numbers_at levels) c.self.invariant row (sym c.in-Some.ensures) c.if-row.true in
    let clients : rows ≡ with_confirmed (client_at rows i) rows = sym already ∙ ap (λ o. with_confirmed o rows) c.in-Some.ensures in
    let stays : lists ≡ record lists { clients = with_confirmed (client_at rows i) rows } = ap (λ (new : List world.Client). record lists { clients = new }) clients in
    subst (λ (k : ClientLists). k ≡ record k { clients = with_confirmed (client_at k.clients i) k.clients }) c.self.view_is stays

pub returns-clause-gone : goal.returns-clause-gone
returns-clause-gone c =
    let i = id_of c.args.id in
    let levels = c.self.inside.levels in
    let rows = map client_of c.self.inside.rows.entries in
    let row : world.Client = client_of (c.args.id, c.in-Some.row.now) in
    c.confirm_number-replaced.ensures.gone
    ∙ ap (λ (o : List ℕ). ids_at i.level (numbers_at levels i.level o).confirmed) c.as_slice.ensures
    ∙ sym (replaced_id rows (lasts_of levels.entries) (last_at levels) (records_at levels) (numbers_at levels) c.self.invariant row (sym c.in-Some.ensures) c.if-row.false)
    ∙ ap (λ o. option_map (λ (r : world.Client). r.id) (replaced_by o rows)) c.in-Some.ensures
    ∙ ap (λ (lists : ClientLists). option_map (λ (r : world.Client). r.id) (replaced_by (client_at lists.clients i) lists.clients)) c.self.view_is

pub returns-clause-lists : goal.returns-clause-lists
returns-clause-lists c =
    let i = id_of c.args.id in
    let levels = c.self.inside.levels in
    let rows = map client_of c.self.inside.rows.entries in
    let lists : ClientLists = record { clients = rows; lasts = lasts_of levels.entries } in
    let row : world.Client = client_of (c.args.id, c.in-Some.row.now) in
    let new = c.confirm_number-replaced.ensures in
    let gone : option_map id_of c.confirm_number-replaced.result ≡ ids_at i.level (numbers_at levels i.level row.owner).confirmed = new.gone ∙ ap (λ (o : List ℕ). ids_at i.level (numbers_at levels i.level o).confirmed) c.as_slice.ensures in
    let left : map client_of c.drop_any.new.rows.entries ≡ clients_left (ids_at i.level (numbers_at levels i.level row.owner).confirmed) rows = c.drop_any.ensures ∙ ap (λ o. clients_left o rows) gone in
    let clients : map client_of c.set_confirmed.new.rows.entries ≡ with_confirmed (client_at rows i) rows =
    c.set_confirmed.ensures
    ∙ ap (λ (rows : List world.Client). clients_set confirm (client_at rows i) rows) left
    ∙ confirmed_rows rows (lasts_of levels.entries) (last_at levels) (records_at levels) (numbers_at levels) c.self.invariant row (sym c.in-Some.ensures) c.if-row.false
    ∙ ap (λ o. with_confirmed o rows) c.in-Some.ensures in
    let done : record { clients = map client_of c.set_confirmed.new.rows.entries; lasts = lasts_of c.confirm_number-replaced.new.levels.entries } ≡ record lists { clients = with_confirmed (client_at rows i) rows } = λ t. record { clients = clients t; lasts = new.lasts t } in
    subst (λ (k : ClientLists). record { clients = map client_of c.set_confirmed.new.rows.entries; lasts = lasts_of c.confirm_number-replaced.new.levels.entries } ≡ record k { clients = with_confirmed (client_at k.clients i) k.clients }) c.self.view_is done
