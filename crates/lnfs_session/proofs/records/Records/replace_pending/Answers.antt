use Rattle.std.proofs.Common.{◌≡◌, ◌+◌, ℕ, List, map, option_map, refl, sym, ap, ◌∙◌}
use Rattle.std.specs.Prelude.{find}
use Rattle.lnfs_world.specs.Rows.{inserted}
use Rattle.lnfs_world.specs.World as world
use Rattle.lnfs_world.specs.World.{Id, client_order, level_order, last_of}
use Rattle.lnfs_operations.specs.ExchangeId.{is_pending, new_client}
use Rattle.lnfs_session.specs.declared.levels.OwnerNumbers.{OwnerNumbers}
use Rattle.lnfs_session.specs.Listed.{id_of, client_of}
use Rattle.lnfs_session.specs.Levels.{last_at, records_at, numbers_at, lasts_of}
use Rattle.lnfs_session.specs.Standing.{clients_left}
use Rattle.lnfs_session.specs.Records.{ClientLists, left_by, pending_replaced}
use Rattle.lnfs_session.proofs.Indexed.{pending_id}
use Rattle.lnfs_session.proofs.Reindexed.{same}
use Rattle.lnfs_session.proofs.Replaced.{ids_at, pending_rows, pending_indexed}
use Rattle.lnfs_session.proofs.records.Records.replace_pending.Goals as goal

pub invariant_of-self-2 : goal.invariant_of-self-2
invariant_of-self-2 c =
    let level = c.args.level in
    let rows = map client_of c.self.inside.rows.entries in
    let old = c.self.inside.levels in
    let levels = c.make_place.new.levels in
    let told = c.in_ok-numbers.ensures.same in
    let row : world.Client = new_client (record { level = level; number = c.last_given-number.result + 1 }) (record { verifier = c.args.verifier; owner = c.args.owner.now; flags = 0 }) in
    let placed = same rows (lasts_of old.entries) (last_at old) (records_at old) (numbers_at old) c.self.invariant rows (lasts_of levels.entries) (last_at levels) (records_at levels) (numbers_at levels) refl told.lasts told.last told.records told.numbers in
    let next : c.last_given-number.result + 1 ≡ last_at levels level + 1 = ap (λ (n : ℕ). n + 1) (c.last_given-number.ensures ∙ sym (told.last level)) in
    let entered = pending_indexed rows (lasts_of levels.entries) (last_at levels) (records_at levels) (numbers_at levels) placed row refl next in
    let new = c.enter_number-pending.ensures in
    same _ _ _ _ _ entered _ _ _ _ _ (c.drop_any.ensures ∙ (λ t. clients_left (new.gone t) (c.in_default.ensures.added t))) new.lasts new.last new.records new.numbers

pub returns-clause-gone : goal.returns-clause-gone
returns-clause-gone c =
    let level = c.args.level in
    let old = c.self.inside.levels in
    c.enter_number-pending.ensures.gone
    ∙ ap (λ (n : OwnerNumbers). ids_at level n.pending) (c.in_ok-numbers.ensures.same.numbers level c.args.owner.now)
    ∙ sym (pending_id (map client_of c.self.inside.rows.entries) (lasts_of old.entries) (last_at old) (records_at old) (numbers_at old) c.self.invariant level c.args.owner.now)
    ∙ ap (λ (lists : ClientLists). option_map (λ (r : world.Client). r.id) (find (is_pending level c.args.owner.now) lists.clients)) c.self.view_is

pub returns-clause-lists : goal.returns-clause-lists
returns-clause-lists c =
    let level = c.args.level in
    let rows = map client_of c.self.inside.rows.entries in
    let old = c.self.inside.levels in
    let lasts = lasts_of old.entries in
    let told = c.in_ok-numbers.ensures.same in
    let id : Id = record { level = level; number = c.last_given-number.result + 1 } in
    let row : world.Client = new_client id (record { verifier = c.args.verifier; owner = c.args.owner.now; flags = 0 }) in
    let next : c.last_given-number.result + 1 ≡ last_at old level + 1 = ap (λ (n : ℕ). n + 1) c.last_given-number.ensures in
    let number : c.last_given-number.result + 1 ≡ last_of level lasts + 1 = next ∙ ap (λ (n : ℕ). n + 1) (sym (c.self.invariant.counted.lasting level)) in
    let new = c.enter_number-pending.ensures in
    let gone : option_map id_of c.enter_number-pending.result ≡ ids_at level (numbers_at old level c.args.owner.now).pending = new.gone ∙ ap (λ (n : OwnerNumbers). ids_at level n.pending) (told.numbers level c.args.owner.now) in
    let left : List world.Client = left_by (find (is_pending level c.args.owner.now) rows) rows in
    let clients : map client_of c.drop_any.new.rows.entries ≡ inserted client_order row left =
    c.drop_any.ensures ∙ (λ t. clients_left (gone t) (c.in_default.ensures.added t)) ∙ pending_rows rows lasts (last_at old) (records_at old) (numbers_at old) c.self.invariant row refl next in
    let given : lasts_of c.enter_number-pending.new.levels.entries ≡ inserted level_order id lasts = new.lasts ∙ ap (inserted level_order id) told.lasts in
    (λ t. record { clients = clients t; lasts = given t })
    ∙ (λ t. record { clients = inserted client_order (record row { id = record { level = level; number = number t } }) left; lasts = inserted level_order (record { level = level; number = number t }) lasts })
    ∙ ap (pending_replaced level c.args.owner.now c.args.verifier) c.self.view_is
