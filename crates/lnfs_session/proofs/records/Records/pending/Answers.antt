use Rattle.std.proofs.Common.{ap, sym, ◌∙◌, map, find, option_map, ℕ}
use Rattle.lnfs_world.specs.World.{Client}
use Rattle.lnfs_operations.specs.ExchangeId.{is_pending}
use Rattle.lnfs_session.specs.declared.levels.OwnerNumbers.{OwnerNumbers}
use Rattle.lnfs_session.specs.Listed.{client_of}
use Rattle.lnfs_session.specs.Levels.{last_at, records_at, numbers_at, lasts_of}
use Rattle.lnfs_session.specs.Records.{ClientLists}
use Rattle.lnfs_session.proofs.Indexed.{pending_id}
use Rattle.lnfs_session.proofs.records.Records.pending.Goals as goal

pub returns : goal.returns
returns c =
    let levels = c.self.inside.levels in
    c.numbered.ensures
    ∙ ap (λ (n : OwnerNumbers). option_map (λ (k : ℕ). record { level = c.args.level; number = k }) n.pending) c.numbers_at.ensures
    ∙ sym (pending_id (map client_of c.self.inside.rows.entries) (lasts_of levels.entries) (last_at levels) (records_at levels) (numbers_at levels) c.self.invariant c.args.level c.args.owner.now)
    ∙ ap (λ (lists : ClientLists). option_map (λ (r : Client). r.id) (find (is_pending c.args.level c.args.owner.now) lists.clients)) c.self.view_is
