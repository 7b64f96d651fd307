use Rattle.std.proofs.Common.{map, refl}
use Rattle.lnfs_session.specs.Listed.{id_of, client_of}
use Rattle.lnfs_session.specs.Levels.{last_at, records_at, numbers_at, lasts_of}
use Rattle.lnfs_session.specs.Standing.{seen_at}
use Rattle.lnfs_session.proofs.Reindexed.{same}
use Rattle.lnfs_session.proofs.Entered.{set_kept}
use Rattle.lnfs_session.proofs.records.Records.renew.Goals as goal

pub invariant_of-self : goal.invariant_of-self
invariant_of-self c =
    let levels = c.self.inside.levels in
    let set = set_kept (map client_of c.self.inside.rows.entries) (lasts_of levels.entries) (last_at levels) (records_at levels) (numbers_at levels) c.self.invariant (seen_at c.args.secs) (λ r. refl) (λ r. refl) (λ r. refl) (id_of c.args.id) in
    same _ _ _ _ _ set _ _ _ _ _ c.set_seen.ensures refl (λ l. refl) (λ l. refl) (λ l o. refl)
