use Rattle.lnfs_policy.proofs.Migrating.{migrated}
use Rattle.lnfs_policy.proofs.laws.migration.Goals as goal

pub returns : goal.returns
returns c = migrated
