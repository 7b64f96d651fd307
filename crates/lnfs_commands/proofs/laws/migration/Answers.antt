use Rattle.lnfs_policy.proofs.Again.{again}
use Rattle.lnfs_commands.proofs.laws.migration.Goals as goal

pub returns : goal.returns
returns c = λ text p is. (c.migration.ensures p (again text p is)).spells
