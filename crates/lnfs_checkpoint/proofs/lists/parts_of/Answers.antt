use Rattle.std.proofs.Common.{length, ap, arith}
use Rattle.lnfs_rows.specs.World.{world_of}
use Rattle.lnfs_site.specs.Site.{site_of}
use Rattle.lnfs_lock_rows.specs.Told.{locks_told}
use Rattle.lnfs_lock_fit.proofs.Makes.{makes_locks}
use Rattle.lnfs_checkpoint.proofs.Making.{can_be_made}
use Rattle.lnfs_checkpoint.proofs.lists.parts_of.Goals as goal

pub made_of-requires : goal.made_of-requires
made_of-requires c = can_be_made c.args.policy.now c.law_policy.ensures (omega (arith, c.len-levels.ensures.value, c.len-levels.ensures.few, ap length c.lattice.ensures)) (world_of c.args.lists.now) (locks_told c.args.rows.now) c.requires

pub further_of-requires : goal.further_of-requires
further_of-requires c = makes_locks (site_of c.args.policy.now) (omega (arith, c.len-levels.ensures.value, c.len-levels.ensures.few, ap length c.lattice.ensures)) (world_of c.args.lists.now) (locks_told c.args.rows.now) c.requires.locks
