use Rattle.std.proofs.Common.{◌≤◌, length, ap, arith}
use Rattle.lnfs_calipso.specs.declared.lattice.TheConstants.{MAX_LEVELS}
use Rattle.lnfs_policy.specs.Policy.{Policy}
use Rattle.lnfs_rows.specs.World.{world_of}
use Rattle.lnfs_site.specs.Site.{site_of}
use Rattle.lnfs_lock_rows.specs.Told.{locks_told}
use Rattle.lnfs_lock_fit.proofs.Makes.{makes_locks}
use Rattle.lnfs_test_lock_rows.proofs.again.made.Goals as goal

pub from_rows-requires : goal.from_rows-requires
from_rows-requires c =
    let few : (site_of c.args.site.now).levels ≤ MAX_LEVELS = omega (arith, c.len-levels.ensures.value, c.len-levels.ensures.few, ap length c.lattice.ensures, ap (λ (p : Policy). length p.labels) c.policy.ensures) in
    record { makes = makes_locks (site_of c.args.site.now) few (world_of c.args.lists.now) (locks_told c.args.rows.now) c.requires }
