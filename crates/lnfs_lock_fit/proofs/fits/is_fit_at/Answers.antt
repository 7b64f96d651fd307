use Rattle.std.proofs.Common.{◌≡◌, true, subst}
use Rattle.std.specs.Prelude.{◌↔◌}
use Rattle.lnfs_rows.specs.World.{world_of}
use Rattle.lnfs_site.specs.Site.{site_of}
use Rattle.lnfs_lock_fit.specs.Parts.{IsFitLock}
use Rattle.lnfs_lock_fit.proofs.fits.is_fit_at.Goals as goal

pub returns : goal.returns
returns c = subst (λ x. (c.is_fit.result ≡ true) ↔ IsFitLock (site_of c.args.site.now) (world_of c.args.lists.now) x) c.row_at.ensures c.is_fit.ensures
