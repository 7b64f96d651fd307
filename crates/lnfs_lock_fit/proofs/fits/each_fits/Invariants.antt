use Rattle.std.proofs.Common.{ℕ, ◌<◌}
use Rattle.lnfs_rows.specs.World.{world_of}
use Rattle.lnfs_site.specs.Site.{site_of}
use Rattle.lnfs_lock_fit.specs.Parts.{IsFitLock}
use Rattle.lnfs_lock_fit.specs.RowsOf.{locks_of, nth_lock}
use Rattle.lnfs_lock_fit.proofs.fits.each_fits.Given as goal

abbrev pub invariant-loop-place : goal.invariant-loop-place
invariant-loop-place l = (k : ℕ) → k < l.place → IsFitLock (site_of l.site) (world_of l.lists) (nth_lock (locks_of l.rows) k)
