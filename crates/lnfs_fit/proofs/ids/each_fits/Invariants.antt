use Rattle.std.proofs.Common.{ℕ, ◌<◌}
use Rattle.lnfs_site.specs.Site.{site_of}
use Rattle.lnfs_fit.specs.Ids.{nth_id, IsFitId}
use Rattle.lnfs_fit.specs.RowsOf.{ids_of}
use Rattle.lnfs_fit.proofs.ids.each_fits.Given as goal

abbrev pub invariant-loop-place : goal.invariant-loop-place
invariant-loop-place l = (k : ℕ) → k < l.place → IsFitId (site_of l.site) l.last (nth_id (ids_of l.ids) k)
