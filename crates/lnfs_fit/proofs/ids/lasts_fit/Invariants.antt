use Rattle.std.proofs.Common.{◌≡◌, ℕ, ◌<◌, true, get_or}
use Rattle.lnfs_site.specs.Site.{site_of}
use Rattle.lnfs_fit.specs.Ids.{is_fit_last}
use Rattle.lnfs_fit.proofs.ids.lasts_fit.Given as goal

abbrev pub invariant-loop-level : goal.invariant-loop-level
invariant-loop-level l = (k : ℕ) → k < l.level → is_fit_last (site_of l.site) k (get_or l.last k 0) ≡ true
