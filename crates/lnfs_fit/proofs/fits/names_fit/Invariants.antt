use Rattle.std.proofs.Common.{◌≡◌, true, ℕ, ◌<◌}
use Rattle.lnfs_site.specs.Site.{site_of}
use Rattle.lnfs_fit.specs.Places.{nth_entry}
use Rattle.lnfs_fit.specs.Fits.{fits_in}
use Rattle.lnfs_fit.specs.RowsOf.{nodes_of, entries_of}
use Rattle.lnfs_fit.proofs.fits.names_fit.Given as goal

abbrev pub invariant-loop-entry : goal.invariant-loop-entry
invariant-loop-entry l = (t : ℕ) → t < l.entry → fits_in (site_of l.site).dom (nodes_of l.nodes) (nth_entry (entries_of l.entries) t) ≡ true
