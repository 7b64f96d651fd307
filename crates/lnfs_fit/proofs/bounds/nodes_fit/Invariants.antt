use Rattle.std.proofs.Common.{ℕ, ◌<◌}
use Rattle.lnfs_site.specs.Site.{site_of}
use Rattle.lnfs_fit.specs.Places.{nth_node}
use Rattle.lnfs_fit.specs.Fits.{IsFitNode}
use Rattle.lnfs_fit.specs.RowsOf.{nodes_of}
use Rattle.lnfs_fit.proofs.bounds.nodes_fit.Given as goal

abbrev pub invariant-loop-place : goal.invariant-loop-place
invariant-loop-place l = (k : ℕ) → k < l.place → IsFitNode (site_of l.site) (nth_node (nodes_of l.nodes) k)
