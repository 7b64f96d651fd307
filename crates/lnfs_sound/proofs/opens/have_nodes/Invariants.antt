use Rattle.std.proofs.Common.{◌≡◌, ℕ, ◌<◌, true}
use Rattle.lnfs_site.specs.Site.{site_of}
use Rattle.lnfs_fit.specs.RowsOf.{ids_of}
use Rattle.lnfs_sound.specs.Parts.{has_node}
use Rattle.lnfs_sound.specs.RowsOf.{opens_of, nth_open}
use Rattle.lnfs_sound.proofs.opens.have_nodes.Given as goal

abbrev pub invariant-loop-place : goal.invariant-loop-place
invariant-loop-place l = (k : ℕ) → k < l.place → has_node (site_of l.site).dom (ids_of l.node_ids) (nth_open (opens_of l.rows) k).id (nth_open (opens_of l.rows) k).node ≡ true
