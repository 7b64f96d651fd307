use Rattle.std.proofs.Common.{◌≡◌, true, sym, ap, ◌∙◌, subst}
use Rattle.std.specs.Prelude.{◌↔◌}
use Rattle.lnfs_site.specs.Site.{site_of}
use Rattle.lnfs_rows.specs.Told.{node_of}
use Rattle.lnfs_fit.specs.Places.{no_node, nth_node}
use Rattle.lnfs_fit.specs.Fits.{IsFitNode}
use Rattle.lnfs_fit.specs.RowsOf.{nodes_of}
use Rattle.lnfs_fit.proofs.Mapped.{nth-map}
use Rattle.lnfs_fit.proofs.bounds.is_fit_at.Goals as goal

pub returns : goal.returns
returns c =
    let row = c.index-nodes-place.result in
    let is : nth_node (nodes_of c.args.nodes.now) c.args.place ≡ node_of row = nth-map node_of c.args.nodes.now c.args.place row no_node c.requires ∙ ap node_of (sym c.index-nodes-place.is) in
    subst (λ n. (c.is_fit.result ≡ true) ↔ IsFitNode (site_of c.args.site.now) n) (sym is) c.is_fit.ensures
