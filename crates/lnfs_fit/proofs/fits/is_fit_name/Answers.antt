use Rattle.std.proofs.Common.{◌≡◌, sym, ◌∙◌, arith, ◌&&◌, ◌||◌}
use Rattle.std.specs.Prelude.{◌==◌, nat_lt}
use Rattle.std.proofs.lemmas.List.{length-map}
use Rattle.lnfs_site.specs.Site.{site_of}
use Rattle.lnfs_fit.specs.Places.{nth_node, nth_entry}
use Rattle.lnfs_rows.specs.Told.{node_of}
use Rattle.lnfs_fit.specs.RowsOf.{nodes_of, entries_of}
use Rattle.lnfs_fit.proofs.Fitting.{fit_is}
use Rattle.lnfs_fit.proofs.fits.is_fit_name.Goals as goal

pub returns : goal.returns
returns c =
    let len = length-map c.args.nodes.now node_of in
    let is = fit_is (site_of c.args.site.now).dom (nodes_of c.args.nodes.now) c.requires.rise (nth_entry (entries_of c.args.entries.now) c.args.entry) c.args.name c.args.dir (omega (arith, len, c.requires.name.0)) (omega (arith, len, c.requires.dir.0)) c.requires.name.1 c.requires.dir.1 in
    let above = c.label_of-above.ensures in
    let own = c.label_of-label.ensures in
    let home = c.home_of-home.ensures in
    let up : c.dominates-dominates.result ≡ (site_of c.args.site.now).dom (nth_node (nodes_of c.args.nodes.now) c.args.name).label (nth_node (nodes_of c.args.nodes.now) c.args.dir).label = c.dominates-dominates.ensures ∙ (λ k. (site_of c.args.site.now).dom (own k) (above k)) in
    (λ k. nat_lt (c.cookie_at.ensures k) (c.cookies_of.ensures k) && (up k && (above k == home k || above k == own k))) ∙ sym is
