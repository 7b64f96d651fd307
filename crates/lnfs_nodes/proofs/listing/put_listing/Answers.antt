use Rattle.std.proofs.Common.{ℕ, ◌∙◌, ◌++◌, false, sym, subst}
use Rattle.lnfs_xdr.specs.Canon.{flag}
use Rattle.lnfs_site.specs.Site.{site_of}
use Rattle.lnfs_world.specs.Outcome.{Site, Place}
use Rattle.lnfs_tree.specs.Rows.{id_of}
use Rattle.lnfs_nodes.specs.Trees.{with_tree}
use Rattle.lnfs_nodes.specs.Walks.{Walks, listed_in, listing_head}
use Rattle.lnfs_nodes.proofs.Extended.{appended, extends_on}
use Rattle.lnfs_nodes.proofs.ReadDirs.{listing_done}
use Rattle.lnfs_nodes.proofs.listing.put_listing.Goals as goal

pub returns-in_ok-put_end-in-Ended-clause-lists : goal.returns-in_ok-put_end-in-Ended-clause-lists
returns-in_ok-put_end-in-Ended-clause-lists c = λ p rest d listable.
    let site : Site = site_of c.args.lister.now.site.now in
    let at : Place = record p { subject = c.args.lister.now.viewer.subject.0 } in
    listing_done site at d c.args.size c.args.out.now c.put_head.new.out c.put_entries.new.out c.put_end.new.out _ c.in-Ended.any c.in-Ended.eof
    (subst (Walks c.put_head.new.out c.put_entries.new.out _) c.in-Ended.is
    (subst (λ (room : ℕ). Walks c.put_head.new.out c.put_entries.new.out (listed_in site at (with_tree rest c.args.tree.now) c.args.lister.now.asking.asked.now (id_of c.args.dir) c.args.cookie room) c.in_ok-put_entries.field-0) c.saturating_sub-room.ensures
    (c.in_ok-put_entries.ensures.walked p rest listable)))
    (sym c.is_too_small.ensures ∙ c.if-is_too_small.false) c.in_ok-put_head.ensures c.in_ok-put_end-in-Ended.ensures

pub returns-in_ok-put_end-in-Ended-clause-extends : goal.returns-in_ok-put_end-in-Ended-clause-extends
returns-in_ok-put_end-in-Ended-clause-extends c =
    extends_on c.args.out.now c.put_head.new.out c.put_end.new.out (appended c.args.out.now listing_head c.put_head.new.out c.in_ok-put_head.ensures)
    (extends_on c.put_head.new.out c.put_entries.new.out c.put_end.new.out c.in_ok-put_entries.ensures.extends
    (appended c.put_entries.new.out (flag false ++ flag c.in-Ended.eof) c.put_end.new.out c.in_ok-put_end-in-Ended.ensures))
