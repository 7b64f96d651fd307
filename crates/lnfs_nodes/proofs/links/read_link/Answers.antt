use Rattle.lnfs_world.specs.Outcome.{Place}
use Rattle.lnfs_site.specs.Site.{site_of}
use Rattle.lnfs_tree.specs.Rows.{id_of}
use Rattle.std.specs.Option.{option_map}
use Rattle.lnfs_nodes.proofs.ReadLinks.{link_read}
use Rattle.lnfs_nodes.proofs.links.read_link.Goals as goal

pub returns-clause-writes : goal.returns-clause-writes
returns-clause-writes c = λ p rest.
    let at : Place = record p { subject = c.args.subject.0; moment = c.args.moment; current = option_map id_of c.args.current } in
    link_read (site_of c.args.site.now) at rest c.args.tree.now c.set_accessed.new.tree c.in-Ok.link c.in-Some.text.now c.args.out.now c.put_text.new.out
    c.in-Ok.ensures c.in-Some.ensures c.in_default-denied.ensures c.in_ok-put_text.ensures
    (λ n holds. c.set_accessed.ensures n p rest holds)
