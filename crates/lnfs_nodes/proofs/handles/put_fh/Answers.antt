use Rattle.std.proofs.Common.{◌∙◌}
use Rattle.lnfs_site.specs.Site.{site_of}
use Rattle.lnfs_world.specs.Outcome.{Site, Place}
use Rattle.lnfs_tree.specs.Rows.{id_of}
use Rattle.lnfs_nodes.specs.Trees.{with_tree}
use Rattle.lnfs_nodes.proofs.Tests.{named}
use Rattle.lnfs_nodes.proofs.Found.{told_there, put_named}
use Rattle.lnfs_nodes.proofs.handles.put_fh.Goals as goal

pub returns-in-Some-node : goal.returns-in-Some-node
returns-in-Some-node c = λ p rest.
    let site : Site = site_of c.args.site.now in
    let at : Place = record p { subject = c.args.subject.0 } in
    put_named site at (with_tree rest c.args.tree.now) c.args.handle.now (id_of c.in-Some.id) c.in-Some.ensures
    ∙ named site at c.in-Some.id.home.0 _ c.in_default-home_denied.ensures
    ∙ told_there at _ c.args.tree.now (id_of c.in-Some.id) c.in-Some-node.field-0 c.in-Some-node.ensures
