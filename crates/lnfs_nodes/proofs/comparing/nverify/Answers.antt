use Rattle.std.proofs.Common.{Bool, Ok, ◌∙◌, ap}
use Rattle.std.specs.Option.{option_map}
use Rattle.lnfs_site.specs.Site.{site_of}
use Rattle.lnfs_world.specs.Outcome.{Place}
use Rattle.lnfs_tree.specs.Rows.{id_of}
use Rattle.lnfs_nodes.specs.Trees.{with_tree}
use Rattle.lnfs_nodes.proofs.Comparisons.{nverify_other, nverify_refused, nverify_same}
use Rattle.lnfs_nodes.proofs.comparing.nverify.Goals as goal

pub returns-in-Err : goal.returns-in-Err
returns-in-Err c = λ p rest.
    let at : Place = record p { subject = c.args.viewer.subject.0; current = option_map id_of c.args.current } in
    nverify_refused (site_of c.args.site.now) c.args.given.now at (with_tree rest c.args.tree.now) _ (c.in_ok-same.ensures p rest) c.in-Err.why c.in-Err.is

pub returns-then-same : goal.returns-then-same
returns-then-same c = λ p rest.
    let at : Place = record p { subject = c.args.viewer.subject.0; current = option_map id_of c.args.current } in
    nverify_same (site_of c.args.site.now) c.args.given.now at (with_tree rest c.args.tree.now) _ (c.in_ok-same.ensures p rest) c.namespace.result (c.in-Ok.is ∙ ap (λ (same : Bool). Ok same) c.if-same.true) c.namespace.ensures

pub returns : goal.returns
returns c = λ p rest.
    let at : Place = record p { subject = c.args.viewer.subject.0; current = option_map id_of c.args.current } in
    nverify_other (site_of c.args.site.now) c.args.given.now at (with_tree rest c.args.tree.now) _ (c.in_ok-same.ensures p rest) (c.in-Ok.is ∙ ap (λ (same : Bool). Ok same) c.if-same.false)
