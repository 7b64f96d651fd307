use Rattle.lnfs_world.specs.Outcome.{Place}
use Rattle.lnfs_operations.specs.Link.{link}
use Rattle.lnfs_results.specs.declared.types.OpResult.TheVariants as results
use Rattle.lnfs_tree.specs.declared.node.Info.{Info}
use Rattle.lnfs_nodes.specs.Trees.{with_tree}
use Rattle.lnfs_nodes.specs.Acts.{placed}
use Rattle.lnfs_nodes.specs.Told.{cinfo_of}
use Rattle.lnfs_engine.specs.Places.{place_of}
use Rattle.lnfs_engine.specs.Performs.{site_in}
use Rattle.lnfs_engine.specs.Counts.{AreAsMany}
use Rattle.lnfs_engine.proofs.Acting.{some_world}
use Rattle.lnfs_engine.proofs.OnNames.{on_tree, serves, behind}
use Rattle.lnfs_engine.proofs.Counting.{as_many, many_counts}
use Rattle.lnfs_engine.proofs.NamesCounts.{link_many}
use Rattle.lnfs_engine.proofs.names.on_link.Goals as goal

pub returns-clause-serves : goal.returns-clause-serves
returns-clause-serves c = λ rest.
    let site = site_in c.args.request.now in
    let p = place_of c.args.place.now in
    let name = c.args.name.now in
    let t = c.args.tree.now in
    let u = c.link.new.tree in
    let at : Place = placed p c.caller_of-caller.result in
    serves results.Link (λ (i : Info). cinfo_of i) (with_tree rest t) (with_tree rest u) at p (λ (q : Place). link site name q (with_tree rest t)) c.in_ok-told.told c.tell_link.result
    c.caller_of-caller.ensures c.tell_link.ensures.answer (on_tree (λ (i : Info). cinfo_of i) (λ (i : Info). at) at rest t u (link site name at (with_tree rest t)) c.in_ok-told.told (c.in_ok-told.ensures.acts p rest))

pub returns-clause-counts : goal.returns-clause-counts
returns-clause-counts c = λ rows counts.
    let site = site_in c.args.request.now in
    let name = c.args.name.now in
    let t = c.args.tree.now in
    let u = c.link.new.tree in
    let at : Place = placed (place_of c.args.place.now) c.caller_of-caller.result in
    let act = link site name at (with_tree some_world t) in
    many_counts rows t.nodes u.nodes counts
    (behind (λ (i : Info). cinfo_of i) (λ (i : Info). at) at (with_tree some_world t) (with_tree some_world u) act (AreAsMany t.nodes) c.in_ok-told.told
    (on_tree (λ (i : Info). cinfo_of i) (λ (i : Info). at) at some_world t u act c.in_ok-told.told (c.in_ok-told.ensures.acts (place_of c.args.place.now) some_world))
    (as_many t.nodes) (link_many site at some_world t c.requires.facts name))
