use Rattle.std.proofs.Common.{◌<◌, ◌∙◌, List, ap, refl, sym, subst}
use Rattle.lnfs_world.specs.Rows.{updated}
use Rattle.lnfs_world.specs.declared.numbers.TheConstants.{MOST_NAMES}
use Rattle.lnfs_tree.specs.declared.store.Node.{Node}
use Rattle.lnfs_tree.specs.Rows.{id_of}
use Rattle.lnfs_tree.specs.Held.{is_node, node_at}
use Rattle.lnfs_tree.specs.Flat.{links_at}
use Rattle.lnfs_tree.specs.Makes.{with_more_links}
use Rattle.lnfs_tree.proofs.Slots.{left}
use Rattle.lnfs_tree.proofs.store.NodeStore.count_name.Goals as goal

pub returns-in_default : goal.returns-in_default
returns-in_default c = left (with_more_links c.args.directory) c.args.id c.self.inside.slots c.node_mut.follows.lender-at-none c.self.inside.by_id.entries _ c.self.view_is c.node_mut.follows.holds-at-none c.in_default.ensures.value

pub count_name-requires : goal.count_name-requires
count_name-requires c = subst (λ n. n < MOST_NAMES) (sym (ap links_at (c.in-Some.ensures.value ∙ ap (λ (ns : List Node). node_at ns (id_of c.args.id)) c.self.view_is))) c.requires

pub invariant_of-self-2 : goal.invariant_of-self-2
invariant_of-self-2 c = ((rw c.in-Some.is at c.node_mut.follows.holds _) (with_more_links c.args.directory) c.count_name.ensures refl).1

pub returns : goal.returns
returns c = ((rw c.in-Some.is at c.node_mut.follows.holds _) (with_more_links c.args.directory) c.count_name.ensures refl).0 ∙ ap (updated (is_node (id_of c.args.id)) (with_more_links c.args.directory)) c.self.view_is
