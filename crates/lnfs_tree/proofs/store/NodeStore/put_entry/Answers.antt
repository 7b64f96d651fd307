use Rattle.std.proofs.Common.{◌≡◌, ◌<◌, None, ◌∙◌, ap, refl, subst}
use Rattle.std.specs.List.{AllByRecursion}
use Rattle.lnfs_world.specs.Rows.{updated}
use Rattle.lnfs_tree.specs.Rows.{id_of}
use Rattle.lnfs_tree.specs.Listed.{name_at}
use Rattle.lnfs_tree.specs.declared.store.Node.{Node}
use Rattle.lnfs_tree.specs.Held.{is_node}
use Rattle.lnfs_tree.specs.Makes.{with_entry}
use Rattle.lnfs_tree.proofs.Slots.{same_node, not_missing}
use Rattle.lnfs_tree.proofs.store.NodeStore.put_entry.Goals as goal

pub unreachable-requires : goal.unreachable-requires
unreachable-requires c = not_missing c.args.id c.self.inside.slots c.self.inside.by_id.entries c.args.self.now c.requires.node c.self.view_is c.requires.found c.in_default.ensures.value

pub insert-requires-clause-above : goal.insert-requires-clause-above
insert-requires-clause-above c = subst (λ (n : Node). AllByRecursion (λ x. x.cookie < c.args.cookie) n.names) (same_node c.args.id c.self.inside.slots c.self.inside.by_id.entries c.args.self.now _ _ c.self.view_is c.requires.found c.in-Some.ensures.value) c.requires.above

pub insert-requires-clause-absent : goal.insert-requires-clause-absent
insert-requires-clause-absent c = subst (λ (n : Node). name_at n.names c.args.name.now ≡ None) (same_node c.args.id c.self.inside.slots c.self.inside.by_id.entries c.args.self.now _ _ c.self.view_is c.requires.found c.in-Some.ensures.value) c.requires.absent

pub invariant_of-self : goal.invariant_of-self
invariant_of-self c = ((rw c.in-Some.is at c.node_mut.follows.holds _) (λ n. n) (ap (λ x. record c.in-Some.node.now { names = x }) c.in_err-insert.ensures.err) refl).1

pub invariant_of-self-2 : goal.invariant_of-self-2
invariant_of-self-2 c = ((rw c.in-Some.is at c.node_mut.follows.holds _) (with_entry c.args.cookie c.args.name.now c.args.child) (ap (λ x. record c.in-Some.node.now { names = x }) c.in_ok-insert.ensures.ok) refl).1

pub returns : goal.returns
returns c = ((rw c.in-Some.is at c.node_mut.follows.holds _) (with_entry c.args.cookie c.args.name.now c.args.child) (ap (λ x. record c.in-Some.node.now { names = x }) c.in_ok-insert.ensures.ok) refl).0 ∙ ap (updated (is_node (id_of c.args.id)) (with_entry c.args.cookie c.args.name.now c.args.child)) c.self.view_is
