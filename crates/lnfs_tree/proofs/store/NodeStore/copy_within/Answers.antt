use Rattle.std.proofs.Common.{◌∙◌, ap, refl}
use Rattle.lnfs_world.specs.Rows.{updated}
use Rattle.lnfs_tree.specs.Rows.{id_of}
use Rattle.lnfs_tree.specs.Held.{with_moved, is_node}
use Rattle.lnfs_tree.proofs.Slots.{left, kept}
use Rattle.lnfs_tree.proofs.store.NodeStore.copy_within.Goals as goal

pub returns-in_default-clause-ok : goal.returns-in_default-clause-ok
returns-in_default-clause-ok c = left (with_moved c.args.from c.args.to c.args.count c.args.at) c.args.id c.self.inside.slots c.node_mut.follows.lender-at-none c.self.inside.by_id.entries _ c.self.view_is c.node_mut.follows.holds-at-none c.in_default.ensures.value

pub invariant_of-self-in_err-copy_within : goal.invariant_of-self-in_err-copy_within
invariant_of-self-in_err-copy_within c = ((rw c.in-Some.is at c.node_mut.follows.holds _) (λ n. n) c.in_err-copy_within.ensures.err refl).1

pub invariant_of-self-2 : goal.invariant_of-self-2
invariant_of-self-2 c = ((rw c.in-Some.is at c.node_mut.follows.holds _) (with_moved c.args.from c.args.to c.args.count c.args.at) c.in_ok-copy_within.ensures.ok refl).1

pub returns-clause-ok : goal.returns-clause-ok
returns-clause-ok c = ((rw c.in-Some.is at c.node_mut.follows.holds _) (with_moved c.args.from c.args.to c.args.count c.args.at) c.in_ok-copy_within.ensures.ok refl).0 ∙ ap (updated (is_node (id_of c.args.id)) (with_moved c.args.from c.args.to c.args.count c.args.at)) c.self.view_is

pub returns-in_err-copy_within-clause-err : goal.returns-in_err-copy_within-clause-err
returns-in_err-copy_within-clause-err c = kept c.from_residual.result c.args.id c.self.inside.slots (c.node_mut.follows.lender c.copy_within.new.self) c.self.inside.by_id.entries c.args.self.now c.self.view_is ((rw c.in-Some.is at c.node_mut.follows.holds _) (λ n. n) c.in_err-copy_within.ensures.err refl).0
