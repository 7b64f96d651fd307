use Rattle.std.proofs.Common.{◌≡◌, ℕ, List, Some, None, ◌∙◌, sym, ap, subst}
use Rattle.slab.specs.Slab.{Slab, Updates}
use Rattle.lnfs_world.specs.Rows.{inserted}
use Rattle.lnfs_tree.specs.declared.store.Node.{Node}
use Rattle.lnfs_tree.specs.Rows.{id_of}
use Rattle.lnfs_tree.specs.Held.{held, AreHeld, node_order, node_at}
use Rattle.lnfs_tree.proofs.Slots.{WentIn, went_in, absent_key}
use Rattle.lnfs_tree.proofs.store.NodeStore.insert.Goals as goal
use Rattle.lnfs_tree.proofs.store.NodeStore.insert.Goals.{After-insert_reserved}

in_slots : (c : After-insert_reserved) → WentIn c.reserve.new.self c.insert_reserved.new.self c.vacant_key-key.result c.args.node c.self.inside.by_id.entries c.insert.new.self.entries
in_slots c = record {
  was_held = subst (λ (s : Slab Node). AreHeld s c.self.inside.by_id.entries) (sym c.reserve.ensures.rest_kept) c.self.invariant;
  vacant = c.vacant_key-key.ensures.vacant;
  updates = subst (λ (k : ℕ). Updates c.reserve.new.self c.insert_reserved.new.self k (Some c.args.node)) (c.insert_reserved.ensures.key ∙ sym c.vacant_key-key.ensures.value) c.insert_reserved.ensures.updates;
  absent = absent_key c.args.node.id c.self.inside.slots c.self.inside.by_id.entries c.self.invariant (subst (λ (ns : List Node). node_at ns (id_of c.args.node.id) ≡ None) (sym c.self.view_is) c.requires);
  put = c.in_ok-insert.ensures.entries;
}

pub invariant_of-self-2 : goal.invariant_of-self-2
invariant_of-self-2 c = (went_in _ _ _ _ _ _ (in_slots c)).1

pub returns-clause-ok : goal.returns-clause-ok
returns-clause-ok c = (went_in _ _ _ _ _ _ (in_slots c)).0 ∙ ap (λ (s : Slab Node). inserted node_order c.args.node (held s c.self.inside.by_id.entries)) c.reserve.ensures.rest_kept ∙ ap (inserted node_order c.args.node) c.self.view_is
