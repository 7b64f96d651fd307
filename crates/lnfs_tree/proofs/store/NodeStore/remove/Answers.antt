use Rattle.std.proofs.Common.{not, ◌∙◌, sym, ap}
use Rattle.std.specs.Prelude.{filter}
use Rattle.lnfs_tree.specs.Rows.{id_of}
use Rattle.lnfs_tree.specs.Held.{held, is_node}
use Rattle.lnfs_tree.proofs.SlotsOut.{WentOut, went_out, not_removed, contains_key}
use Rattle.lnfs_tree.proofs.store.NodeStore.remove.Goals as goal
use Rattle.lnfs_tree.proofs.store.NodeStore.remove.Goals.{After-drop-remove-5}

in_slots : (c : After-drop-remove-5) → WentOut c.self.inside.slots c.remove-2.new.self c.in-Some.key c.args.id c.self.inside.by_id.entries c.remove.new.self.entries
in_slots c = record {
  was_held = c.self.invariant;
  at = sym c.in-Some.ensures.value;
  updates = c.remove-2.ensures.updates;
  out = c.remove.ensures.entries;
  none = c.remove.ensures.updates.1;
}

pub returns-in_default : goal.returns-in_default
returns-in_default c = ap (held c.self.inside.slots) c.in_default.ensures.unchanged ∙ not_removed c.args.id c.self.inside.slots c.self.inside.by_id.entries c.self.invariant (sym c.in_default.ensures.value) ∙ ap (filter (λ n. not (is_node (id_of c.args.id) n))) c.self.view_is

pub remove-requires-2 : goal.remove-requires-2
remove-requires-2 c = contains_key c.args.id c.in-Some.key c.self.inside.slots c.self.inside.by_id.entries c.self.invariant (sym c.in-Some.ensures.value)

pub invariant_of-self-2 : goal.invariant_of-self-2
invariant_of-self-2 c = (went_out _ _ _ _ _ _ (in_slots c)).1

pub returns : goal.returns
returns c = (went_out _ _ _ _ _ _ (in_slots c)).0 ∙ ap (filter (λ n. not (is_node (id_of c.args.id) n))) c.self.view_is
