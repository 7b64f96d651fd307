-- The question to the rule for raising a label, as the code asks it.
use Rattle.std.proofs.Common.{◌≡◌, ap, sym, ◌∙◌, ℕ, Bool, false, cond, List, [], ◌∷◌, Some, None}
use Rattle.std.specs.Prelude.{if◌then◌else◌}
use Rattle.lnfs_world.specs.World.{Id, Node, same_id}
use Rattle.lnfs_world.specs.Tree.{root}
use Rattle.lnfs_world.specs.Facts.{NodeFacts}
use Rattle.lnfs_world.specs.Effects.{parent_labels}
use Rattle.lnfs_world.specs.Outcome.{Site}
use Rattle.lnfs_monitor.specs.declared.rule.Rule.TheVariants.{M5}
use Rattle.lnfs_monitor.specs.Rules.{Raise}
use Rattle.lnfs_operations.specs.declared.Gate.TheVariants.{Monitor}
use Rattle.lnfs_operations.specs.Judged.{denied_with}
use Rattle.lnfs_tree.specs.Rows.{Rows, id_of}
use Rattle.lnfs_nodes.specs.Trees.{Holds, denial}
use Rattle.lnfs_nodes.specs.declared.held.Held.{Held}
use Rattle.lnfs_files.proofs.Raising.{stands_for, by_home}

module _ (site : Site) (t : Rows) (facts : NodeFacts site.dom t.nodes t.entries t.lasts) (n : Node) (h : Held) (s new : ℕ) (holds : Holds t n h) where
  as_asked : (labels : List ℕ) → labels ≡ stands_for n.id → denial site s (Raise h.facts.label.0 labels new) ≡ denial site s (Raise n.label (parent_labels t.nodes t.entries n.id) new)
  as_asked labels e =
      ap (λ (l : ℕ). denial site s (Raise l labels new)) holds.tells.label
      ∙ ap (λ (ls : List ℕ). denial site s (Raise n.label ls new)) e
      ∙ ap (λ (b : Bool). if b then None else Some (record { gate = Monitor M5; status = denied_with M5 })) (sym (by_home site.dom t.nodes t.entries t.lasts n.id n facts holds.node_is s new))

  -- of the root
  pub of_root : id_of h.id ≡ root → denial site s (Raise h.facts.label.0 [] new) ≡ denial site s (Raise n.label (parent_labels t.nodes t.entries n.id) new)
  of_root is = as_asked [] (ap stands_for (sym (sym holds.id ∙ is)))

  -- of another node
  pub of_other : same_id root (id_of h.id) ≡ false → denial site s (Raise h.facts.label.0 (h.id.home.0 ∷ []) new) ≡ denial site s (Raise n.label (parent_labels t.nodes t.entries n.id) new)
  of_other is =
      as_asked (h.id.home.0 ∷ []) (
      ap (λ (i : Id). i.level ∷ []) holds.id
      ∙ sym (ap (λ (b : Bool). cond b [] (n.id.level ∷ [])) (ap (same_id root) (sym holds.id) ∙ is)))
