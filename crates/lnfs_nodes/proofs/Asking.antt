-- Attributes that are asked of the node of a file handle.
use Rattle.std.proofs.Common.{◌≡◌, ℕ, cond, List, ◌++◌, Some, None, Ok, ap, ◌∙◌}
use Rattle.lnfs_attrs.specs.declared.bitmap.Bitmap.{Bitmap}
use Rattle.lnfs_attrs.specs.declared.raw.RawAttrs.{RawAttrs}
use Rattle.lnfs_results.specs.declared.types.OpResult.TheVariants as results
use Rattle.lnfs_results.specs.Texts.{fields_text}
use Rattle.lnfs_arguments.specs.SharedTexts.{attrs_text}
use Rattle.lnfs_monitor.specs.Rules.{Read}
use Rattle.lnfs_world.specs.World.{Node, World}
use Rattle.lnfs_world.specs.Outcome.{Site, Place, Outcome}
use Rattle.lnfs_operations.specs.declared.Refusal.{Refusal}
use Rattle.lnfs_operations.specs.Chain.{Answer, refuse}
use Rattle.lnfs_operations.specs.Judged.{where_asked}
use Rattle.lnfs_operations.specs.Handles.{with_current}
use Rattle.lnfs_operations.specs.Shown.{asks_inner}
use Rattle.lnfs_tree.specs.Rows.{Rows}
use Rattle.lnfs_nodes.specs.Trees.{with_tree, held_in, Holds, IsHeld, refusal_of, denial}
use Rattle.lnfs_nodes.specs.declared.held.Held.{Held}
use Rattle.lnfs_nodes.proofs.Refusing.{on_held, asked, asked_denied}

module _ {R : Type 0} (site : Site) (p : Place) (rest : World) (t : Rows) (mask : Bitmap) (h : Held) (held : IsHeld t (held_in t.nodes p.current) (Ok h)) (next : Node → Outcome (Answer R)) where
  -- inner attributes are asked that the subject may not read
  pub inner_refused : (why : Refusal) → Some (refusal_of why) ≡ cond (asks_inner mask) (denial site p.subject (Read h.facts.label.0)) None →
      with_current p (with_tree rest t) (λ n. where_asked (asks_inner mask) site p (Read n.label) (next n)) ≡ refuse p why.gate why.status
  inner_refused why e =
      on_held p rest t _ h _ held (λ n holds.
      asked_denied (asks_inner mask) site p (Read n.label) (next n) why (e ∙ ap (λ (l : ℕ). cond (asks_inner mask) (denial site p.subject (Read l)) None) holds.tells.label))

  -- what is asked may be shown
  pub inner_shown : (o : Outcome (Answer R)) → None ≡ cond (asks_inner mask) (denial site p.subject (Read h.facts.label.0)) None → ((n : Node) → Holds t n h → next n ≡ o) →
      with_current p (with_tree rest t) (λ n. where_asked (asks_inner mask) site p (Read n.label) (next n)) ≡ o
  inner_shown o e is =
      on_held p rest t _ h _ held (λ n holds.
      asked (asks_inner mask) site p (Read n.label) (next n) (e ∙ ap (λ (l : ℕ). cond (asks_inner mask) (denial site p.subject (Read l)) None) holds.tells.label) ∙ is n holds)

pub attrs_fields : (a : RawAttrs) (start new : List ℕ) → new ≡ start ++ attrs_text a → new ≡ start ++ fields_text (results.GetAttr a)
unfolding fields_text
attrs_fields a start new e = e
