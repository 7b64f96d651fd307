-- The labels of the directories that name a node: who sees the node sees each of them, and they tell its home.
use Rattle.std.proofs.Common.{◌≡◌, ℕ, Bool, true, not, ◌&&◌, List, [], ◌∷◌, Option, Some, refl, ap, ◌∙◌, arith}
use Rattle.std.specs.Prelude.{◌==◌, filter}
use Rattle.std.specs.List.{AllByRecursion, list_any, list_all, filter_map, cons_option}
use Rattle.std.proofs.lemmas.Bool.{and_parts}
use Rattle.std.proofs.lemmas.Bool.Decides.{nat_tests}
use Rattle.lnfs_words.specs.Words.{is_empty}
use Rattle.lnfs_calipso.specs.Label.{IsPreorderWithBottom}
use Rattle.lnfs_world.specs.Rows.{kept}
use Rattle.lnfs_world.specs.World.{Id, Entry, World, same_id, label_at}
use Rattle.lnfs_world.specs.Erased.{sees, erased}
use Rattle.lnfs_world.specs.Tree.{has_name}
use Rattle.lnfs_world.specs.Effects.{parent_labels}
use Rattle.lnfs_world.specs.Facts.{Facts, is_label}
use Rattle.lnfs_world.proofs.Rows.{all_weaker, all_filter}
use Rattle.lnfs_world.proofs.Nodes.{label_at-seen}
use Rattle.lnfs_world.proofs.Seen.{names_seen}

-- a filter among rows that are seen, where only these pass
filter-kept_within : {X : Type 0} (p q : X → Bool) (xs : List X) → AllByRecursion (λ x. q x ≡ true → p x ≡ true) xs → filter q (kept p (λ x. x) xs) ≡ filter q xs
filter-kept_within p q [] all = refl
filter-kept_within p q (x ∷ xs) all = grind (arith, filter-kept_within p q xs all.1, all.0)

mapped_alike : {X Y : Type 0} (f g : X → Option Y) (xs : List X) → AllByRecursion (λ x. f x ≡ g x) xs → filter_map f xs ≡ filter_map g xs
mapped_alike f g [] all = refl
mapped_alike f g (x ∷ xs) all = λ k. cons_option (all.0 k) (mapped_alike f g xs all.1 k)

pub parent_labels-seen : (dom : ℕ → ℕ → Bool) → IsPreorderWithBottom dom → (level : ℕ) (w : World) → Facts dom w → (i : Id) → sees dom level w.nodes i ≡ true → parent_labels (erased dom level w).nodes (erased dom level w).entries i ≡ parent_labels w.nodes w.entries i
parent_labels-seen dom lattice level w facts i seen =
    let names = names_seen dom lattice level w facts i seen in
    ap (filter_map (λ e. label_at (erased dom level w).nodes e.directory)) (filter-kept_within (λ e. sees dom level w.nodes e.directory) (λ e. same_id i e.node) w.entries names)
    ∙ mapped_alike _ _ _ (all_weaker _ _ (λ e both. label_at-seen dom level e.directory w.nodes (and_parts _ _ (both.1 both.0)).0) _ (all_filter _ (λ e. same_id i e.node) w.entries names))

-- ---- where all of them are one level

-- a directory at the node's home is at that level
held_at : (s : ℕ) (i : Id) (label : Id → Option ℕ) (entries : List Entry) → list_any (λ e. same_id i e.node && is_label i.level (label e.directory)) entries ≡ true → list_all (λ parent. s == parent) (filter_map (λ e. label e.directory) (filter (λ e. same_id i e.node) entries)) ≡ true → i.level ≡ s
held_at s i label [] held all = grind arith
held_at s i label (e ∷ entries) held all = grind (arith, nat_tests, held_at s i label entries)

pub home_of_parents : (dom : ℕ → ℕ → Bool) (s : ℕ) (w : World) → Facts dom w → (i : Id) → label_at w.nodes i ≡ Some s → list_all (λ parent. s == parent) (parent_labels w.nodes w.entries i) ≡ true → i.level ≡ s
home_of_parents dom s w facts i own all =
    let held = facts.nodes.held i s own in
    grind (arith, nat_tests, held, held_at s i (label_at w.nodes) w.entries)

named_in : (i : Id) (label : Id → Option ℕ) (entries : List Entry) → not (is_empty (filter_map (λ e. label e.directory) (filter (λ e. same_id i e.node) entries))) ≡ true → has_name entries i ≡ true
named_in i label [] some = grind arith
named_in i label (e ∷ entries) some = grind (arith, named_in i label entries)

-- a node in no directory has no such labels
pub named_by_parents : (w : World) (i : Id) → not (is_empty (parent_labels w.nodes w.entries i)) ≡ true → has_name w.entries i ≡ true
named_by_parents w i some = named_in i (label_at w.nodes) w.entries some
