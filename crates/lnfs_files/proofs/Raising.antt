-- The labels of the directories that name a node, as the rule for raising a label comes to them: of a node whose label is
-- its home they are all that level, and of any other one of them is its home.
use Rattle.std.proofs.Common.{◌≡◌, refl, ap, sym, subst, ◌∙◌, ℕ, Bool, true, false, not, cond, List, [], ◌∷◌, Option, Some, None, arith}
use Rattle.std.specs.Prelude.{◌&&◌, ◌||◌, ◌==◌, filter, filter_map, option_map}
use Rattle.std.specs.List.{AllByRecursion, list_all}
use Rattle.std.proofs.lemmas.Bool.Decides.{nat_tests}
use Rattle.lnfs_words.specs.Words.{is_empty}
use Rattle.lnfs_world.specs.World.{Id, Node, Entry, same_id, label_at, node_at, directory_at, is_directory}
use Rattle.lnfs_world.specs.Tree.{root, has_name, Tree}
use Rattle.lnfs_world.specs.Facts.{NodeFacts, is_label, fits_under, is_good_entry, is_held}
use Rattle.lnfs_world.specs.Effects.{parent_labels}
use Rattle.lnfs_world.proofs.Keys.{id_same}
use Rattle.lnfs_world.proofs.Seals.{unseal}
use Rattle.lnfs_monitor.specs.Rules.{Raise, allows}
use Rattle.lnfs_tree.specs.Held.{cons_some}

module _ (nodes : List Node) (i : Id) where
  step : (e : Entry) (es : List Entry) → parent_labels nodes (e ∷ es) i ≡ cond (same_id i e.node) (cons_some (label_at nodes e.directory) (parent_labels nodes es i)) (parent_labels nodes es i)
  step e es = at (same_id i e.node)
    where
      at : (b : Bool) → filter_map (λ e. label_at nodes e.directory) (cond b (e ∷ filter (λ e. same_id i e.node) es) (filter (λ e. same_id i e.node) es)) ≡ cond b (cons_some (label_at nodes e.directory) (parent_labels nodes es i)) (parent_labels nodes es i)
      at true = refl
      at false = refl

  -- a node that has no name
  none : (es : List Entry) → has_name es i ≡ false → parent_labels nodes es i ≡ []
  none [] e = refl
  none (x ∷ xs) e = step x xs ∙ at (same_id i x.node) e (none xs)
    where
      at : (b : Bool) → (b || has_name xs i) ≡ false → (has_name xs i ≡ false → parent_labels nodes xs i ≡ []) → cond b (cons_some (label_at nodes x.directory) (parent_labels nodes xs i)) (parent_labels nodes xs i) ≡ []
      at true e rest = cc
      at false e rest = rest e

  -- the label of an entry's directory, where the entry names the node
  good : (dom : ℕ → ℕ → Bool) (label : ℕ) (x : Entry) → label_at nodes i ≡ Some label → same_id i x.node ≡ true → is_good_entry dom (label_at nodes) x ≡ true → fits_under dom i.level (label_at nodes x.directory) (Some label) ≡ true
  good dom label x at same is =
      let e : i ≡ x.node = id_same i x.node same in
      ap (λ (l : Option ℕ). fits_under dom i.level (label_at nodes x.directory) l) (sym at)
      ∙ ap (λ (j : Id). fits_under dom j.level (label_at nodes x.directory) (label_at nodes j)) e ∙ is

  -- one that has a name has the label of a directory
  some : (dom : ℕ → ℕ → Bool) (label : ℕ) (es : List Entry) → label_at nodes i ≡ Some label → AllByRecursion (λ e. is_good_entry dom (label_at nodes) e ≡ true) es → has_name es i ≡ true → is_empty (parent_labels nodes es i) ≡ false
  some dom label [] at all e = cc
  some dom label (x ∷ xs) at all e = ap (λ (ls : List ℕ). is_empty ls) (step x xs) ∙ by (same_id i x.node) refl (label_at nodes x.directory) refl e (some dom label xs at all.1)
    where
      by : (b : Bool) → same_id i x.node ≡ b → (l : Option ℕ) → label_at nodes x.directory ≡ l → (b || has_name xs i) ≡ true → (has_name xs i ≡ true → is_empty (parent_labels nodes xs i) ≡ false) → is_empty (cond b (cons_some l (parent_labels nodes xs i)) (parent_labels nodes xs i)) ≡ false
      by true same (Some l) is e rest = refl
      by true same None is e rest =
          let g : fits_under dom i.level (label_at nodes x.directory) (Some label) ≡ true = good dom label x at same all.0 in
          let f : fits_under dom i.level None (Some label) ≡ true = subst (λ (o : Option ℕ). fits_under dom i.level o (Some label) ≡ true) is g in
          cc
      by false same l is e rest = rest e

  at_home : (dom : Bool) (label home directory : ℕ) → label ≡ home → (dom && (directory == home || directory == label)) ≡ true → (label == directory) ≡ true
  at_home dom label home directory same is = grind (arith, nat_tests, same, is)

  -- of a node at its home
  all_home : (dom : ℕ → ℕ → Bool) (label : ℕ) (es : List Entry) → label_at nodes i ≡ Some label → label ≡ i.level → AllByRecursion (λ e. is_good_entry dom (label_at nodes) e ≡ true) es → list_all (λ parent. label == parent) (parent_labels nodes es i) ≡ true
  all_home dom label [] at home all = refl
  all_home dom label (x ∷ xs) at home all =
      ap (λ (ls : List ℕ). list_all (λ parent. label == parent) ls) (step x xs) ∙ by (same_id i x.node) refl (label_at nodes x.directory) refl (all_home dom label xs at home all.1)
    where
      by : (b : Bool) → same_id i x.node ≡ b → (l : Option ℕ) → label_at nodes x.directory ≡ l → list_all (λ parent. label == parent) (parent_labels nodes xs i) ≡ true
          → list_all (λ parent. label == parent) (cond b (cons_some l (parent_labels nodes xs i)) (parent_labels nodes xs i)) ≡ true
      by true same (Some l) is rest =
          let g : fits_under dom i.level (label_at nodes x.directory) (Some label) ≡ true = good dom label x at same all.0 in
          let f : fits_under dom i.level (Some l) (Some label) ≡ true = subst (λ (o : Option ℕ). fits_under dom i.level o (Some label) ≡ true) is g in
          ap (λ (b : Bool). b && list_all (λ parent. label == parent) (parent_labels nodes xs i)) (at_home (dom label l) label i.level l home f) ∙ rest
      by true same None is rest = rest
      by false same l is rest = rest

  -- of another, which has a name in a directory at its home
  one_home : (level : ℕ) (es : List Entry) → (level == i.level) ≡ false → is_held (label_at nodes) es i ≡ true → list_all (λ parent. level == parent) (parent_labels nodes es i) ≡ false
  one_home level [] away e = cc
  one_home level (x ∷ xs) away e =
      ap (λ (ls : List ℕ). list_all (λ parent. level == parent) ls) (step x xs) ∙ by (same_id i x.node) (label_at nodes x.directory) e (one_home level xs away)
    where
      not_home : (l : ℕ) (rest : Bool) → (l == i.level) ≡ true → (level == l && rest) ≡ false
      not_home l rest is = grind (arith, nat_tests, away, is)

      and_false : (a b : Bool) → b ≡ false → (a && b) ≡ false
      and_false true b e = e
      and_false false b e = refl

      here : (l : ℕ) (b : Bool) → (l == i.level) ≡ b → (b || is_held (label_at nodes) xs i) ≡ true → (is_held (label_at nodes) xs i ≡ true → list_all (λ parent. level == parent) (parent_labels nodes xs i) ≡ false) → (level == l && list_all (λ parent. level == parent) (parent_labels nodes xs i)) ≡ false
      here l true is e rest = not_home l (list_all (λ parent. level == parent) (parent_labels nodes xs i)) is
      here l false is e rest = and_false (level == l) (list_all (λ parent. level == parent) (parent_labels nodes xs i)) (rest e)

      by : (b : Bool) (l : Option ℕ) → (b && is_label i.level l || is_held (label_at nodes) xs i) ≡ true → (is_held (label_at nodes) xs i ≡ true → list_all (λ parent. level == parent) (parent_labels nodes xs i) ≡ false)
          → list_all (λ parent. level == parent) (cond b (cons_some l (parent_labels nodes xs i)) (parent_labels nodes xs i)) ≡ false
      by true (Some l) e rest = here l (l == i.level) refl e rest
      by true None e rest = rest e
      by false l e rest = rest e

-- the labels that stand for those of the directories: none of the root, and of others their home
abbrev pub stands_for : Id → List ℕ
stands_for i = cond (same_id root i) [] (i.level ∷ [])

module _ (dom : ℕ → ℕ → Bool) (nodes : List Node) (entries : List Entry) (lasts : List Id) (i : Id) (n : Node) (facts : NodeFacts dom nodes entries lasts) (at : node_at nodes i ≡ Some n) where
  abbrev parents : List ℕ
  parents = parent_labels nodes entries i

  label : label_at nodes i ≡ Some n.label
  label = ap (λ (x : Option Node). option_map (λ n. n.label) x) at

  tree : Tree (directory_at nodes) entries
  tree = unseal facts.tree

  named : same_id root i ≡ false → has_name entries i ≡ true
  named away = by (same_id root i) away (tree.named i (is_directory n.kind) (ap (λ (x : Option Node). option_map (λ n. is_directory n.kind) x) at))
    where
      by : (b : Bool) → b ≡ false → (b || has_name entries i) ≡ true → has_name entries i ≡ true
      by true e is = cc
      by false e is = is

  of_root : same_id root i ≡ true → parents ≡ []
  of_root is = none nodes i entries (ap (has_name entries) (sym (id_same root i is)) ∙ tree.free)

  all_same : list_all (λ parent. n.label == parent) parents ≡ (n.label == i.level && true)
  all_same = by (n.label == i.level) refl (facts.held i n.label label)
    where
      by : (b : Bool) → (n.label == i.level) ≡ b → (b || is_held (label_at nodes) entries i) ≡ true → list_all (λ parent. n.label == parent) parents ≡ (b && true)
      by true is held = all_home nodes i dom n.label entries label (grind (arith, nat_tests, is)) facts.fit
      by false is held = one_home nodes i n.label entries is held

  at_label : (new : ℕ) → allows dom n.label (Raise n.label parents new) ≡ allows dom n.label (Raise n.label (stands_for i) new)
  at_label new = by (same_id root i) refl
    where
      by : (b : Bool) → same_id root i ≡ b → allows dom n.label (Raise n.label parents new) ≡ allows dom n.label (Raise n.label (cond b [] (i.level ∷ [])) new)
      by true is = ap (λ (ls : List ℕ). allows dom n.label (Raise n.label ls new)) (of_root is)
      by false is =
          ap (λ (b : Bool). n.label == n.label && (b && (not (is_empty parents) && dom new n.label))) all_same
          ∙ ap (λ (b : Bool). n.label == n.label && ((n.label == i.level && true) && (not b && dom new n.label))) (some nodes i dom n.label entries label facts.fit (named is))

  -- the rule for raising the node's label, by its home alone
  pub by_home : (level new : ℕ) → allows dom level (Raise n.label parents new) ≡ allows dom level (Raise n.label (stands_for i) new)
  by_home level new = by (level == n.label) refl
    where
      by : (b : Bool) → (level == n.label) ≡ b → allows dom level (Raise n.label parents new) ≡ allows dom level (Raise n.label (stands_for i) new)
      by true is =
          let e : level ≡ n.label = grind (arith, nat_tests, is) in
          subst (λ (l : ℕ). allows dom l (Raise n.label parents new) ≡ allows dom l (Raise n.label (stands_for i) new)) (sym e) (at_label new)
      by false is =
          ap (λ (b : Bool). b && (list_all (λ parent. level == parent) parents && (not (is_empty parents) && dom new n.label))) is
          ∙ sym (ap (λ (b : Bool). b && (list_all (λ parent. level == parent) (stands_for i) && (not (is_empty (stands_for i)) && dom new n.label))) is)
