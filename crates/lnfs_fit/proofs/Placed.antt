-- Rows that rise, and their places.
use Rattle.std.proofs.Common.{inl, inr, ◌≡◌, ℕ, ◌+◌, ◌<◌, true, List, [], ◌∷◌, Some, None, sym, ap, ◌∙◌, subst, length, arith}
use Rattle.std.specs.Prelude.{◌==◌, ◌⊎◌, slice_index, is_some}
use Rattle.std.specs.Option.{option_map}
use Rattle.std.specs.List.{list_any}
use Rattle.std.specs.declared.cmp.Ordering.TheVariants.{Less}
use Rattle.std.proofs.lemmas.Bool.Decides.{nat_tests}
use Rattle.std.proofs.lemmas.Bool.{cases_order}
use Rattle.lnfs_world.specs.Rows.{Rising}
use Rattle.lnfs_world.specs.World.{Id, Node, Entry, node_order, id_order, same_id, node_at, directory_at, is_directory}
use Rattle.lnfs_world.specs.Tree.{name_of}
use Rattle.lnfs_world.proofs.Keys.{id_same, id_itself, same_truth}
use Rattle.lnfs_climb.specs.Firsts.{first_at}
use Rattle.lnfs_decide.proofs.ByRow.{found_itself}
use Rattle.lnfs_fit.specs.Places.{no_node, no_entry, nth_node, nth_entry, nth_is_dir, ArePlaced}
use Rattle.lnfs_fit.proofs.Indexed.{all_at, any_at, rising_at, find_first}

not_itself : (a b : Id) → id_order a b ≡ Less → a ≡ b → ⊥
not_itself a b less same = absurd (grind (arith, nat_tests))

pub same_places : (a b : ℕ) → (a == b) ≡ true → a ≡ b
same_places a b e = grind (arith, nat_tests)

pub places_same : (a b : ℕ) → a ≡ b → (a == b) ≡ true
places_same a b e = grind (arith, nat_tests)

module _ (nodes : List Node) (rising : Rising node_order nodes) where
  pub one_place : (j k : ℕ) → j < length nodes → k < length nodes → (nth_node nodes j).id ≡ (nth_node nodes k).id → j ≡ k
  one_place j k j_in k_in same = at (cases_order j k)
    where
      at : (j ≡ k) ⊎ ((j < k) ⊎ (k < j)) → j ≡ k
      at (inl is) = is
      at (inr (inl less)) = absurd (not_itself _ _ (rising_at no_node node_order nodes rising j k less k_in) same)
      at (inr (inr more)) = absurd (not_itself _ _ (rising_at no_node node_order nodes rising k j more j_in) (sym same))

  pub node_nth : (k : ℕ) → k < length nodes → node_at nodes (nth_node nodes k).id ≡ Some (nth_node nodes k)
  node_nth k less = all_at no_node (λ n. node_at nodes n.id ≡ Some n) nodes (found_itself nodes rising) k less

  pub kind_nth : (k : ℕ) → k < length nodes → directory_at nodes (nth_node nodes k).id ≡ Some (nth_is_dir nodes k)
  kind_nth k less = ap (option_map (λ n. is_directory n.kind)) (node_nth k less)

  pub place_of : (i : Id) → is_some (directory_at nodes i) ≡ true → (k : ℕ) × (k < length nodes) × (i ≡ (nth_node nodes k).id)
  place_of i there =
      let found = any_at no_node (λ n. same_id i n.id) nodes (any_told nodes i there) in
      (found.0, found.1, id_same i (nth_node nodes found.0).id found.2)
    where
      any_told : (rows : List Node) (i : Id) → is_some (directory_at rows i) ≡ true → list_any (λ n. same_id i n.id) rows ≡ true
      any_told [] i there = there
      any_told (n ∷ rows) i there = grind (arith, any_told rows i)

  module _ (entries : List Entry) (names dirs : List ℕ) (placed : ArePlaced nodes entries names dirs) where
    pub name_test : (k t : ℕ) → k < length nodes → t < length entries → (slice_index names t == k) ≡ same_id (nth_node nodes k).id (nth_entry entries t).node
    name_test k t k_in t_in =
        let inside = placed.names_within t (omega (arith, placed.names_len, t_in)) in
        same_truth _ _
        (λ is. subst (λ d. same_id (nth_node nodes k).id d ≡ true) (ap (λ j. (nth_node nodes j).id) (sym (same_places (slice_index names t) k is)) ∙ placed.names_are t t_in) (id_itself (nth_node nodes k).id))
        (λ is. places_same (slice_index names t) k (one_place (slice_index names t) k inside k_in (placed.names_are t t_in ∙ sym (id_same (nth_node nodes k).id (nth_entry entries t).node is))))

    -- the first name of a row
    pub first_name : (k : ℕ) → k < length nodes → ((first_at names k ≡ length names) × (name_of entries (nth_node nodes k).id ≡ None)) ⊎ ((t : ℕ) × (t < length entries) × (first_at names k ≡ t) × (name_of entries (nth_node nodes k).id ≡ Some (nth_entry entries t)) × (same_id (nth_node nodes k).id (nth_entry entries t).node ≡ true))
    first_name k k_in = at (find_first no_entry (λ e. same_id (nth_node nodes k).id e.node) entries names k 0 placed.names_len (λ t t_in. name_test k t k_in t_in))
      where
        at : ((first_at names k ≡ 0 + length entries) × (name_of entries (nth_node nodes k).id ≡ None)) ⊎ ((t : ℕ) × (t < length entries) × (first_at names k ≡ 0 + t) × (name_of entries (nth_node nodes k).id ≡ Some (nth_entry entries t)) × (same_id (nth_node nodes k).id (nth_entry entries t).node ≡ true)) → ((first_at names k ≡ length names) × (name_of entries (nth_node nodes k).id ≡ None)) ⊎ ((t : ℕ) × (t < length entries) × (first_at names k ≡ t) × (name_of entries (nth_node nodes k).id ≡ Some (nth_entry entries t)) × (same_id (nth_node nodes k).id (nth_entry entries t).node ≡ true))
        at (inl none) = inl (omega (arith, none.0, placed.names_len), none.1)
        at (inr (t, t_in, first, found, passes)) = inr (t, t_in, omega (arith, first), found, passes)
