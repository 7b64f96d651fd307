-- What the tests of rows tell together.
use Rattle.std.proofs.Common.{inl, inr, ◌≡◌, ℕ, ◌+◌, ◌<◌, ◌≤◌, Bool, true, false, cond, ◌&&◌, ◌||◌, List, [], ◌∷◌, Some, None, refl, sym, ap, ◌∙◌, subst, length, arith}
use Rattle.std.specs.Prelude.{◌==◌, ◌⊎◌, nat_lt, slice_index}
use Rattle.std.specs.Option.{option_map}
use Rattle.std.specs.List.{AllByRecursion, list_any, find}
use Rattle.std.proofs.lemmas.Bool.Decides.{nat_tests}
use Rattle.std.proofs.lemmas.Bool.{and_parts, and_from}
use Rattle.lnfs_world.specs.Rows.{Rising, Apart}
use Rattle.lnfs_world.specs.World.{Id, Node, Entry, node_order, entry_order, same_id, label_at, directory_at, is_given}
use Rattle.lnfs_world.specs.Tree.{Tree}
use Rattle.lnfs_world.specs.Facts.{is_below, cookies_at, is_good_entry, is_held, is_label, same_name}
use Rattle.lnfs_world.proofs.Seals.{seal, unseal}
use Rattle.lnfs_world.proofs.Rows.{any-find, all_weaker}
use Rattle.lnfs_world.specs.Names.{names_of}
use Rattle.lnfs_world.specs.Outcome.{Site}
use Rattle.lnfs_world.specs.declared.numbers.TheConstants.{MOST_NAMES}
use Rattle.lnfs_operations.specs.Sizes.{NodeFits}
use Rattle.lnfs_operations.specs.Bounds.{IsGivenBy, NodeBounds, EntryBounds}
use Rattle.lnfs_world.proofs.Keys.{id_same, id_itself, same_truth}
use Rattle.lnfs_climb.specs.Firsts.{first_at}
use Rattle.lnfs_rows.specs.Lasts.{given_of}
use Rattle.lnfs_decide.proofs.ByRow.{by_label, of_label}
use Rattle.lnfs_decide.proofs.LastNumbers.{given_rise}
use Rattle.lnfs_fit.specs.Places.{no_node, no_entry, nth_node, nth_entry, ArePlaced}
use Rattle.lnfs_fit.specs.Fits.{IsFitNode, fits_in, holds, holder, is_home, AreFit}
use Rattle.lnfs_fit.proofs.Indexed.{all_at, at_all, find_first}
use Rattle.lnfs_fit.proofs.Placed.{node_nth, one_place, same_places, places_same}

find_none : {X : Type 0} (q : X → Bool) (xs : List X) → find q xs ≡ None → list_any q xs ≡ false
find_none q [] none = refl
find_none q (x ∷ xs) none = grind (arith, find_none q xs)

module _ (nodes : List Node) (rising : Rising node_order nodes) (entries : List Entry) (names dirs : List ℕ) (placed : ArePlaced nodes entries names dirs) (holders : List ℕ) (len : length holders ≡ length entries) (are : (t : ℕ) → t < length entries → slice_index holders t ≡ holder nodes names dirs t) where
  abbrev held_by : ℕ → Entry → Bool
  held_by k e = same_id (nth_node nodes k).id e.node && is_label (nth_node nodes k).id.level (label_at nodes e.directory)

  label_of_dir : (t : ℕ) → t < length entries → label_at nodes (nth_entry entries t).directory ≡ Some (nth_node nodes (slice_index dirs t)).label
  label_of_dir t t_in = subst (λ i. label_at nodes i ≡ Some (nth_node nodes (slice_index dirs t)).label) (placed.dirs_are t t_in) (ap (option_map (λ n. n.label)) (node_nth nodes rising (slice_index dirs t) (placed.dirs_within t (omega (arith, placed.dirs_len, t_in)))))

  -- a name holds a node exactly where its place is told
  name_holds : (k t : ℕ) → k < length nodes → t < length entries → (slice_index holders t == k) ≡ held_by k (nth_entry entries t)
  name_holds k t k_in t_in = same_truth _ _ there back
    where
      there : (slice_index holders t == k) ≡ true → held_by k (nth_entry entries t) ≡ true
      there is = at (holds nodes names dirs t) refl
        where
          value : holder nodes names dirs t ≡ k
          value = sym (are t t_in) ∙ same_places (slice_index holders t) k is

          at : (b : Bool) → holds nodes names dirs t ≡ b → held_by k (nth_entry entries t) ≡ true
          at false e = absurd (omega (arith, k_in, sym value ∙ ap (λ b. cond b (slice_index names t) (length nodes)) e))
          at true e =
              let place : slice_index names t ≡ k = sym (ap (λ b. cond b (slice_index names t) (length nodes)) e) ∙ value in
              let node : (nth_node nodes k).id ≡ (nth_entry entries t).node = ap (λ j. (nth_node nodes j).id) (sym place) ∙ placed.names_are t t_in in
              and_from _ _ (subst (λ d. same_id (nth_node nodes k).id d ≡ true) node (id_itself (nth_node nodes k).id))
              (ap (is_label (nth_node nodes k).id.level) (label_of_dir t t_in) ∙ subst (λ j. ((nth_node nodes (slice_index dirs t)).label == (nth_node nodes j).id.level) ≡ true) place e)

      back : held_by k (nth_entry entries t) ≡ true → (slice_index holders t == k) ≡ true
      back is =
          let both = and_parts (same_id (nth_node nodes k).id (nth_entry entries t).node) (is_label (nth_node nodes k).id.level (label_at nodes (nth_entry entries t).directory)) is in
          let place : slice_index names t ≡ k = one_place nodes rising (slice_index names t) k (placed.names_within t (omega (arith, placed.names_len, t_in))) k_in (placed.names_are t t_in ∙ sym (id_same (nth_node nodes k).id (nth_entry entries t).node both.0)) in
          let yes : holds nodes names dirs t ≡ true = subst (λ j. ((nth_node nodes (slice_index dirs t)).label == (nth_node nodes j).id.level) ≡ true) (sym place) (sym (ap (is_label (nth_node nodes k).id.level) (label_of_dir t t_in)) ∙ both.1) in
          places_same (slice_index holders t) k (are t t_in ∙ ap (λ b. cond b (slice_index names t) (length nodes)) yes ∙ place)

  pub held_first : (k : ℕ) → k < length nodes → nat_lt (first_at holders k) (length entries) ≡ is_held (label_at nodes) entries (nth_node nodes k).id
  held_first k k_in = at (find_first no_entry (held_by k) entries holders k 0 len (λ t t_in. name_holds k t k_in t_in))
    where
      at : ((first_at holders k ≡ 0 + length entries) × (find (held_by k) entries ≡ None)) ⊎ ((t : ℕ) × (t < length entries) × (first_at holders k ≡ 0 + t) × (find (held_by k) entries ≡ Some (nth_entry entries t)) × (held_by k (nth_entry entries t) ≡ true)) → nat_lt (first_at holders k) (length entries) ≡ is_held (label_at nodes) entries (nth_node nodes k).id
      at (inl none) = not_less (first_at holders k) (length entries) none.0 ∙ sym (find_none (held_by k) entries none.1)
        where
          not_less : (a b : ℕ) → a ≡ 0 + b → nat_lt a b ≡ false
          not_less a b e = grind (arith, nat_tests)
      at (inr (t, t_in, first, found, passes)) = less (first_at holders k) (length entries) t first t_in ∙ sym (any-find (held_by k) (held_by k) (λ x is. is) entries (nth_entry entries t) found)
        where
          less : (a b t : ℕ) → a ≡ 0 + t → t < b → nat_lt a b ≡ true
          less a b t e f = grind (arith, nat_tests)

module _ (site : Site) (last : List ℕ) (nodes : List Node) (entries : List Entry) where
  node_bounds : (n : Node) → IsGivenBy site n.id → IsFitNode site n → NodeBounds site n
  node_bounds n given fit = record {
    id = given;
    label = fit.label;
    verifier = fit.verifier;
    inner = record { mode = fit.mode; change = fit.change; holds = fit.content.holds };
  }

  pub whole : Rising node_order nodes → AllByRecursion (λ n. is_given (given_of last) n.id ≡ true) nodes → AllByRecursion (λ n. IsGivenBy site n.id) nodes → AllByRecursion (IsGivenBy site) (given_of last) → Rising entry_order entries → Apart same_name entries → ((k : ℕ) → k < length nodes → IsFitNode site (nth_node nodes k)) → ((t : ℕ) → t < length entries → EntryBounds (nth_entry entries t)) → ((t : ℕ) → t < length entries → fits_in site.dom nodes (nth_entry entries t) ≡ true) → ((k : ℕ) → k < length nodes → (is_home nodes k || is_held (label_at nodes) entries (nth_node nodes k).id) ≡ true) → ((i : Id) → names_of entries i ≤ MOST_NAMES) → Tree (directory_at nodes) entries → AreFit site last nodes entries
  whole rising given bounds lasts entries_rise names fits entries_fit names_fit held few tree = record {
    facts = record {
      rise = rising;
      lasts_rise = given_rise last;
      given = by_label nodes (λ i l. is_given (given_of last) i ≡ true) given;
      entries_rise = entries_rise;
      cookies = at_all no_entry (λ e. is_below e.cookie (cookies_at nodes e.directory) ≡ true) entries (λ t t_in. (and_parts _ _ (names_fit t t_in)).0);
      names = names;
      tree = seal tree;
      labels = by_label nodes (λ i l. site.dom l i.level ≡ true) (at_all no_node (λ n. site.dom n.label n.id.level ≡ true) nodes (λ k k_in. (fits k k_in).dominates));
      fit = at_all no_entry (λ e. is_good_entry site.dom (label_at nodes) e ≡ true) entries (λ t t_in. (and_parts _ _ (names_fit t t_in)).1);
      held = by_label nodes (λ i l. (l == i.level || is_held (label_at nodes) entries i) ≡ true) (at_all no_node (λ n. (n.label == n.id.level || is_held (label_at nodes) entries n.id) ≡ true) nodes held);
    };
    sizes = at_all no_node NodeFits nodes (λ k k_in. record { stored = (fits k k_in).stored; text = (fits k k_in).content.text });
    bounds = at_all no_node (NodeBounds site) nodes (λ k k_in. node_bounds (nth_node nodes k) (all_at no_node (λ n. IsGivenBy site n.id) nodes bounds k k_in) (fits k k_in));
    entry_bounds = at_all no_entry EntryBounds entries entries_fit;
    names = few;
    lasts = lasts;
  }

  module _ (fit : AreFit site last nodes entries) where
    pub given_of_fit : AllByRecursion (λ n. is_given (given_of last) n.id ≡ true) nodes
    given_of_fit = of_label nodes (λ i l. is_given (given_of last) i ≡ true) fit.facts.rise fit.facts.given

    pub bounds_of_fit : AllByRecursion (λ n. IsGivenBy site n.id) nodes
    bounds_of_fit = all_weaker _ _ (λ n b. b.id) nodes fit.bounds

    pub fits_of : (k : ℕ) → k < length nodes → IsFitNode site (nth_node nodes k)
    fits_of k k_in =
        let bounds = all_at no_node (NodeBounds site) nodes fit.bounds k k_in in
        let sizes = all_at no_node NodeFits nodes fit.sizes k k_in in
        record {
          dominates = all_at no_node (λ n. site.dom n.label n.id.level ≡ true) nodes (of_label nodes (λ i l. site.dom l i.level ≡ true) fit.facts.rise fit.facts.labels) k k_in;
          label = bounds.label;
          verifier = bounds.verifier;
          mode = bounds.inner.mode;
          change = bounds.inner.change;
          stored = sizes.stored;
          content = record { holds = bounds.inner.holds; text = sizes.text };
        }

    pub entries_fit_of : (t : ℕ) → t < length entries → EntryBounds (nth_entry entries t)
    entries_fit_of t t_in = all_at no_entry EntryBounds entries fit.entry_bounds t t_in

    pub names_fit_of : (t : ℕ) → t < length entries → fits_in site.dom nodes (nth_entry entries t) ≡ true
    names_fit_of t t_in = and_from _ _
        (all_at no_entry (λ e. is_below e.cookie (cookies_at nodes e.directory) ≡ true) entries fit.facts.cookies t t_in)
        (all_at no_entry (λ e. is_good_entry site.dom (label_at nodes) e ≡ true) entries fit.facts.fit t t_in)

    pub held_of : (k : ℕ) → k < length nodes → (is_home nodes k || is_held (label_at nodes) entries (nth_node nodes k).id) ≡ true
    held_of k k_in = all_at no_node (λ n. (n.label == n.id.level || is_held (label_at nodes) entries n.id) ≡ true) nodes (of_label nodes (λ i l. (l == i.level || is_held (label_at nodes) entries i) ≡ true) fit.facts.rise fit.facts.held) k k_in

    pub tree_of_fit : Tree (directory_at nodes) entries
    tree_of_fit = unseal fit.facts.tree
