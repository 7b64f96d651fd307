-- Rows of a level, and names of a node, counted over their places.
use Rattle.std.proofs.Common.{inl, inr, ◌≡◌, ℕ, ◌+◌, ◌<◌, ◌≤◌, Bool, true, false, cond, List, Some, refl, sym, ap, ◌∙◌, subst, length, get_or, arith}
use Rattle.std.specs.Prelude.{◌==◌, ◌⊎◌, nat_lt, count_by, slice_index, is_some}
use Rattle.std.specs.List.{AllByRecursion}
use Rattle.std.proofs.lemmas.Bool.Decides.{nat_tests}
use Rattle.std.proofs.lemmas.Bool.{cases_lt, false≢true}
use Rattle.lnfs_world.specs.Rows.{Rising}
use Rattle.lnfs_world.specs.World.{Id, Node, Entry, node_order, same_id, directory_at}
use Rattle.lnfs_world.specs.Names.{names_of}
use Rattle.lnfs_world.specs.Tree.{root}
use Rattle.lnfs_world.specs.Outcome.{Site}
use Rattle.lnfs_world.proofs.Rows.{all_weaker}
use Rattle.lnfs_world.proofs.Keys.{id_same}
use Rattle.lnfs_operations.specs.Sizes.{is_level}
use Rattle.lnfs_operations.specs.Bounds.{IsGivenBy}
use Rattle.lnfs_climb.specs.Firsts.{AreBelow}
use Rattle.lnfs_fit.specs.Ids.{nth_id}
use Rattle.lnfs_fit.specs.Places.{no_entry, nth_node, nth_entry, nth_is_dir, ArePlaced}
use Rattle.lnfs_fit.proofs.Indexed.{all_at, at_all}
use Rattle.lnfs_fit.proofs.Placed.{place_of, kind_nth, name_test}
use Rattle.lnfs_fit.proofs.Counts.{count_paired, none_counted}

level_below : (site : Site) (l : ℕ) → is_level site l ≡ true → l < site.levels + 1
level_below site l is = at site.limited is
  where
    at : (b : Bool) → cond b (l == 0) (nat_lt l site.levels) ≡ true → l < site.levels + 1
    at true e = grind (arith, nat_tests)
    at false e = grind (arith, nat_tests)

other_level : (a b c : ℕ) → a < c → c ≤ b → (a == b) ≡ false
other_level a b c less from = grind (arith, nat_tests)

none_at_most : (n most : ℕ) → n ≡ 0 → n ≤ most
none_at_most n most is = omega (arith, is)

module _ (site : Site) (ids : List Id) (bounds : AllByRecursion (IsGivenBy site) ids) (levels : List ℕ) (len : length levels ≡ length ids) (are : (k : ℕ) → k < length ids → get_or levels k 0 ≡ (nth_id ids k).level) where
  pub below : AreBelow (site.levels + 1) levels
  below k k_in =
      let inside : k < length ids = omega (arith, len, k_in) in
      subst (λ l. l < site.levels + 1) (sym (are k inside)) (level_below site (nth_id ids k).level (all_at root (IsGivenBy site) ids bounds k inside).level)

  counted : (level : ℕ) → count_by (λ x. x == level) levels ≡ count_by (λ i. i.level == level) ids
  counted level = count_paired root (λ x. x == level) (λ i. i.level == level) levels ids len (λ t less. ap (λ l. l == level) (are t less))

  pub to_few : (most : ℕ) → ((k : ℕ) → k < site.levels + 1 → count_by (λ x. x == k) levels ≤ most) → (level : ℕ) → count_by (λ i. i.level == level) ids ≤ most
  to_few most few level = at (cases_lt level (site.levels + 1))
    where
      at : (level < site.levels + 1) ⊎ (site.levels + 1 ≤ level) → count_by (λ i. i.level == level) ids ≤ most
      at (inl less) = subst (λ n. n ≤ most) (counted level) (few level less)
      at (inr from) = none_at_most _ most (none_counted (λ i. i.level == level) ids (all_weaker _ _ (λ i given. other_level i.level level (site.levels + 1) (level_below site i.level given.level) from) ids bounds))

  pub of_few : (most : ℕ) → ((level : ℕ) → count_by (λ i. i.level == level) ids ≤ most) → (k : ℕ) → k < site.levels + 1 → count_by (λ x. x == k) levels ≤ most
  of_few most few k less = subst (λ n. n ≤ most) (sym (counted k)) (few k)

not_same : (b : Bool) → (b ≡ true → ⊥) → b ≡ false
not_same true no_one = absurd (no_one refl)
not_same false no_one = refl

module _ (nodes : List Node) (rising : Rising node_order nodes) (entries : List Entry) (names dirs : List ℕ) (placed : ArePlaced nodes entries names dirs) where
  names_counted : (k : ℕ) → k < length nodes → count_by (λ x. x == k) names ≡ names_of entries (nth_node nodes k).id
  names_counted k k_in = count_paired no_entry (λ x. x == k) (λ e. same_id (nth_node nodes k).id e.node) names entries placed.names_len (λ t t_in. name_test nodes rising entries names dirs placed k t k_in t_in)

  -- what isn't there has no names
  nameless : (i : Id) → is_some (directory_at nodes i) ≡ false → names_of entries i ≡ 0
  nameless i absent = none_counted (λ e. same_id i e.node) entries (at_all no_entry (λ e. same_id i e.node ≡ false) entries (λ t t_in. not_same (same_id i (nth_entry entries t).node) (λ same.
      let inside = placed.names_within t (omega (arith, placed.names_len, t_in)) in
      let is : (nth_node nodes (slice_index names t)).id ≡ i = placed.names_are t t_in ∙ sym (id_same i (nth_entry entries t).node same) in
      let there : is_some (directory_at nodes i) ≡ true = ap is_some (subst (λ d. directory_at nodes d ≡ Some (nth_is_dir nodes (slice_index names t))) is (kind_nth nodes rising (slice_index names t) inside)) in
      false≢true (sym absent ∙ there))))

  pub to_few_names : (most : ℕ) → ((k : ℕ) → k < length nodes → count_by (λ x. x == k) names ≤ most) → (i : Id) → names_of entries i ≤ most
  to_few_names most few i = at (is_some (directory_at nodes i)) refl
    where
      at : (b : Bool) → is_some (directory_at nodes i) ≡ b → names_of entries i ≤ most
      at false absent = none_at_most (names_of entries i) most (nameless i absent)
      at true there =
          let found = place_of nodes rising i there in
          subst (λ d. names_of entries d ≤ most) (sym found.2) (subst (λ n. n ≤ most) (names_counted found.0 found.1) (few found.0 found.1))

  pub of_few_names : (most : ℕ) → ((i : Id) → names_of entries i ≤ most) → (k : ℕ) → k < length nodes → count_by (λ x. x == k) names ≤ most
  of_few_names most few k k_in = subst (λ n. n ≤ most) (sym (names_counted k k_in)) (few (nth_node nodes k).id)
