-- Changes of nodes and entries keep what holds of them.
use Rattle.std.proofs.Common.{refl, ◌≡◌, ℕ, Bool, true, false, cond, not, ◌&&◌, ◌||◌, List, Some, None, sym, ◌∙◌, ap, subst, arith}
use Rattle.std.proofs.Math.Path.{fun_ext}
use Rattle.std.specs.Prelude.{filter, ◌==◌}
use Rattle.std.specs.List.{AllByRecursion}
use Rattle.std.specs.Ordering.{is_eq}
use Rattle.std.proofs.lemmas.Bool.{false≢true}
use Rattle.std.proofs.lemmas.Bool.Decides.{nat_tests}
use Rattle.lnfs_calipso.specs.Label.{IsPreorderWithBottom}
use Rattle.lnfs_world.specs.Rows.{inserted, Rising, Apart}
use Rattle.lnfs_world.specs.World.{Id, Inner, Node, Entry, World, node_order, entry_order, level_order, same_id, label_at, directory_at, is_directory}
use Rattle.lnfs_world.specs.Tree.{Tree, same_entry}
use Rattle.lnfs_world.specs.Change.{touched, relabelled, without_entry}
use Rattle.lnfs_world.specs.Facts.{Facts, NodeFacts, is_label, is_good_entry, is_held, same_name, cookies_at, is_below}
use Rattle.lnfs_world.specs.Within.{is_no_less}
use Rattle.lnfs_world.proofs.Seals.{seal, unseal}
use Rattle.lnfs_world.proofs.Within.{Makes, Relabels, Links, Unlinks, Drops, Moves}
use Rattle.lnfs_world.proofs.Rows.{all_anyway, all_weaker, all_two, all_filter, all_left, none_any, any_weaker, any_filter, any_left}
use Rattle.lnfs_world.proofs.Sorted.{all_inserted, any_inserted, rising_updated, rising_filter, rising_inserted}
use Rattle.lnfs_world.proofs.Apart.{apart_filter, apart_inserted}
use Rattle.lnfs_world.proofs.Keys.{id_same, id_turned, entry_before, entry_after, entry_tied, entry_apart, bytes_turned}
use Rattle.lnfs_world.proofs.Nodes.{told-touched, told-made, told-dropped, label_at-touched, label_at-relabelled, label_at-made, label_at-dropped, directory_at-relabelled, cookies_at-touched, cookies_at-relabelled, nothing_told}
use Rattle.lnfs_world.proofs.Determined.{new_absent}
use Rattle.lnfs_world.proofs.Added.{added_placed}
use Rattle.lnfs_world.proofs.Trees.{tree_make, tree_link, tree_unlink, tree_drop, tree_move}
use Rattle.lnfs_world.proofs.Walks.{sees_own, under_found}
use Rattle.lnfs_world.proofs.KeptClients.{row_rises, lasts_rise, given_own, given_more}

-- ---- entries

entries_rise : (entry : Entry) (entries : List Entry) → Rising entry_order entries → Rising entry_order (inserted entry_order entry entries)
entries_rise entry entries rising = rising_inserted entry_order entry_after entry_before entry_tied entry entries rising

names_turn : (a b : Entry) → same_name a b ≡ same_name b a
names_turn a b = grind (arith, id_turned a.directory b.directory, bytes_turned a.name b.name)

abbrev NameFree : Entry → List Entry → Type 0
NameFree entry entries = AllByRecursion (λ e. same_name entry e ≡ false) entries

abbrev KeyFree : Entry → List Entry → Type 0
KeyFree entry entries = AllByRecursion (λ e. (same_id entry.directory e.directory && entry.cookie == e.cookie) ≡ false) entries

names_added : (entry : Entry) (entries : List Entry) → Rising entry_order entries → NameFree entry entries → Apart same_name entries → Apart same_name (inserted entry_order entry entries)
names_added entry entries rising free apart = apart_inserted same_name entry_order names_turn entry_before entry_tied entry entries rising (all_weaker _ _ (λ e none. grind (arith, none)) entries free) apart

no_ties : (entry : Entry) (entries : List Entry) → KeyFree entry entries → AllByRecursion (λ e. is_eq (entry_order entry e) ≡ false) entries
no_ties entry entries free = all_weaker _ _ (λ e none. entry_apart entry e none) entries free

below_there : (nodes : List Node) (cookie : ℕ) (i : Id) → is_below cookie (cookies_at nodes i) ≡ true → label_at nodes i ≡ None → true ≡ false
below_there nodes cookie i below none =
    let nothing = nothing_told (λ n. n.inner.cookies) i nodes none in
    sym below ∙ ap (is_below cookie) nothing

-- ---- a node

module _ (dom : ℕ → ℕ → Bool) (lattice : IsPreorderWithBottom dom) (s : ℕ) where
  touch_more : (cookie : ℕ) (i d : Id) (inner : Inner) (nodes : List Node) → is_no_less (cookies_at nodes i) inner.cookies ≡ true → is_below cookie (cookies_at nodes d) ≡ true → is_below cookie (cookies_at (touched i inner nodes) d) ≡ true
  touch_more cookie i d inner nodes more below = grind (arith, nat_tests, cookies_at-touched i inner d nodes, id_same d i)

  pub touch_node : (nodes : List Node) (entries : List Entry) (lasts : List Id) (i : Id) (inner : Inner) → NodeFacts dom nodes entries lasts → is_no_less (cookies_at nodes i) inner.cookies ≡ true → NodeFacts dom (touched i inner nodes) entries lasts
  touch_node nodes entries lasts i inner facts more =
      let same = λ (d : Id). label_at-touched i inner d nodes in
      let e : label_at nodes ≡ label_at (touched i inner nodes) = sym (fun_ext same) in
      let kinds : directory_at nodes ≡ directory_at (touched i inner nodes) = sym (fun_ext (λ d. told-touched (λ n. is_directory n.kind) i inner (λ n. refl) d nodes)) in record {
        rise = rising_updated node_order _ _ (λ x y. refl) (λ x y. refl) nodes facts.rise;
        lasts_rise = facts.lasts_rise;
        given = λ d l h. facts.given d l (sym (same d) ∙ h);
        entries_rise = facts.entries_rise;
        cookies = all_weaker _ _ (λ e below. touch_more e.cookie i e.directory inner nodes more below) entries facts.cookies;
        names = facts.names;
        tree = seal (subst (λ k. Tree k entries) kinds (unseal facts.tree));
        labels = λ d l h. facts.labels d l (sym (same d) ∙ h);
        fit = subst (λ f. AllByRecursion (λ e. is_good_entry dom f e ≡ true) entries) e facts.fit;
        held = λ d l h. subst (λ f. (l == d.level || is_held f entries d) ≡ true) e (facts.held d l (sym (same d) ∙ h));
      }

  pub relabel_node : (w : World) (lasts : List Id) (i : Id) (label : ℕ) (inner : Inner) → NodeFacts dom w.nodes w.entries lasts → Relabels dom s w i label → NodeFacts dom (relabelled i label inner w.nodes) w.entries lasts
  relabel_node w lasts i label inner facts relabels =
      let nodes : List Node = relabelled i label inner w.nodes in
      let own = relabels.own in
      let home = relabels.home in
      let rises = relabels.rises in
      let at = λ (d : Id). label_at-relabelled i label inner d w.nodes in
      let none = relabels.empty in
      let other : (d : Id) → is_held (label_at w.nodes) w.entries d ≡ true → is_held (label_at nodes) w.entries d ≡ true = λ d.
      any_weaker _ _ w.entries (all_weaker _ _ (λ e n. grind (arith, nat_tests, at e.directory, id_turned i e.directory)) w.entries none) in
      let held_own : (d : Id) → same_id d i ≡ true → is_held (label_at nodes) w.entries d ≡ true = λ d m.
      any_weaker _ _ w.entries (all_two _ _ _ (λ e good n. grind (arith, nat_tests, at e.directory, id_same e.node i)) w.entries facts.fit none) relabels.named in
      record {
        rise = rising_updated node_order _ _ (λ x y. refl) (λ x y. refl) w.nodes facts.rise;
        lasts_rise = facts.lasts_rise;
        given = λ d l h. grind (arith, nat_tests, at d, id_same d i, facts.given d s, facts.given d l);
        entries_rise = facts.entries_rise;
        cookies = all_two _ _ _ (λ e below n. ap (is_below e.cookie) (cookies_at-relabelled i label inner e.directory w.nodes (id_turned e.directory i ∙ n)) ∙ below) w.entries facts.cookies none;
        names = facts.names;
        tree = seal (subst (λ k. Tree k w.entries) (sym (fun_ext (λ d. directory_at-relabelled i label inner d w.nodes))) (unseal facts.tree));
        labels = λ d l h. grind (arith, nat_tests, at d, facts.labels d);
        fit = all_two _ _ _ (λ e good n. grind (arith, nat_tests, at e.directory, at e.node, id_same e.node i)) w.entries facts.fit none;
        held = λ d l h. grind (arith, nat_tests, at d, facts.held d l, held_own d, other d);
      }

  pub make_node : (w : World) (node : Node) (entry : Entry) → NodeFacts dom w.nodes w.entries w.lasts.nodes → Makes dom s w node entry → NodeFacts dom (inserted node_order node w.nodes) (inserted entry_order entry w.entries) (inserted level_order node.id w.lasts.nodes)
  make_node w node entry facts makes =
      let nodes : List Node = inserted node_order node w.nodes in
      let new = makes.new in
      let home : node.id.level ≡ s = new.own in
      let rises = makes.rises in
      let names_it = makes.names_it in
      let adds = makes.adds in
      let own_directory = adds.own in
      let absent = new_absent dom s w.nodes w.entries w.lasts.nodes facts node.id new in
      let no_ties = no_ties entry w.entries adds.keys in
      let at = λ (d : Id). label_at-made node d w.nodes in
      let cookies_at_made = λ (d : Id). told-made (λ n. n.inner.cookies) node d w.nodes in
      let other : (d : Id) → is_held (label_at w.nodes) w.entries d ≡ true → is_held (label_at nodes) w.entries d ≡ true = λ d.
      any_weaker _ _ w.entries (all_weaker _ _ (λ e good. grind (arith, nat_tests, at e.directory, id_same e.directory node.id)) w.entries facts.fit) in
      let own : (d : Id) → same_id d node.id ≡ true → (same_id d entry.node && is_label d.level (label_at nodes entry.directory)) ≡ true = λ d m.
      grind (arith, nat_tests, at entry.directory, id_same entry.directory node.id) in
      let below : (e : Entry) → is_below e.cookie (cookies_at w.nodes e.directory) ≡ true → is_below e.cookie (cookies_at nodes e.directory) ≡ true = λ e was.
      grind (arith, nat_tests, cookies_at_made e.directory, id_same e.directory node.id, below_there w.nodes e.cookie node.id) in
      record {
        rise = row_rises (λ n. n.id) node w.nodes facts.rise;
        lasts_rise = lasts_rise node.id w.lasts.nodes facts.lasts_rise;
        given = λ d l h. grind (arith, nat_tests, at d, id_same d node.id, given_own node.id w.lasts.nodes, given_more s node.id w.lasts.nodes new d, facts.given d l);
        entries_rise = entries_rise entry w.entries facts.entries_rise;
        cookies = all_inserted entry_order _ entry w.entries (below entry adds.below) (all_weaker _ _ (λ e was. below e was) w.entries facts.cookies);
        names = names_added entry w.entries facts.entries_rise adds.names facts.names;
        tree = seal (tree_make (directory_at w.nodes) w.entries (unseal facts.tree) (directory_at nodes) node.id (is_directory node.kind) entry (inserted entry_order entry w.entries) (added_placed entry_order entry w.entries no_ties) (λ d. told-made (λ n. is_directory n.kind) node d w.nodes) (nothing_told (λ n. is_directory n.kind) node.id w.nodes absent) adds.under makes.names_it);
        labels = λ d l h. grind (arith, nat_tests, at d, facts.labels d);
        fit = all_inserted entry_order _ entry w.entries
            (grind (arith, nat_tests, at entry.directory, at entry.node, id_same entry.directory node.id))
            (all_weaker _ _ (λ e good. grind (arith, nat_tests, at e.directory, at e.node, id_same e.directory node.id, id_same e.node node.id)) w.entries facts.fit);
        held = λ d l h. grind (arith, nat_tests, at d, facts.held d l, own d, other d, any_inserted entry_order (λ e. same_id d e.node && is_label d.level (label_at nodes e.directory)) entry w.entries no_ties);
      }

  -- ---- a name

  pub link_node : (w : World) (lasts : List Id) (entry : Entry) → NodeFacts dom w.nodes w.entries lasts → Links s w entry → NodeFacts dom w.nodes (inserted entry_order entry w.entries) lasts
  link_node w lasts entry facts links =
      let adds = links.adds in
      let directory = adds.own in
      let own = links.own in
      let no_ties = no_ties entry w.entries adds.keys in
      record {
        rise = facts.rise;
        lasts_rise = facts.lasts_rise;
        given = facts.given;
        entries_rise = entries_rise entry w.entries facts.entries_rise;
        cookies = all_inserted entry_order _ entry w.entries adds.below facts.cookies;
        names = names_added entry w.entries facts.entries_rise adds.names facts.names;
        tree = seal (tree_link (directory_at w.nodes) w.entries (unseal facts.tree) entry (inserted entry_order entry w.entries) (added_placed entry_order entry w.entries no_ties) adds.under links.other);
        labels = facts.labels;
        fit = all_inserted entry_order _ entry w.entries (grind (arith, nat_tests, lattice.reflexive s)) facts.fit;
        held = λ d l h. grind (arith, any_inserted entry_order (λ e. same_id d e.node && is_label d.level (label_at w.nodes e.directory)) entry w.entries no_ties, facts.held d l h);
      }

  pub unlink_node : (w : World) (lasts : List Id) (entry : Entry) → NodeFacts dom w.nodes w.entries lasts → Unlinks s w entry → NodeFacts dom w.nodes (without_entry entry w.entries) lasts
  unlink_node w lasts entry facts unlinks =
      let directory = unlinks.directory in
      let own = unlinks.own in
      let still : (d : Id) (l : ℕ) → label_at w.nodes d ≡ Some l → l == d.level ≡ false → is_held (label_at w.nodes) w.entries d ≡ true → is_held (label_at w.nodes) (without_entry entry w.entries) d ≡ true = λ d l h ne.
      any_filter _ _ w.entries (all_anyway _ (λ e. grind (arith, nat_tests, id_same entry.directory e.directory, id_same entry.node d, id_same entry.node e.node)) w.entries) in
      record {
        rise = facts.rise;
        lasts_rise = facts.lasts_rise;
        given = facts.given;
        entries_rise = rising_filter entry_order _ w.entries facts.entries_rise;
        cookies = all_left _ _ w.entries facts.cookies;
        names = apart_filter same_name _ w.entries facts.names;
        tree = seal (tree_unlink (directory_at w.nodes) w.entries (unseal facts.tree) entry unlinks.other unlinks.others);
        labels = facts.labels;
        fit = all_left _ _ w.entries facts.fit;
        held = λ d l h. grind (arith, facts.held d l h, still d l h);
      }

  pub drop_node : (w : World) (lasts : List Id) (entry : Entry) → NodeFacts dom w.nodes w.entries lasts → Drops s w entry → NodeFacts dom (filter (λ n. not (same_id entry.node n.id)) w.nodes) (without_entry entry w.entries) lasts
  drop_node w lasts entry facts drops =
      let nodes : List Node = filter (λ n. not (same_id entry.node n.id)) w.nodes in
      let at = λ (d : Id). label_at-dropped entry.node d w.nodes in
      let none = all_two _ _ (λ e. (same_id entry.node e.node && not (same_entry entry e) ≡ false) × (same_id entry.node e.directory ≡ false)) (λ e a b. (a, b)) w.entries (none_any _ w.entries drops.last) (none_any _ w.entries drops.empty) in
      let still : (d : Id) → same_id d entry.node ≡ false → is_held (label_at w.nodes) w.entries d ≡ true → is_held (label_at nodes) (without_entry entry w.entries) d ≡ true = λ d ne h.
      any_filter _ _ w.entries (all_anyway _ (λ e. grind (arith, nat_tests, id_same d e.node, id_same entry.node e.node)) w.entries)
      (any_weaker _ _ w.entries (all_weaker _ _ (λ e n. grind (arith, nat_tests, at e.directory, id_turned entry.node e.directory)) w.entries none) h) in
      let left : (e : Entry) → not (same_entry entry e) ≡ true → is_good_entry dom (label_at w.nodes) e ≡ true → (same_id entry.node e.node && not (same_entry entry e) ≡ false) × (same_id entry.node e.directory ≡ false) → is_good_entry dom (label_at nodes) e ≡ true = λ e q good n.
      grind (arith, nat_tests, at e.directory, at e.node, id_turned entry.node e.directory, id_turned entry.node e.node) in
      record {
        rise = rising_filter node_order _ w.nodes facts.rise;
        lasts_rise = facts.lasts_rise;
        given = λ d l h. grind (arith, nat_tests, at d, facts.given d);
        entries_rise = rising_filter entry_order _ w.entries facts.entries_rise;
        cookies = all_left _ _ w.entries (all_two _ _ _ (λ e below n. ap (is_below e.cookie) (told-dropped (λ n. n.inner.cookies) entry.node e.directory w.nodes ∙ ap (λ b. cond b None (cookies_at w.nodes e.directory)) (id_turned e.directory entry.node ∙ n.1)) ∙ below) w.entries facts.cookies none);
        names = apart_filter same_name _ w.entries facts.names;
        tree = seal (tree_drop (directory_at w.nodes) w.entries (unseal facts.tree) (directory_at nodes) entry (λ d. told-dropped (λ n. is_directory n.kind) entry.node d w.nodes) drops.named drops.last drops.empty);
        labels = λ d l h. grind (arith, nat_tests, at d, facts.labels d);
        fit = all_weaker _ _ (λ e both. left e both.0 both.1.0 both.1.1) _
            (all_filter _ (λ e. not (same_entry entry e)) w.entries (all_two _ _ (λ e. (is_good_entry dom (label_at w.nodes) e ≡ true) × ((same_id entry.node e.node && not (same_entry entry e) ≡ false) × (same_id entry.node e.directory ≡ false))) (λ e good n. (good, n)) w.entries facts.fit none));
        held = λ d l h. grind (arith, nat_tests, at d, facts.held d l, still d);
      }

  pub move_node : (w : World) (entry other : Entry) → Facts dom w → Moves dom s w entry other → NodeFacts dom w.nodes (inserted entry_order other (without_entry entry w.entries)) w.lasts.nodes
  move_node w entry other all moves =
      let facts = all.nodes in
      let adds = moves.adds in
      let directory = adds.own in
      let from = moves.from in
      let same_node = moves.same_node in
      let fits = moves.fits in
      let left : List Entry = without_entry entry w.entries in
      let no_ties = no_ties other left (all_left _ _ w.entries adds.keys) in
      let held_by = λ (d : Id) (e : Entry). same_id d e.node && is_label d.level (label_at w.nodes e.directory) in
      let still : (d : Id) → is_held (label_at w.nodes) w.entries d ≡ true → (is_held (label_at w.nodes) left d || held_by d other) ≡ true = λ d h.
      any_left _ _ w.entries (held_by d other) (all_anyway _ (λ e. grind (arith, nat_tests, id_same entry.directory e.directory, id_same entry.node e.node)) w.entries) h in
      record {
        rise = facts.rise;
        lasts_rise = facts.lasts_rise;
        given = facts.given;
        entries_rise = entries_rise other left (rising_filter entry_order _ w.entries facts.entries_rise);
        cookies = all_inserted entry_order _ other left adds.below (all_left _ _ w.entries facts.cookies);
        names = names_added other left (rising_filter entry_order _ w.entries facts.entries_rise) (all_left _ _ w.entries adds.names) (apart_filter same_name _ w.entries facts.names);
        tree = seal (tree_move (directory_at w.nodes) w.entries (unseal facts.tree) entry other moves.there adds.under moves.same_node (inserted entry_order other left) (added_placed entry_order other left no_ties) (λ leads. false≢true (sym moves.clear ∙ under_found dom lattice s w all entry.node other.directory adds.under (sees_own dom lattice s w all other.directory adds.own) leads)));
        labels = facts.labels;
        fit = all_inserted entry_order _ other left (grind arith) (all_left _ _ w.entries facts.fit);
        held = λ d l h. grind (arith, facts.held d l h, still d, any_inserted entry_order (held_by d) other left no_ties);
      }
