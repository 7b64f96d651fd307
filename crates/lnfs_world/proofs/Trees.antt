-- What keeps directories a tree: a change of the entries, and of the kinds of nodes.
use Rattle.std.proofs.Common.{◌≡◌, ℕ, zero, suc, Bool, true, false, cond, not, ◌&&◌, List, Option, Some, None, refl, sym, ◌∙◌, ap, subst, arith}
use Rattle.std.specs.Prelude.{filter, is_some}
use Rattle.std.specs.Option.{option_map}
use Rattle.std.specs.List.{list_any, AllByRecursion}
use Rattle.std.proofs.lemmas.Bool.Decides.{nat_tests}
use Rattle.lnfs_world.specs.World.{Id}
use Rattle.lnfs_world.specs.World.{Entry}
use Rattle.lnfs_world.specs.World.{same_id}
use Rattle.lnfs_world.specs.Tree.{same_entry}
use Rattle.lnfs_world.specs.Tree.{root, is_some_directory, has_name, has_other_name, name_of, parent_of, way_up, LeadsTo, joins, Tree}
use Rattle.lnfs_world.proofs.Rows.{all_anyway, all_weaker, all_two, all_filter, all_find, none_any, any_weaker, any_filter, any_row, none_left, all_none}
use Rattle.lnfs_world.proofs.Keys.{id_same, id_itself}
use Rattle.lnfs_world.proofs.Added.{Added}
use Rattle.std.proofs.lemmas.Bool.{false≢true}
use Rattle.lnfs_world.proofs.Ways.{name_of-without, differs}

-- names that stay, along a way, leave the way as it was
pub way_same : (old new : List Entry) (P : Id → Type 0) → ((d : Id) (e : Entry) → P d → name_of old d ≡ Some e → (name_of new d ≡ Some e) × P e.directory) → (k : ℕ) (i t : Id) → P i → way_up (parent_of old) k i ≡ Some t → way_up (parent_of new) k i ≡ Some t
way_same old new P stays zero i t here way = way
way_same old new P stays (suc k) i t here way = at (name_of old i) refl (λ e. way_same old new P stays k e.directory t)
  where
    at : (o : Option Entry) → name_of old i ≡ o → ((e : Entry) → P e.directory → way_up (parent_of old) k e.directory ≡ Some t → way_up (parent_of new) k e.directory ≡ Some t) → way_up (parent_of new) (suc k) i ≡ Some t
    at None named next = absurd (grind arith)
    at (Some e) named next = let both = stays i e here named in grind (arith, both.0, next e both.1)

module _ (kind : Id → Option Bool) (entries : List Entry) (tree : Tree kind entries) where
  -- what is not there has no name
  pub unnamed : (i : Id) → kind i ≡ None → has_name entries i ≡ false
  unnamed i none = all_none _ entries (all_weaker _ _ (λ e good. grind (arith, nat_tests, id_same i e.node)) entries tree.joined)

  -- an entry's directory is one
  directory_of : (e : Entry) → joins kind e ≡ true → kind e.directory ≡ Some true
  directory_of e good = at (kind e.directory) refl
    where
      at : (o : Option Bool) → kind e.directory ≡ o → kind e.directory ≡ Some true
      at None is = absurd (grind arith)
      at (Some true) is = is
      at (Some false) is = absurd (grind arith)

  -- and so a parent is one
  pub parent_kind : (i p : Id) → parent_of entries i ≡ Some p → kind p ≡ Some true
  parent_kind i p up = at (name_of entries i) refl up
    where
      at : (o : Option Entry) → name_of entries i ≡ o → option_map (λ e. e.directory) o ≡ Some p → kind p ≡ Some true
      at None named up = absurd (grind arith)
      at (Some e) named up =
          let same : e.directory ≡ p = cc up in
          subst (λ d. kind d ≡ Some true) same (directory_of e (all_find _ (λ x. same_id i x.node) entries e tree.joined named).0)

  -- and all that lies above a directory
  pub way_kind : (k : ℕ) (i t : Id) → kind i ≡ Some true → way_up (parent_of entries) k i ≡ Some t → kind t ≡ Some true
  way_kind zero i t is way = let same : i ≡ t = cc way in subst (λ d. kind d ≡ Some true) same is
  way_kind (suc k) i t is way = at (parent_of entries i) refl (λ p. way_kind k p t)
    where
      at : (o : Option Id) → parent_of entries i ≡ o → ((p : Id) → kind p ≡ Some true → way_up (parent_of entries) k p ≡ Some t → kind t ≡ Some true) → kind t ≡ Some true
      at None up next = absurd (grind arith)
      at (Some p) up next = next p (parent_kind i p up) (grind arith)

  -- a name more, of what was no directory, leaves each way as it was
  leads_more : (entry : Entry) (larger : List Entry) → Added entry entries larger → is_some_directory (kind entry.node) ≡ false → (i t : Id) → kind i ≡ Some true → LeadsTo (parent_of entries) i t → LeadsTo (parent_of larger) i t
  leads_more entry larger added file i t is way =
      let stays : (d : Id) (e : Entry) → kind d ≡ Some true → name_of entries d ≡ Some e → (name_of larger d ≡ Some e) × (kind e.directory ≡ Some true) = λ d e directory named.
      (added.other (λ x. same_id d x.node) (differs _ (same_id d entry.node) refl (λ same. false≢true (sym file ∙ subst (λ h. is_some_directory (kind h) ≡ true) (id_same d entry.node same) (ap is_some_directory directory)))) ∙ named, directory_of e (all_find _ (λ x. same_id d x.node) entries e tree.joined named).0) in
      (way.0, way_same entries larger (λ d. kind d ≡ Some true) stays way.0 i t is way.1)

  pub tree_make : (kinds : Id → Option Bool) (id : Id) (directory : Bool) (entry : Entry) (larger : List Entry) → Added entry entries larger → ((d : Id) → kinds d ≡ cond (same_id d id) (Some directory) (kind d)) → kind id ≡ None → kind entry.directory ≡ Some true → entry.node ≡ id → Tree kinds larger
  tree_make kinds id directory entry larger added at new under names_it =
      let free = unnamed id new in
      let file : is_some_directory (kind entry.node) ≡ false = grind arith in
      let new_way : (i : Id) → same_id i id ≡ true → LeadsTo (parent_of larger) i root = λ i is.
      let way = leads_more entry larger added file entry.directory root under (tree.ends entry.directory under) in
      let named : name_of larger i ≡ Some entry = added.own (λ e. same_id i e.node) (subst (λ h. has_name entries h ≡ false) (sym (id_same i id is)) free) (grind arith) in
      (suc way.0, grind (arith, named, way.1)) in
      record {
        begins = grind (arith, nat_tests, at root, id_same root id, tree.begins);
        free = grind (arith, nat_tests, added.some (λ e. same_id root e.node), tree.free, id_same root id, tree.begins);
        joined = added.all (λ e. joins kinds e) true
            (grind (arith, nat_tests, at entry.directory, at entry.node, id_same entry.directory id, id_itself id))
            (all_weaker _ _ (λ e good. grind (arith, nat_tests, at e.directory, at e.node, id_same e.directory id, id_same e.node id)) entries tree.joined);
        named = λ i d is. grind (arith, nat_tests, at i, tree.named i d, added.some (λ e. same_id i e.node));
        once = added.all (λ e. is_some_directory (kinds e.node) && has_other_name larger e) false
            (grind (arith, nat_tests, added.some (λ x. same_id entry.node x.node && not (same_entry entry x)), any_weaker (λ x. same_id entry.node x.node && not (same_entry entry x)) (λ x. same_id id x.node) entries (all_anyway _ (λ x. grind (arith, nat_tests)) entries)))
            (all_two _ _ _ (λ e good one. grind (arith, nat_tests, at e.node, id_same e.node id, id_same e.node entry.node, added.some (λ x. same_id e.node x.node && not (same_entry e x)))) entries tree.joined tree.once);
        ends = λ i is. by_id i (same_id i id) refl is file (new_way i);
      }
    where
      by_id : (i : Id) (b : Bool) → same_id i id ≡ b → kinds i ≡ Some true → is_some_directory (kind entry.node) ≡ false → (same_id i id ≡ true → LeadsTo (parent_of larger) i root) → LeadsTo (parent_of larger) i root
      by_id i true is kind_is file way = way is
      by_id i false is kind_is file way = let was : kind i ≡ Some true = grind (arith, at i) in leads_more entry larger added file i root was (tree.ends i was)

  -- another name for what is no directory
  pub tree_link : (entry : Entry) (larger : List Entry) → Added entry entries larger → kind entry.directory ≡ Some true → kind entry.node ≡ Some false → Tree kind larger
  tree_link entry larger added under file = record {
    begins = tree.begins;
    free = grind (arith, nat_tests, added.some (λ e. same_id root e.node), tree.free, tree.begins, id_same root entry.node);
    joined = added.all (λ e. joins kind e) true (grind arith) tree.joined;
    named = λ i d is. grind (arith, tree.named i d, added.some (λ e. same_id i e.node));
    once = added.all (λ e. is_some_directory (kind e.node) && has_other_name larger e) false
        (grind arith)
        (all_weaker _ _ (λ e one. grind (arith, nat_tests, id_same e.node entry.node, added.some (λ x. same_id e.node x.node && not (same_entry e x)))) entries tree.once);
    ends = λ i is. leads_more entry larger added (ap is_some_directory file) i root is (tree.ends i is);
  }

  -- one name of several
  pub tree_unlink : (entry : Entry) → kind entry.node ≡ Some false → has_other_name entries entry ≡ true → Tree kind (filter (λ e. not (same_entry entry e)) entries)
  tree_unlink entry file other =
      let left : List Entry = filter (λ e. not (same_entry entry e)) entries in
      let keeps_one : has_name left entry.node ≡ true =
      any_weaker (λ e. same_id entry.node e.node && not (same_entry entry e)) _ left (all_anyway _ (λ e. grind arith) left) (any_filter _ _ entries (all_anyway _ (λ e. grind arith) entries) other) in
      let keeps : (i : Id) → same_id i entry.node ≡ false → has_name entries i ≡ true → has_name left i ≡ true = λ i differs.
      any_filter _ _ entries (all_anyway _ (λ e. grind (arith, nat_tests, id_same i e.node, id_same entry.node e.node)) entries) in
      let stays : (d : Id) (e : Entry) → kind d ≡ Some true → name_of entries d ≡ Some e → (name_of left d ≡ Some e) × (kind e.directory ≡ Some true) = λ d e is named.
      (name_of-without entry entries d (grind (arith, id_same d entry.node)) ∙ named, directory_of e (all_find _ (λ x. same_id d x.node) entries e tree.joined named).0) in
      record {
        begins = tree.begins;
        free = none_left _ _ entries tree.free;
        joined = all_weaker _ _ (λ e both. both.1) _ (all_filter _ (λ e. not (same_entry entry e)) entries tree.joined);
        named = λ i d is. grind (arith, tree.named i d, keeps i, keeps_one, id_same i entry.node);
        once = all_weaker _ _ (λ e both. grind (arith, both.1, none_left (λ x. same_id e.node x.node && not (same_entry e x)) (λ e. not (same_entry entry e)) entries)) _ (all_filter _ (λ e. not (same_entry entry e)) entries tree.once);
        ends = λ i is. let way = tree.ends i is in (way.0, way_same entries left (λ d. kind d ≡ Some true) stays way.0 i root is way.1);
      }

  -- an empty directory, or what has no other name
  pub tree_drop : (kinds : Id → Option Bool) (entry : Entry) → ((d : Id) → kinds d ≡ cond (same_id d entry.node) None (kind d)) → has_name entries entry.node ≡ true → has_other_name entries entry ≡ false → list_any (λ e. same_id entry.node e.directory) entries ≡ false → Tree kinds (filter (λ e. not (same_entry entry e)) entries)
  tree_drop kinds entry at has last empty =
      let left : List Entry = filter (λ e. not (same_entry entry e)) entries in
      let root_stays : same_id root entry.node ≡ false = grind (arith, tree.free, has, id_same root entry.node) in
      let apart = all_two _ _ (λ e. (same_id entry.node e.node && not (same_entry entry e) ≡ false) × (same_id entry.node e.directory ≡ false)) (λ e a b. (a, b)) entries (none_any _ entries last) (none_any _ entries empty) in
      let keeps : (i : Id) → same_id i entry.node ≡ false → has_name entries i ≡ true → has_name left i ≡ true = λ i differs.
      any_filter _ _ entries (all_anyway _ (λ e. grind (arith, nat_tests, id_same i e.node, id_same entry.node e.node)) entries) in
      let stays : (d : Id) (e : Entry) → same_id d entry.node ≡ false → name_of entries d ≡ Some e → (name_of left d ≡ Some e) × (same_id e.directory entry.node ≡ false) = λ d e differs named.
      let known = (all_find _ (λ x. same_id d x.node) entries e apart named).0 in
      (name_of-without entry entries d differs ∙ named, grind (arith, nat_tests, known.1)) in
      record {
        begins = grind (arith, at root, tree.begins);
        free = none_left _ _ entries tree.free;
        joined = all_weaker _ _ (λ e both. grind (arith, nat_tests, both.0, both.1.0, both.1.1.0, both.1.1.1, at e.directory, at e.node)) _
            (all_filter _ (λ e. not (same_entry entry e)) entries (all_two _ _ (λ e. (joins kind e ≡ true) × ((same_id entry.node e.node && not (same_entry entry e) ≡ false) × (same_id entry.node e.directory ≡ false))) (λ e good a. (good, a)) entries tree.joined apart));
        named = λ i d is. grind (arith, at i, tree.named i d, keeps i);
        once = all_weaker _ _ (λ e both. grind (arith, at e.node, both.1, none_left (λ x. same_id e.node x.node && not (same_entry e x)) (λ e. not (same_entry entry e)) entries)) _ (all_filter _ (λ e. not (same_entry entry e)) entries tree.once);
        ends = λ i is.
            let is_here : (same_id i entry.node ≡ false) × (kind i ≡ Some true) = (grind (arith, at i), grind (arith, at i)) in
            let way = tree.ends i is_here.1 in
            (way.0, way_same entries left (λ d. same_id d entry.node ≡ false) stays way.0 i root is_here.0 way.1);
      }

  -- the root has no name to move
  not_root : (entry : Entry) → list_any (λ e. same_entry entry e) entries ≡ true → same_id root entry.node ≡ false
  not_root entry there =
      let row = any_row _ (λ e. same_entry entry e) entries (none_any _ entries tree.free) there in
      grind (arith, nat_tests, row.1, row.2, id_same entry.node row.0.node)

  -- the moved directory has no name but the one that is taken away
  pub gone : (entry other : Entry) → list_any (λ e. same_entry entry e) entries ≡ true → entry.node ≡ other.node → is_some_directory (kind other.node) ≡ true → has_name (filter (λ e. not (same_entry entry e)) entries) other.node ≡ false
  gone entry other there same is =
      let row = any_row _ (λ e. same_entry entry e) entries tree.once there in
      let alone : has_other_name entries row.0 ≡ false = grind (arith, nat_tests, row.1, row.2, id_same entry.node row.0.node) in
      all_none _ _ (all_weaker _ _ (λ e both. grind (arith, nat_tests, row.2, both.0, both.1, id_same entry.node row.0.node, id_same entry.directory row.0.directory)) _ (all_filter _ (λ e. not (same_entry entry e)) entries (none_any _ entries alone)))

  apart_left : (entry other : Entry) → list_any (λ e. same_entry entry e) entries ≡ true → entry.node ≡ other.node → (b : Bool) → is_some_directory (kind other.node) ≡ b → AllByRecursion (λ e. (is_some_directory (kind e.node) && same_id e.node other.node) ≡ false) (filter (λ e. not (same_entry entry e)) entries)
  apart_left entry other there same true is = all_weaker _ _ (λ e differs. grind (arith, nat_tests, differs)) _ (none_any _ _ (gone entry other there same is))
  apart_left entry other there same false is = all_anyway _ (λ e. grind (arith, id_same e.node other.node)) _

  once_kept : (q : Entry → Bool) (other e : Entry) (larger : List Entry) → Added other (filter q entries) larger → (is_some_directory (kind e.node) && same_id e.node other.node) ≡ false → (is_some_directory (kind e.node) && has_other_name entries e) ≡ false → (is_some_directory (kind e.node) && has_other_name larger e) ≡ false
  once_kept q other e larger added differs one = grind (arith, none_left (λ x. same_id e.node x.node && not (same_entry e x)) q entries, added.some (λ x. same_id e.node x.node && not (same_entry e x)))

  once_last : (left : List Entry) (other : Entry) (larger : List Entry) → Added other left larger → (is_some_directory (kind other.node) ≡ true → has_name left other.node ≡ false) → (is_some_directory (kind other.node) && has_other_name larger other) ≡ false
  once_last left other larger added alone =
      let fewer : has_other_name left other ≡ true → has_name left other.node ≡ true = any_weaker _ _ left (all_anyway _ (λ x. grind arith) left) in
      grind (arith, nat_tests, alone, fewer, added.some (λ x. same_id other.node x.node && not (same_entry other x)))

  -- from below the moved directory the way goes up to it as before, and then on from where it went
  moved_way : (new : List Entry) (other : Entry) → ((d : Id) (e : Entry) → same_id d other.node ≡ false → name_of entries d ≡ Some e → name_of new d ≡ Some e) → (kind other.node ≡ Some true → name_of new other.node ≡ Some other) → LeadsTo (parent_of new) other.directory root → (k : ℕ) (i : Id) → kind i ≡ Some true → way_up (parent_of entries) k i ≡ Some root → LeadsTo (parent_of new) i root
  moved_way new other stays own target zero i is way = (zero, way)
  moved_way new other stays own target (suc k) i is way = by_node (same_id i other.node) refl (name_of entries i) refl (λ e. moved_way new other stays own target k e.directory)
    where
      by_node : (b : Bool) → same_id i other.node ≡ b → (o : Option Entry) → name_of entries i ≡ o → ((e : Entry) → kind e.directory ≡ Some true → way_up (parent_of entries) k e.directory ≡ Some root → LeadsTo (parent_of new) e.directory root) → LeadsTo (parent_of new) i root
      by_node true at o named next = (suc target.0, grind (arith, id_same i other.node, own, target.1))
      by_node false at None named next = absurd (grind arith)
      by_node false at (Some e) named next =
          let rest = next e (directory_of e (all_find _ (λ x. same_id i x.node) entries e tree.joined named).0) (grind arith) in
          (suc rest.0, grind (arith, stays i e at named, rest.1))

  -- a name that goes to a directory from which no way up leads to the node that it names
  pub tree_move : (entry other : Entry) → list_any (λ e. same_entry entry e) entries ≡ true → kind other.directory ≡ Some true → entry.node ≡ other.node → (new : List Entry) → Added other (filter (λ e. not (same_entry entry e)) entries) new → (LeadsTo (parent_of entries) other.directory entry.node → ⊥) → Tree kind new
  tree_move entry other there under same new added apart =
      let left : List Entry = filter (λ e. not (same_entry entry e)) entries in
      let row = any_row _ (λ e. same_entry entry e) entries tree.joined there in
      let node_there : is_some (kind other.node) ≡ true = grind (arith, nat_tests, row.1, row.2, id_same entry.node row.0.node) in
      let root_apart : same_id root other.node ≡ false = subst (λ d. same_id root d ≡ false) same (not_root entry there) in
      let keeps : (i : Id) → same_id i other.node ≡ false → has_name entries i ≡ true → has_name left i ≡ true = λ i differs.
      any_filter _ _ entries (all_anyway _ (λ e. grind (arith, nat_tests, id_same i e.node, id_same entry.node e.node)) entries) in
      -- names of others stay
      let stays : (d : Id) (e : Entry) → same_id d other.node ≡ false → name_of entries d ≡ Some e → name_of new d ≡ Some e = λ d e differs named.
      added.other (λ x. same_id d x.node) differs ∙ name_of-without entry entries d (grind arith) ∙ named in
      let target : LeadsTo (parent_of new) other.directory root =
      let way = tree.ends other.directory under in
      (way.0, way_same entries new (λ d. LeadsTo (parent_of entries) d entry.node → ⊥) (λ d e clear named. (stays d e (differs _ (same_id d other.node) refl (λ is. clear (zero, ap Some (id_same d other.node is ∙ sym same)))) named, λ (further : LeadsTo (parent_of entries) e.directory entry.node). clear (suc further.0, grind (arith, further.1)))) way.0 other.directory root apart way.1) in
      record {
        begins = tree.begins;
        free = grind (arith, nat_tests, added.some (λ e. same_id root e.node), none_left (λ e. same_id root e.node) (λ e. not (same_entry entry e)) entries tree.free);
        joined = added.all (λ e. joins kind e) true (grind arith) (all_weaker _ _ (λ e both. both.1) _ (all_filter _ (λ e. not (same_entry entry e)) entries tree.joined));
        named = λ i d is. grind (arith, tree.named i d, keeps i, added.some (λ e. same_id i e.node));
        once = added.all (λ e. is_some_directory (kind e.node) && has_other_name new e) false
            (once_last left other new added (gone entry other there same))
            (all_two _ _ _ (λ e a both. once_kept (λ e. not (same_entry entry e)) other e new added a both.1) left (apart_left entry other there same _ refl) (all_filter _ (λ e. not (same_entry entry e)) entries tree.once));
        ends = λ i is.
            let way = tree.ends i is in
            moved_way new other stays (λ own. added.own (λ e. same_id other.node e.node) (gone entry other there same (grind arith)) (id_itself other.node)) target way.0 i is way.1;
      }
