-- Look-ups of nodes and of names, in what a level sees and in the world: alike where it sees the directory, or the node.
use Rattle.std.proofs.Common.{◌≡◌, ℕ, Bool, true, false, cond, ◌&&◌, List, [], ◌∷◌, Option, Some, None, refl, sym, ap, ◌∙◌, arith}
use Rattle.std.specs.Prelude.{filter, is_some, length}
use Rattle.std.specs.Option.{option_map}
use Rattle.std.specs.List.{AllByRecursion}
use Rattle.std.specs.Str.{bytes_eq}
use Rattle.std.proofs.lemmas.Bool.{and_parts}
use Rattle.std.proofs.lemmas.Bool.Decides.{nat_tests}
use Rattle.std.proofs.lemmas.List.Sums.{length-filter}
use Rattle.lnfs_calipso.specs.Label.{IsPreorderWithBottom}
use Rattle.lnfs_world.specs.Rows.{kept}
use Rattle.lnfs_world.specs.World.{Id, Kind, File, Directory, SymbolicLink, Node, Entry, World, same_id, node_at, label_at}
use Rattle.lnfs_world.specs.Names.{entry_at, is_above, entries_above, entry_above, names_in, names_of, size_of, links_of}
use Rattle.lnfs_world.specs.Erased.{sees, shrunk, erased}
use Rattle.lnfs_world.specs.Tree.{holds_names, name_of, parent_of}
use Rattle.lnfs_world.specs.Facts.{Facts}
use Rattle.lnfs_world.proofs.Rows.{find-kept, find-kept_within, filter-kept, count-kept, any-kept, all_anyway, all_weaker, all_find, all_filter}
use Rattle.lnfs_world.proofs.Keys.{id_same}
use Rattle.lnfs_world.proofs.Nodes.{node_at-seen as node_among-seen}
use Rattle.lnfs_world.proofs.Views.{same_option}
use Rattle.lnfs_world.proofs.Walks.{sees_name}

-- ---- nodes that are found

pub node_at-id : (i : Id) (nodes : List Node) (n : Node) → node_at nodes i ≡ Some n → n.id ≡ i
node_at-id i nodes n found = sym (id_same i n.id (all_find (λ n. Unit {0}) (λ n. same_id i n.id) nodes n (all_anyway _ (λ n. tt) nodes) found).1)

pub label_of-found : (i : Id) (nodes : List Node) (n : Node) → node_at nodes i ≡ Some n → label_at nodes i ≡ Some n.label
label_of-found i nodes n found = ap (option_map (λ n. n.label)) found

-- where a label is, a node is
pub node_there : (i : Id) (nodes : List Node) → is_some (label_at nodes i) ≡ true → (n : Node) × (node_at nodes i ≡ Some n)
node_there i nodes there = at (node_at nodes i) refl there
  where
    at : (o : Option Node) → node_at nodes i ≡ o → is_some (option_map (λ n. n.label) o) ≡ true → (n : Node) × (node_at nodes i ≡ Some n)
    at None found e = absurd (grind arith)
    at (Some n) found e = (n, found)

-- a node whose label is dominated shows all that it is
pub shrunk_whole : (dom : ℕ → ℕ → Bool) (level : ℕ) (n : Node) → dom level n.label ≡ true → shrunk dom level n ≡ n
shrunk_whole dom level n above = ap (λ b. record n { inner = cond b n.inner (shrunk (λ _ _. false) level n).inner }) above

-- ---- a count among rows that are seen, where only these pass

count-kept_within : {X : Type 0} (p q : X → Bool) (xs : List X) → AllByRecursion (λ x. q x ≡ true → p x ≡ true) xs → length (filter q (kept p (λ x. x) xs)) ≡ length (filter q xs)
count-kept_within p q [] all = refl
count-kept_within p q (x ∷ xs) all = grind (arith, count-kept_within p q xs all.1, all.0)

-- ---- names in a directory that is seen

module _ (dom : ℕ → ℕ → Bool) (level : ℕ) (w : World) where
  pub node_at-seen : (i : Id) → dom level i.level ≡ true → node_at (erased dom level w).nodes i ≡ option_map (shrunk dom level) (node_at w.nodes i)
  node_at-seen i above = node_among-seen dom level i w.nodes above

  module _ (d : Id) (seen : sees dom level w.nodes d ≡ true) where
    in_seen : (e : Entry) → same_id d e.directory ≡ true → sees dom level w.nodes e.directory ≡ true
    in_seen e same = ap (sees dom level w.nodes) (sym (id_same d e.directory same)) ∙ seen

    pub entry_at-seen : (name : List ℕ) → entry_at (erased dom level w).entries d name ≡ entry_at w.entries d name
    entry_at-seen name = find-kept _ _ (λ e. same_id d e.directory && bytes_eq e.name name) (λ e is. in_seen e (and_parts _ _ is).0) (λ e. refl) w.entries ∙ same_option _

    pub entries_above-seen : (cookie : ℕ) → entries_above (erased dom level w).entries d cookie ≡ entries_above w.entries d cookie
    entries_above-seen cookie = filter-kept _ _ (is_above d cookie) (λ e is. in_seen e (and_parts _ _ is).0) (λ e is. refl) (λ e. refl) w.entries

    pub entry_above-seen : (cookie : ℕ) → entry_above (erased dom level w).entries d cookie ≡ entry_above w.entries d cookie
    entry_above-seen cookie = find-kept _ _ (is_above d cookie) (λ e is. in_seen e (and_parts _ _ is).0) (λ e. refl) w.entries ∙ same_option _

    pub names_in-seen : names_in (erased dom level w).entries d ≡ names_in w.entries d
    names_in-seen = count-kept _ _ (λ e. same_id d e.directory) (λ e is. in_seen e is) (λ e. refl) w.entries

    pub holds_names-seen : holds_names (erased dom level w).entries d ≡ holds_names w.entries d
    holds_names-seen = any-kept _ _ _ _ w.entries (all_anyway _ (λ e. ((λ is. in_seen e is), (λ above. refl))) w.entries)

-- ---- with the facts of a world

module _ (dom : ℕ → ℕ → Bool) (lattice : IsPreorderWithBottom dom) (level : ℕ) (w : World) (facts : Facts dom w) where
  -- a node whose label is dominated is seen, since its label dominates its home
  pub sees_node : (i : Id) (n : Node) → node_at w.nodes i ≡ Some n → dom level n.label ≡ true → sees dom level w.nodes i ≡ true
  sees_node i n found above =
      let label = label_of-found i w.nodes n found in
      grind (arith, label, facts.nodes.labels i n.label, lattice.transitive level n.label i.level)

  -- ---- names of a node that is seen

  module _ (i : Id) (seen : sees dom level w.nodes i ≡ true) where
    pub names_seen : AllByRecursion (λ e. same_id i e.node ≡ true → sees dom level w.nodes e.directory ≡ true) w.entries
    names_seen = all_weaker _ _ (λ e good same. sees_name dom lattice level w facts i seen e good same) w.entries facts.nodes.fit

    pub name_of-seen : name_of (erased dom level w).entries i ≡ name_of w.entries i
    name_of-seen = find-kept_within _ _ (λ e. same_id i e.node) (λ e. refl) w.entries names_seen ∙ same_option _

    pub parent_of-seen : parent_of (erased dom level w).entries i ≡ parent_of w.entries i
    parent_of-seen = ap (option_map (λ e. e.directory)) name_of-seen

    pub names_of-seen : names_of (erased dom level w).entries i ≡ names_of w.entries i
    names_of-seen = sym (length-filter _ (erased dom level w).entries) ∙ count-kept_within _ (λ e. same_id i e.node) w.entries names_seen ∙ length-filter _ w.entries

    -- whoever sees a node sees the directory in which it has its first name
    pub parent_seen : (d : Id) → parent_of w.entries i ≡ Some d → sees dom level w.nodes d ≡ true
    parent_seen d is = at (name_of w.entries i) refl is
      where
        at : (o : Option Entry) → name_of w.entries i ≡ o → option_map (λ e. e.directory) o ≡ Some d → sees dom level w.nodes d ≡ true
        at None named e = absurd (grind arith)
        at (Some e) named there =
            let known = all_find _ (λ x. same_id i x.node) w.entries e facts.nodes.fit named in
            let same : e.directory ≡ d = grind arith in
            ap (sees dom level w.nodes) (sym same) ∙ sees_name dom lattice level w facts i seen e known.0 known.1

    -- and so dominates its home
    pub parent_home : (d : Id) → parent_of w.entries i ≡ Some d → dom level d.level ≡ true
    parent_home d is = (and_parts _ _ (parent_seen d is)).0

  -- ---- what a node shows that is seen

  pub size_of-seen : (n : Node) (kind : Kind) → sees dom level w.nodes n.id ≡ true → size_of (erased dom level w).entries n kind ≡ size_of w.entries n kind
  size_of-seen n File seen = refl
  size_of-seen n Directory seen = names_in-seen dom level w n.id seen
  size_of-seen n SymbolicLink seen = refl

  pub links_of-seen : (n : Node) (kind : Kind) → sees dom level w.nodes n.id ≡ true → links_of (erased dom level w).entries n kind ≡ links_of w.entries n kind
  links_of-seen n File seen = names_of-seen n.id seen
  links_of-seen n Directory seen = refl
  links_of-seen n SymbolicLink seen = names_of-seen n.id seen

  -- ---- nodes behind names

  -- The node of an entry is there, and whoever sees the directory dominates the node's home.
  pub record IsBehind (e : Entry) : Type 0 where
    pub there : is_some (label_at w.nodes e.node) ≡ true
    pub home : sees dom level w.nodes e.directory ≡ true → dom level e.node.level ≡ true

  pub nodes_behind : AllByRecursion IsBehind w.entries
  nodes_behind = all_weaker _ _ (λ e good. record {
    there = grind arith;
    home = λ seen. grind (arith, nat_tests, facts.nodes.labels e.node, lattice.transitive level);
  }) w.entries facts.nodes.fit

  pub entry_behind : (d : Id) (name : List ℕ) (e : Entry) → entry_at w.entries d name ≡ Some e → IsBehind e
  entry_behind d name e found = (all_find IsBehind _ w.entries e nodes_behind found).0

  pub entry_at-home : (d : Id) (name : List ℕ) (e : Entry) → sees dom level w.nodes d ≡ true → entry_at w.entries d name ≡ Some e → dom level e.node.level ≡ true
  entry_at-home d name e seen found =
      let known = all_find IsBehind (λ x. same_id d x.directory && bytes_eq x.name name) w.entries e nodes_behind found in
      known.0.home (in_directory e (and_parts _ _ known.1).0)
    where
      in_directory : (x : Entry) → same_id d x.directory ≡ true → sees dom level w.nodes x.directory ≡ true
      in_directory x same = ap (sees dom level w.nodes) (sym (id_same d x.directory same)) ∙ seen

  -- each entry that is listed of a directory that is seen has a node whose home is dominated
  pub entries_above-behind : (d : Id) (cookie : ℕ) → sees dom level w.nodes d ≡ true → AllByRecursion (λ e. (is_some (label_at w.nodes e.node) ≡ true) × (dom level e.node.level ≡ true)) (entries_above w.entries d cookie)
  entries_above-behind d cookie seen = at w.entries nodes_behind
    where
      at : (entries : List Entry) → AllByRecursion IsBehind entries → AllByRecursion (λ e. (is_some (label_at w.nodes e.node) ≡ true) × (dom level e.node.level ≡ true)) (entries_above entries d cookie)
      at entries all = all_weaker _ _ (λ e both. (both.1.there, both.1.home (ap (sees dom level w.nodes) (sym (id_same d e.directory (and_parts _ _ both.0).0)) ∙ seen))) _ (all_filter IsBehind (is_above d cookie) entries all)
