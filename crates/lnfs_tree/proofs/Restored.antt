-- Nodes that are made of rows: one by one without names, and then name by name.
use Rattle.std.proofs.Common.{◌≡◌, ℕ, ◌+◌, ◌<◌, ◌≤◌, Bool, true, false, cond, List, [], ◌∷◌, ◌++◌, length, take, drop, get_or, Option, Some, None, map, refl, sym, ap, ◌∙◌, subst, arith}
use Rattle.std.specs.Prelude.{◌^◌, ◌&&◌, is_some, find}
use Rattle.std.specs.Option.{option_map, option_or}
use Rattle.std.specs.Ordering.{nat_cmp, ordering_then}
use Rattle.std.specs.Map.{keys_of, values_of}
use Rattle.std.specs.Str.{bytes_eq}
use Rattle.lnfs_calipso.specs.declared.Level.{Level}
use Rattle.std.specs.List.{AllByRecursion}
use Rattle.std.specs.declared.cmp.Ordering.{Ordering}
use Rattle.std.specs.declared.cmp.Ordering.TheVariants.{Less, Equal, Greater}
use Rattle.std.proofs.lemmas.Bool.{false≢true}
use Rattle.std.proofs.lemmas.Bool.Decides.{nat_tests}
use Rattle.std.proofs.lemmas.List.{get_or_default}
use Rattle.std.proofs.lemmas.List.Folds.{find-append}
use Rattle.lnfs_world.specs.Rows.{inserted, updated, Rising}
use Rattle.lnfs_world.specs.World.{Id, Kind, File, Directory, SymbolicLink, Node as RowOfNode, Entry as RowOfEntry, id_order, entry_order, same_id, is_directory, directory_at}
use Rattle.lnfs_world.specs.World as world
use Rattle.lnfs_world.specs.Names.{names_of}
use Rattle.lnfs_world.specs.Tree.{parent_of, joins, is_some_directory}
use Rattle.lnfs_world.specs.Facts.{same_name}
use Rattle.lnfs_world.specs.declared.numbers.TheConstants.{LAST_NUMBER, MOST_NAMES, MOST_FILE}
use Rattle.lnfs_world.proofs.Keys.{id_same, id_itself, id_tie, id_turned}
use Rattle.lnfs_world.proofs.Rows.{all_weaker, all_find}
use Rattle.lnfs_world.proofs.Sorted.{all_inserted}
use Rattle.lnfs_rows.specs.declared.nodes.NodeRow.{NodeRow}
use Rattle.lnfs_rows.specs.declared.nodes.EntryRow.{EntryRow}
use Rattle.lnfs_rows.specs.Told.{id_of as told_id, node_of, entry_of}
use Rattle.lnfs_tree.specs.declared.node.Entry.{Entry}
use Rattle.lnfs_tree.specs.declared.node.NodeId.{NodeId}
use Rattle.lnfs_tree.specs.declared.store.Node.{Node}
use Rattle.lnfs_tree.specs.Rows.{Rows, id_of, kind_of, row_of_entry}
use Rattle.lnfs_tree.specs.Held.{is_node, node_at, node_order, with_name, IsOpenTo}
use Rattle.lnfs_tree.specs.Flat.{content_of, row_of, entries_in, last_row, rows_in, links_at, IsTree}
use Rattle.lnfs_rows.specs.Lasts.{given_of, each_of}
use Rattle.lnfs_tree.specs.Makes.{rows_told, IsNumbered, HoldsBy, IsStorable, MakesTree, MakesNodes, MakesNames, IsBare, with_entry, first_parent, with_more_links}
use Rattle.lnfs_tree.proofs.Flat.{node_at-rows, found_id}
use Rattle.lnfs_tree.proofs.Added.{row, rows-inserted, entries-named}
use Rattle.lnfs_tree.proofs.Made.{all_own}
use Rattle.lnfs_tree.proofs.Lists.{all_map, find_none}
use Rattle.lnfs_tree.proofs.Steps.{Tie, tie_of, ties, links_tied, KeepsTied, tree_tied, rows-kept, entries-kept, ties-kept, ties-moved}
use Rattle.lnfs_tree.proofs.GivenLasts.{numbered_again}
use Rattle.lnfs_tree.proofs.Sequences.{all_unmap, all_mid, rising_mid, apart_mid, inserted_last, count-mid, map-parted-at, map-more-at}

-- ---- what is there
and_left : (a b : Bool) → (a && b) ≡ true → a ≡ true
and_left true b e = refl
and_left false b e = absurd (false≢true e)

and_right : (a b : Bool) → (a && b) ≡ true → b ≡ true
and_right true b e = e
and_right false b e = absurd (false≢true e)

none_mapped : {X Y : Type 0} (f : X → Y) (o : Option X) → option_map f o ≡ None → o ≡ None
none_mapped f None none = refl
none_mapped f (Some x) none = absurd (cc)

some_mapped : {X Y : Type 0} (f : X → Y) (o : Option X) → is_some (option_map f o) ≡ true → (x : X) × (o ≡ Some x)
some_mapped f None some = absurd (false≢true some)
some_mapped f (Some x) some = (x, refl)

some_directory : (o : Option Bool) → is_some_directory o ≡ true → is_some o ≡ true
some_directory None some = absurd (false≢true some)
some_directory (Some b) some = refl

-- ---- numbers
number_at : (rows : List RowOfNode) (i : Id) → AllByRecursion IsStorable rows → is_some (directory_at rows i) ≡ true → i.number ≤ LAST_NUMBER
number_at rows i storable there =
    let found = some_mapped (λ n. is_directory n.kind) (world.node_at rows i) there in
    let both = all_find IsStorable (λ n. same_id i n.id) rows found.0 storable found.1 in
    subst (λ (k : Id). k.number ≤ LAST_NUMBER) (sym (id_same i found.0.id both.1)) both.0.number

module _ (rows : List RowOfNode) (makes : MakesNodes rows) (e : RowOfEntry) (joined : joins (directory_at rows) e ≡ true) where
  pub directory_number : e.directory.number ≤ LAST_NUMBER
  directory_number = number_at rows e.directory makes.storable (some_directory (directory_at rows e.directory) (and_left _ _ joined))

  pub node_number : e.node.number ≤ LAST_NUMBER
  node_number = number_at rows e.node makes.storable (and_right (is_some_directory (directory_at rows e.directory)) _ joined)

-- ---- a node more
before_apart : (a b : Id) → id_order a b ≡ Less → same_id b a ≡ false
before_apart a b less = grind (arith, nat_tests)

id_after : (a b : Id) → id_order a b ≡ Less → id_order b a ≡ Greater
id_after a b less = grind (arith, nat_tests)

module _ (done rest : List RowOfNode) (r : RowOfNode) (makes : MakesNodes (done ++ r ∷ rest)) where
  pub next_storable : IsStorable r
  next_storable = all_mid IsStorable done r rest makes.storable

  before : AllByRecursion (λ x. world.node_order x r ≡ Less) done
  before = rising_mid world.node_order done r rest makes.rise

  module _ (ns : List Node) (told : map row_of ns ≡ done) (n : Node) (is : row_of n ≡ r) where
    pub absent : node_at ns (id_of n.id) ≡ None
    absent = none_mapped row_of (node_at ns (id_of n.id)) (
        sym (node_at-rows (id_of n.id) ns)
        ∙ (λ k. world.node_at (told k) (is k).id)
        ∙ find_none (λ x. same_id r.id x.id) done (all_weaker _ _ (λ x less. before_apart x.id r.id less) done before))

    pub rows_more : map row_of (inserted node_order n ns) ≡ done ++ r ∷ []
    rows_more =
        rows-inserted n ns
        ∙ (λ k. inserted world.node_order (is k) (told k))
        ∙ inserted_last world.node_order r done (all_weaker _ _ (λ x less. id_after x.id r.id less) done before)

    pub bare_more : AllByRecursion IsBare ns → IsBare n → AllByRecursion IsBare (inserted node_order n ns)
    bare_more bare this = all_inserted node_order IsBare n ns this bare

-- ---- nodes whose names are these so far
abbrev pub KeepsUp : Option Tie → Option Id → Type 0
KeepsUp None up = Unit {0}
KeepsUp (Some t) up = t.parent ≡ up

pub record Named (nodes : List RowOfNode) (done : List RowOfEntry) (ns : List Node) : Type 0 where
  pub rows : map row_of ns ≡ nodes
  pub entries : entries_in ns ≡ done
  pub links : (j : Id) → links_tied (ties ns j) ≡ names_of done j
  pub up : (j : Id) → KeepsUp (ties ns j) (parent_of done j)

pub named_tree : (rows : List RowOfNode) (done : List RowOfEntry) (ns : List Node) → Named rows done ns → IsTree ns
named_tree rows done ns named = tree_tied ns (ties ns) done (λ j. refl) named.entries (record { links = named.links; up = λ j. up (ties ns j) (parent_of done j) (named.up j) })
  where
    up : (o : Option Tie) (p : Option Id) → KeepsUp o p → KeepsTied o p
    up None p keeps = tt
    up (Some t) p keeps = λ is. keeps

entries-bare : (ns : List Node) → AllByRecursion IsBare ns → entries_in ns ≡ []
entries-bare [] bare = refl
entries-bare (n ∷ ns) bare = ap (λ (xs : List Entry). map (row_of_entry (id_of n.id)) xs ++ entries_in ns) bare.0.names ∙ entries-bare ns bare.1

pub named_bare : (rows : List RowOfNode) (ns : List Node) → map row_of ns ≡ rows → AllByRecursion IsBare ns → Named rows [] ns
named_bare rows ns told bare = record {
  rows = told;
  entries = entries-bare ns bare;
  links = λ j. links j (node_at ns j) refl;
  up = λ j. up j (node_at ns j) refl;
}
  where
    links : (j : Id) (o : Option Node) → node_at ns j ≡ o → links_tied (option_map tie_of o) ≡ 0
    links j None found = refl
    links j (Some n) found = (all_find IsBare (is_node j) ns n bare found).0.links

    up : (j : Id) (o : Option Node) → node_at ns j ≡ o → KeepsUp (option_map tie_of o) None
    up j None found = tt
    up j (Some n) found = ap (option_map id_of) (all_find IsBare (is_node j) ns n bare found).0.parent

-- ---- a name more
abbrev first_up : Option Id → Id → Option Id
first_up None d = Some d
first_up (Some p) d = Some p

abbrev more_tied : Id → Tie → Tie
more_tied d t = record t { links = t.links + 1; parent = first_up t.parent d }

tie-more : (directory : NodeId) (n : Node) → tie_of (with_more_links directory n) ≡ more_tied (id_of directory) (tie_of n)
tie-more directory n = λ k. record (tie_of n) { links = n.links + 1; parent = at n.parent k }
  where
    at : (o : Option NodeId) → option_map id_of (first_parent o directory) ≡ first_up (option_map id_of o) (id_of directory)
    at None = refl
    at (Some p) = refl

rising_nodes : (ns : List Node) → Rising world.node_order (map row_of ns) → Rising node_order ns
rising_nodes [] rise = tt
rising_nodes (n ∷ ns) rise = (all_unmap (λ m. world.node_order (row_of n) m ≡ Less) row_of ns rise.0, rising_nodes ns rise.1)

pub rising_rows : (ns : List Node) → Rising node_order ns → Rising world.node_order (map row_of ns)
rising_rows [] rise = tt
rising_rows (n ∷ ns) rise = (all_map (λ m. world.node_order (row_of n) m ≡ Less) row_of ns rise.0, rising_rows ns rise.1)

below_cookie : (i d : Id) (k c : ℕ) → i ≡ d → ordering_then (id_order i d) (nat_cmp k c) ≡ Less → k < c
below_cookie i d k c is less =
    let tie : id_order i d ≡ Equal = id_tie i d (ap (same_id i) (sym is) ∙ id_itself i) in
    let same : nat_cmp k c ≡ Less = sym (ap (λ o. ordering_then o (nat_cmp k c)) tie) ∙ less in
    grind (arith, nat_tests, same)

other_name : (i d : Id) (b : Bool) → i ≡ d → (same_id i d && b) ≡ false → b ≡ false
other_name i d b is differs = ap (λ (same : Bool). same && b) (sym (ap (same_id i) (sym is) ∙ id_itself i)) ∙ differs

links_node : (o : Option Node) → links_at o ≡ links_tied (option_map tie_of o)
links_node None = refl
links_node (Some n) = refl

module _ (rows : List RowOfNode) (makes_nodes : MakesNodes rows) (done rest : List RowOfEntry) (directory child : NodeId) (c : ℕ) (name : List ℕ) (makes : MakesNames rows (done ++ row (id_of directory) c name child ∷ rest)) (ns : List Node) (named : Named rows done ns) where
  abbrev pub d : Id
  d = id_of directory

  abbrev pub e : RowOfEntry
  e = row d c name child

  joined : joins (directory_at rows) e ≡ true
  joined = all_mid (λ x. joins (directory_at rows) x ≡ true) done e rest makes.joined

  there : (i : Id) → is_some (directory_at rows i) ≡ true → (n : Node) × (node_at ns i ≡ Some n)
  there i some =
      some_mapped row_of (node_at ns i) (
      ap is_some (sym (node_at-rows i ns) ∙ ap (λ (rs : List RowOfNode). world.node_at rs i) named.rows ∙ (some_mapped (λ n. is_directory n.kind) (world.node_at rows i) some).1))

  into : (n : Node) × (node_at ns d ≡ Some n)
  into = there d (some_directory (directory_at rows d) (and_left _ _ joined))

  of_it : (n : Node) × (node_at ns (id_of child) ≡ Some n)
  of_it = there (id_of child) (and_right (is_some_directory (directory_at rows d)) _ joined)

  before_it : AllByRecursion (λ x. entry_order x e ≡ Less) done
  before_it = rising_mid entry_order done e rest makes.rise

  own : id_of into.0.id ≡ d
  own = sym (found_id d ns into.0 into.1)

  of_entries : (P : RowOfEntry → Type 0) → AllByRecursion P done → AllByRecursion (λ x. P (row_of_entry (id_of into.0.id) x)) into.0.names
  of_entries P all = all_own P d into.0 ns (subst (AllByRecursion P) (sym named.entries) all) into.1

  pub open_to : IsOpenTo ns d c name
  open_to = record {
    node = into.0;
    found = into.1;
    above = all_weaker _ _ (λ x less. below_cookie (id_of into.0.id) d x.cookie c own less) into.0.names (of_entries (λ x. entry_order x e ≡ Less) before_it);
    absent = find_none (λ x. bytes_eq x.name name) into.0.names (all_weaker _ _ (λ x differs. other_name (id_of into.0.id) d (bytes_eq x.name name) own differs) into.0.names (of_entries (λ x. same_name x e ≡ false) (apart_mid same_name done e rest makes.apart)));
  }

  abbrev pub put : List Node
  put = updated (is_node d) (with_entry c name child) ns

  ties-put : (j : Id) → ties put j ≡ ties ns j
  ties-put j = ties-kept (with_entry c name child) d (λ n. refl) (λ n. refl) ns j

  pub few_links : links_at (node_at put (id_of child)) < MOST_NAMES
  few_links =
      let here : links_at (node_at put (id_of child)) ≡ names_of done (id_of child) = links_node (node_at put (id_of child)) ∙ ap links_tied (ties-put (id_of child)) ∙ named.links (id_of child) in
      let all : names_of (done ++ e ∷ rest) (id_of child) ≡ names_of done (id_of child) + (1 + names_of rest (id_of child)) = count-mid (λ x. same_id (id_of child) x.node) done e rest ∙ ap (λ (b : Bool). names_of done (id_of child) + (cond b 1 0 + names_of rest (id_of child))) (id_itself (id_of child)) in
      let most : names_of (done ++ e ∷ rest) (id_of child) ≤ MOST_NAMES = makes.few (id_of child) in
      omega (arith, here, all, most)

  abbrev pub now : List Node
  now = updated (is_node (id_of child)) (with_more_links directory) put

  entries-put : (ms : List Node) → entries_in (updated (is_node d) (with_entry c name child) ms) ≡ entries_in (updated (is_node d) (with_name c name child) ms)
  entries-put [] = refl
  entries-put (n ∷ ms) = at (is_node d n) (entries-put ms)
    where
      at : (b : Bool) → entries_in (updated (is_node d) (with_entry c name child) ms) ≡ entries_in (updated (is_node d) (with_name c name child) ms) → entries_in (cond b (with_entry c name child n ∷ ms) (n ∷ updated (is_node d) (with_entry c name child) ms)) ≡ entries_in (cond b (with_name c name child n ∷ ms) (n ∷ updated (is_node d) (with_name c name child) ms))
      at true rest = refl
      at false rest = ap (λ (es : List RowOfEntry). map (row_of_entry (id_of n.id)) n.names ++ es) rest

  behind : (x : RowOfEntry) → entry_order x e ≡ Less → entry_order e x ≡ Greater
  behind x less = at (id_order x.directory d) refl less
    where
      at : (o : Ordering) → id_order x.directory d ≡ o → ordering_then o (nat_cmp x.cookie c) ≡ Less → entry_order e x ≡ Greater
      at Less is less = ap (λ o. ordering_then o (nat_cmp c x.cookie)) (id_after x.directory d is)
      at Equal is less =
          let tie : id_order d x.directory ≡ Equal = grind (arith, nat_tests, is) in
          let after : nat_cmp c x.cookie ≡ Greater = grind (arith, nat_tests, less) in
          ap (λ o. ordering_then o (nat_cmp c x.cookie)) tie ∙ after
      at Greater is less = absurd (cc)

  ties-now : (j : Id) → ties now j ≡ cond (same_id (id_of child) j) (option_map (more_tied d) (ties ns j)) (ties ns j)
  ties-now j =
      ties-moved (with_more_links directory) (id_of child) (more_tied d) (λ n. refl) (tie-more directory) put j
      ∙ ap (λ (t : Option Tie). cond (same_id (id_of child) j) (option_map (more_tied d) t) t) (ties-put j)

  names-now : (j : Id) → names_of (done ++ e ∷ []) j ≡ names_of done j + (cond (same_id (id_of child) j) 1 0 + 0)
  names-now j = count-mid (λ x. same_id j x.node) done e [] ∙ ap (λ (b : Bool). names_of done j + (cond b 1 0 + 0)) (id_turned j (id_of child))

  links-more : (o : Option Tie) (t : Tie) → o ≡ Some t → links_tied (option_map (more_tied d) o) ≡ links_tied o + 1
  links-more None t is = absurd (cc)
  links-more (Some s) t is = refl

  links-now : (j : Id) → links_tied (ties now j) ≡ names_of (done ++ e ∷ []) j
  links-now j = ap links_tied (ties-now j) ∙ at (same_id (id_of child) j) refl ∙ sym (names-now j)
    where
      at : (b : Bool) → same_id (id_of child) j ≡ b → links_tied (cond b (option_map (more_tied d) (ties ns j)) (ties ns j)) ≡ names_of done j + (cond b 1 0 + 0)
      at true is =
          let more : links_tied (option_map (more_tied d) (ties ns j)) ≡ links_tied (ties ns j) + 1 = links-more (ties ns j) (tie_of of_it.0) (ap (ties ns) (sym (id_same (id_of child) j is)) ∙ ap (option_map tie_of) of_it.1) in
          let was : links_tied (ties ns j) ≡ names_of done j = named.links j in
          omega (arith, more, was)
      at false is = let was : links_tied (ties ns j) ≡ names_of done j = named.links j in omega (arith, was)

  first-parent : (o : Option RowOfEntry) → option_map (λ x. x.directory) (option_or o (Some e)) ≡ first_up (option_map (λ x. x.directory) o) d
  first-parent None = refl
  first-parent (Some x) = refl

  no-other : (o : Option RowOfEntry) → option_or o None ≡ o
  no-other None = refl
  no-other (Some x) = refl

  parent-now : (j : Id) (b : Bool) → same_id (id_of child) j ≡ b → parent_of (done ++ e ∷ []) j ≡ cond b (first_up (parent_of done j) d) (parent_of done j)
  parent-now j b is =
      ap (option_map (λ x. x.directory)) (find-append (λ x. same_id j x.node) done (e ∷ []))
      ∙ ap (λ (b : Bool). option_map (λ x. x.directory) (option_or (find (λ x. same_id j x.node) done) (cond b (Some e) None))) (id_turned j (id_of child) ∙ is)
      ∙ at b
    where
      at : (b : Bool) → option_map (λ x. x.directory) (option_or (find (λ x. same_id j x.node) done) (cond b (Some e) None)) ≡ cond b (first_up (parent_of done j) d) (parent_of done j)
      at true = first-parent (find (λ x. same_id j x.node) done)
      at false = ap (option_map (λ x. x.directory)) (no-other (find (λ x. same_id j x.node) done))

  up-more : (o : Option Tie) (p : Option Id) → KeepsUp o p → KeepsUp (option_map (more_tied d) o) (first_up p d)
  up-more None p keeps = tt
  up-more (Some t) p keeps = ap (λ (q : Option Id). first_up q d) keeps

  up-now : (j : Id) → KeepsUp (ties now j) (parent_of (done ++ e ∷ []) j)
  up-now j = at (same_id (id_of child) j) refl
    where
      both : (b : Bool) → same_id (id_of child) j ≡ b → KeepsUp (cond b (option_map (more_tied d) (ties ns j)) (ties ns j)) (cond b (first_up (parent_of done j) d) (parent_of done j)) → KeepsUp (ties now j) (parent_of (done ++ e ∷ []) j)
      both b is keeps =
          subst (KeepsUp (ties now j)) (sym (parent-now j b is)) (
          subst (λ (t : Option Tie). KeepsUp t (cond b (first_up (parent_of done j) d) (parent_of done j))) (sym (ties-now j ∙ ap (λ (b : Bool). cond b (option_map (more_tied d) (ties ns j)) (ties ns j)) is)) keeps)

      at : (b : Bool) → same_id (id_of child) j ≡ b → KeepsUp (ties now j) (parent_of (done ++ e ∷ []) j)
      at true is = both true is (up-more (ties ns j) (parent_of done j) (named.up j))
      at false is = both false is (named.up j)

  pub named_more : Named rows (done ++ row (id_of directory) c name child ∷ []) now
  named_more = record {
    rows = rows-kept (with_more_links directory) (id_of child) (λ n. refl) put ∙ rows-kept (with_entry c name child) d (λ n. refl) ns ∙ named.rows;
    entries =
        entries-kept (with_more_links directory) (id_of child) (λ n. refl) (λ n. refl) put
        ∙ entries-put ns
        ∙ entries-named d c name child into.0 ns (rising_nodes ns (subst (Rising world.node_order) (sym named.rows) makes_nodes.rise)) into.1
        ∙ ap (inserted entry_order e) named.entries
        ∙ inserted_last entry_order e done (all_weaker _ _ behind done before_it);
    links = links-now;
    up = up-now;
  }

-- ---- the same of values
pub node_makes : (nodes : List NodeRow) (i : ℕ) (r : NodeRow) → i < length nodes → r ≡ get_or nodes i r → MakesNodes (map node_of nodes) → MakesNodes (map node_of (take i nodes) ++ node_of r ∷ map node_of (drop (i + 1) nodes))
node_makes nodes i r inside is makes = subst MakesNodes (sym (map-parted-at node_of nodes i r inside is)) makes

abbrev no_entry : EntryRow
no_entry = record { directory = record { level = 0; number = 0 }; cookie = 0; name = record { ref_ptr = (0, 0); now = [] }; node = record { level = 0; number = 0 } }

abbrev pub entry_in : List EntryRow → ℕ → EntryRow
entry_in entries i = get_or entries i no_entry

pub entry_itself : (entries : List EntryRow) (i : ℕ) → i < length entries → entry_in entries i ≡ get_or entries i (entry_in entries i)
entry_itself entries i inside = get_or_default entries i no_entry (entry_in entries i) inside

module _ (rows : List RowOfNode) (makes_nodes : MakesNodes rows) (entries : List EntryRow) (makes : MakesNames rows (map entry_of entries)) (i : ℕ) (r : EntryRow) (inside : i < length entries) (is : r ≡ get_or entries i r) where
  abbrev pub done_rows : List RowOfEntry
  done_rows = map entry_of (take i entries)

  abbrev pub rest_rows : List RowOfEntry
  rest_rows = map entry_of (drop (i + 1) entries)

  r_joined : joins (directory_at rows) (entry_of r) ≡ true
  r_joined = all_mid (λ x. joins (directory_at rows) x ≡ true) done_rows (entry_of r) rest_rows (subst (AllByRecursion (λ x. joins (directory_at rows) x ≡ true)) (sym (map-parted-at entry_of entries i r inside is)) makes.joined)

  pub directory_fits : r.directory.number ≤ LAST_NUMBER
  directory_fits = directory_number rows makes_nodes (entry_of r) r_joined

  pub node_fits : r.node.number ≤ LAST_NUMBER
  node_fits = node_number rows makes_nodes (entry_of r) r_joined

  module _ (directory child : NodeId) (directory_is : id_of directory ≡ told_id r.directory) (child_is : id_of child ≡ told_id r.node) (ns : List Node) (named : Named rows done_rows ns) where
    row_is : row (id_of directory) r.cookie r.name.now child ≡ entry_of r
    row_is = λ k. record { directory = directory_is k; cookie = r.cookie; name = r.name.now; node = child_is k }

    parts : done_rows ++ row (id_of directory) r.cookie r.name.now child ∷ rest_rows ≡ map entry_of entries
    parts = ap (λ (x : RowOfEntry). done_rows ++ x ∷ rest_rows) row_is ∙ map-parted-at entry_of entries i r inside is

    it_makes : MakesNames rows (done_rows ++ row (id_of directory) r.cookie r.name.now child ∷ rest_rows)
    it_makes = subst (MakesNames rows) (sym parts) makes

    pub open_next : IsOpenTo ns (id_of directory) r.cookie r.name.now
    open_next = open_to rows makes_nodes done_rows rest_rows directory child r.cookie r.name.now it_makes ns named

    module _ (with_it : List Node) (put_is : with_it ≡ updated (is_node (id_of directory)) (with_entry r.cookie r.name.now child) ns) where
      pub few_next : links_at (node_at with_it (id_of child)) < MOST_NAMES
      few_next = subst (λ (ms : List Node). links_at (node_at ms (id_of child)) < MOST_NAMES) (sym put_is) (few_links rows makes_nodes done_rows rest_rows directory child r.cookie r.name.now it_makes ns named)

      pub named_next : (after : List Node) → after ≡ updated (is_node (id_of child)) (with_more_links directory) with_it → Named rows (map entry_of (take (i + 1) entries)) after
      named_next after after_is =
          subst (λ (es : List RowOfEntry). Named rows es after) (ap (λ (x : RowOfEntry). done_rows ++ x ∷ []) row_is ∙ sym (map-more-at entry_of entries i r inside is)) (
          subst (Named rows (done_rows ++ row (id_of directory) r.cookie r.name.now child ∷ [])) (sym (after_is ∙ ap (updated (is_node (id_of child)) (with_more_links directory)) put_is)) (
          named_more rows makes_nodes done_rows rest_rows directory child r.cookie r.name.now it_makes ns named))

-- ---- a tree's own rows
pub storable_node : (n : Node) → n.id.number ≤ LAST_NUMBER → (size : ℕ) → size ≡ length n.bytes → size ≤ MOST_FILE → IsStorable (row_of n)
storable_node n number size is limit = record { number = number; content = at (kind_of n.kind) }
  where
    at : (k : Kind) → HoldsBy k (content_of k n.bytes n.text)
    at File = omega (arith, is, limit)
    at Directory = refl
    at SymbolicLink = tt

all_rows : (P : RowOfNode → Type 0) (ns : List Node) → AllByRecursion (λ n. P (row_of n)) ns → AllByRecursion P (map row_of ns)
all_rows P ns all = all_map P row_of ns all

numbered_lasts : (es : List (Level × ℕ)) → AllByRecursion (λ l. l.0 < 2 ^ 32) (keys_of es) → AllByRecursion (λ n. n ≤ LAST_NUMBER) (values_of es) → AllByRecursion IsNumbered (map last_row es)
numbered_lasts [] levels numbers = tt
numbered_lasts (e ∷ es) levels numbers = (record { level = levels.0; number = numbers.0 }, numbered_lasts es levels.1 numbers.1)

pub own_rows : (ns : List Node) (es : List (Level × ℕ)) (t : Rows) → rows_in ns es ≡ t → AllByRecursion (λ n. IsStorable (row_of n)) ns → AllByRecursion (λ l. l.0 < 2 ^ 32) (keys_of es) → AllByRecursion (λ n. n ≤ LAST_NUMBER) (values_of es) → (AllByRecursion IsStorable t.nodes → ((i : Id) → names_of t.entries i ≤ MOST_NAMES) → AllByRecursion IsNumbered t.lasts → MakesTree t) → ((i : Id) → names_of t.entries i ≤ MOST_NAMES) → MakesTree t
own_rows ns es t is storable levels numbers makes few =
    makes
    (subst (λ (t : Rows). AllByRecursion IsStorable t.nodes) is (all_rows IsStorable ns storable))
    few
    (subst (λ (t : Rows). AllByRecursion IsNumbered t.lasts) is (numbered_lasts es levels numbers))

-- what a tree can be made of can be made of its rows as they are told
pub told_again : (t : Rows) → MakesTree t → (nodes : List NodeRow) (entries : List EntryRow) (numbers : List ℕ) (levels : ℕ) → map node_of nodes ≡ t.nodes → map entry_of entries ≡ t.entries → numbers ≡ each_of levels t.lasts → levels ≤ 2 ^ 32 → MakesTree (rows_told nodes entries numbers)
told_again t makes nodes entries numbers levels nodes_are entries_are numbers_are within = record {
  nodes = subst MakesNodes (sym nodes_are) makes.nodes;
  names = subst (λ (rs : List RowOfNode). MakesNames rs (map entry_of entries)) (sym nodes_are) (subst (MakesNames t.nodes) (sym entries_are) makes.names);
  lasts = subst (λ (ns : List ℕ). AllByRecursion IsNumbered (given_of ns)) (sym numbers_are) (numbered_again levels t.lasts within makes.lasts);
}
