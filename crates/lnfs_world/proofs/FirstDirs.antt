-- No directory that is to stand is left out of the first world where each of them fits those before it.
use Rattle.std.proofs.Common.{◌≡◌, ◌+◌, ℕ, suc, Bool, true, false, cond, ◌&&◌, List, [], ◌∷◌, ◌++◌, map, length, Option, Some, None, refl, sym, ap, subst, ◌∙◌, append_assoc, append-nil, arith}
use Rattle.std.specs.Prelude.{is_some, option_map, option_and_then}
use Rattle.std.specs.List.{fold, find, list_any, AllByRecursion}
use Rattle.std.specs.Ordering.{is_eq, match_ordering}
use Rattle.std.specs.declared.cmp.Ordering.{Ordering}
use Rattle.std.specs.declared.cmp.Ordering.TheVariants.{Less, Equal, Greater}
use Rattle.std.specs.Str.{bytes_eq}
use Rattle.std.proofs.lemmas.Bool.{and_parts, or_parts, false≢true}
use Rattle.std.proofs.lemmas.Bool.Decides.{nat_tests}
use Rattle.std.proofs.lemmas.List.{length_push}
use Rattle.std.proofs.lemmas.List.Folds.{list_any-append}
use Rattle.lnfs_calipso.specs.Label.{IsPreorderWithBottom}
use Rattle.lnfs_words.specs.Words.{split, slash}
use Rattle.lnfs_words.specs.Paths.{is_path, parent_of}
use Rattle.lnfs_words.proofs.PathParts.{HasFront, path_parts, split_same}
use Rattle.lnfs_world.specs.Rows.{inserted, updated}
use Rattle.lnfs_world.specs.World.{Id, Stored, Kind, Inner, Node, Entry, World, node_order, entry_order, same_id, node_at, directory_at, is_directory, is_given}
use Rattle.lnfs_world.specs.Names.{entry_at}
use Rattle.lnfs_world.specs.Tree.{root, joins}
use Rattle.lnfs_world.specs.Change.{touched, apply_all}
use Rattle.lnfs_world.specs.Effects.{next_entry, next_id}
use Rattle.lnfs_world.specs.Facts.{Facts}
use Rattle.lnfs_world.specs.Within.{all_within}
use Rattle.lnfs_world.specs.First.{FirstDir, first_directory, root_world, led_to, below_root, made_in, made_under, made_at, with_dir, first_tree, walk, walk_below, id_at, HasDirectory, is_before, InOrder, root_dir}
use Rattle.lnfs_world.proofs.Rows.{all_weaker, all_two, all_find, all_none}
use Rattle.lnfs_world.proofs.Sorted.{all_inserted, find-inserted}
use Rattle.lnfs_world.proofs.Keys.{id_same, id_itself, id_equal, id_tie, entry_apart, bytes_same, bytes_itself}
use Rattle.lnfs_world.proofs.Seals.{unseal}
use Rattle.lnfs_world.proofs.Added.{Added, added_placed}
use Rattle.lnfs_world.proofs.Nodes.{told-made}
use Rattle.lnfs_world.proofs.Within.{within_all}
use Rattle.lnfs_world.proofs.Lawfulness.{keeps_all}
use Rattle.lnfs_world.proofs.Seen.{node_at-id, label_of-found}
use Rattle.lnfs_world.proofs.NewNames.{none_found, added_within, next_absent}
use Rattle.lnfs_world.proofs.FirstTrees.{root_facts}

-- ---- the premise

abbrev pub has_path : List FirstDir → List ℕ → Bool
has_path dirs path = list_any (λ d. bytes_eq d.path path) dirs

-- a directory's path is one, and new, its parent's is there, and its level dominates the parent's
pub record FitsBehind (dom : ℕ → ℕ → Bool) (before : List FirstDir) (dir : FirstDir) : Type 0 where
  pub path : is_path dir.path ≡ true
  pub new : has_path before dir.path ≡ false
  pub parent : FirstDir
  pub there : find (λ d. bytes_eq d.path (parent_of dir.path)) before ≡ Some parent
  pub above : dom dir.level parent.level ≡ true

-- each of them after those before it
abbrev pub AllFit : (ℕ → ℕ → Bool) → (before dirs : List FirstDir) → Type 0
AllFit dom before [] = Unit {0}
AllFit dom before (dir ∷ dirs) = FitsBehind dom before dir × AllFit dom (before ++ dir ∷ []) dirs

-- ---- lists

all_push : {X : Type 0} (P : X → Type 0) (xs : List X) (x : X) → AllByRecursion P xs → P x → AllByRecursion P (xs ++ x ∷ [])
all_push P [] x all here = (here, tt)
all_push P (y ∷ xs) x all here = (all.0, all_push P xs x all.1 here)

map_push : {X Y : Type 0} (f : X → Y) (xs : List X) (x : X) → map f (xs ++ x ∷ []) ≡ map f xs ++ f x ∷ []
map_push f [] x = refl
map_push f (y ∷ xs) x = ap (λ ys. f y ∷ ys) (map_push f xs x)

all_map : {X Y : Type 0} (f : X → Y) (P : Y → Type 0) (xs : List X) → AllByRecursion (λ x. P (f x)) xs → AllByRecursion P (map f xs)
all_map f P [] all = tt
all_map f P (x ∷ xs) all = (all.0, all_map f P xs all.1)

length-updated : {X : Type 0} (q : X → Bool) (g : X → X) (xs : List X) → length (updated q g xs) ≡ length xs
length-updated q g [] = refl
length-updated q g (x ∷ xs) = grind (arith, length-updated q g xs)

length-inserted : {X : Type 0} (R : X → X → Ordering) (r : X) (xs : List X) → AllByRecursion (λ x. is_eq (R r x) ≡ false) xs → length (inserted R r xs) ≡ suc (length xs)
length-inserted R r [] apart = refl
length-inserted R r (x ∷ xs) apart = at (R r x) refl (length-inserted R r xs apart.1)
  where
    at : (o : Ordering) → R r x ≡ o → length (inserted R r xs) ≡ suc (length xs) → length (match_ordering o (r ∷ x ∷ xs) (r ∷ xs) (x ∷ inserted R r xs)) ≡ suc (suc (length xs))
    at Less is rest = refl
    at Equal is rest = absurd (grind (arith, apart.0))
    at Greater is rest = ap suc rest

-- ---- walks

led : (entries : List Entry) (i : Id) (names : List (List ℕ)) (j : Id) (name : List ℕ) → walk entries i names ≡ Some j → led_to entries i (names ++ name ∷ []) ≡ Some (j, name)
led entries i [] j name e = let same : i ≡ j = cc in ap (λ (k : Id). Some (k, name)) same
led entries i (x ∷ []) j name e = of (λ y f. led entries y.node [] j name f) (entry_at entries i x) e
  where
    of : ((y : Entry) → walk entries y.node [] ≡ Some j → led_to entries y.node (name ∷ []) ≡ Some (j, name))
        → (o : Option Entry) → option_and_then (λ e. walk entries e.node []) o ≡ Some j → option_and_then (λ e. led_to entries e.node (name ∷ [])) o ≡ Some (j, name)
    of deeper None e = absurd cc
    of deeper (Some y) e = deeper y e
led entries i (x ∷ y ∷ names) j name e = of (λ z f. led entries z.node (y ∷ names) j name f) (entry_at entries i x) e
  where
    of : ((z : Entry) → walk entries z.node (y ∷ names) ≡ Some j → led_to entries z.node (y ∷ (names ++ name ∷ [])) ≡ Some (j, name))
        → (o : Option Entry) → option_and_then (λ e. walk entries e.node (y ∷ names)) o ≡ Some j → option_and_then (λ e. led_to entries e.node (y ∷ (names ++ name ∷ []))) o ≡ Some (j, name)
    of deeper None e = absurd cc
    of deeper (Some z) e = deeper z e

walk_more : (entries : List Entry) (i : Id) (names more : List (List ℕ)) (j : Id) → walk entries i names ≡ Some j → walk entries i (names ++ more) ≡ walk entries j more
walk_more entries i [] more j e = let same : i ≡ j = cc in ap (λ (k : Id). walk entries k more) same
walk_more entries i (x ∷ names) more j e = of (λ y f. walk_more entries y.node names more j f) (entry_at entries i x) e
  where
    of : ((y : Entry) → walk entries y.node names ≡ Some j → walk entries y.node (names ++ more) ≡ walk entries j more)
        → (o : Option Entry) → option_and_then (λ e. walk entries e.node names) o ≡ Some j → option_and_then (λ e. walk entries e.node (names ++ more)) o ≡ walk entries j more
    of deeper None e = absurd cc
    of deeper (Some y) e = deeper y e

-- what finds every entry again finds every node again
walk_stays : (old new : List Entry) → ((i : Id) (name : List ℕ) (e : Entry) → entry_at old i name ≡ Some e → entry_at new i name ≡ Some e)
    → (i : Id) (names : List (List ℕ)) (j : Id) → walk old i names ≡ Some j → walk new i names ≡ Some j
walk_stays old new same i [] j e = e
walk_stays old new same i (x ∷ names) j e = of (λ y f. walk_stays old new same y.node names j f) (entry_at old i x) refl e
  where
    of : ((y : Entry) → walk old y.node names ≡ Some j → walk new y.node names ≡ Some j)
        → (o : Option Entry) → entry_at old i x ≡ o → option_and_then (λ e. walk old e.node names) o ≡ Some j → walk new i (x ∷ names) ≡ Some j
    of deeper None at e = absurd cc
    of deeper (Some y) at e = ap (option_and_then (λ e. walk new e.node names)) (same i x y at) ∙ deeper y e

-- Where each node has a way, and each entry is one step of it, a walk goes along it.
abbrev IsStep : (Id → List (List ℕ)) → Entry → Type 0
IsStep way e = way e.node ≡ way e.directory ++ e.name ∷ []

walk_way : (way : Id → List (List ℕ)) (entries : List Entry) → AllByRecursion (IsStep way) entries → (i : Id) (names : List (List ℕ)) (j : Id) → walk entries i names ≡ Some j → way j ≡ way i ++ names
walk_way way entries steps i [] j e = let same : j ≡ i = cc in ap way same ∙ sym (append-nil (way i))
walk_way way entries steps i (name ∷ names) j e = of (λ x f. walk_way way entries steps x.node names j f) (entry_at entries i name) refl e
  where
    of : ((x : Entry) → walk entries x.node names ≡ Some j → way j ≡ way x.node ++ names)
        → (o : Option Entry) → entry_at entries i name ≡ o → option_and_then (λ e. walk entries e.node names) o ≡ Some j → way j ≡ way i ++ (name ∷ names)
    of deeper None at e = absurd cc
    of deeper (Some x) at e =
        let found = all_find (IsStep way) (λ e. same_id i e.directory && bytes_eq e.name name) entries x steps at in
        let both = and_parts (same_id i x.directory) (bytes_eq x.name name) found.1 in
        let own : x.directory ≡ i = sym (id_same i x.directory both.0) in
        deeper x e
        ∙ ap (λ (ns : List _). ns ++ names) (found.0 ∙ (λ k. way (own k) ++ bytes_same x.name name both.1 k ∷ []))
        ∙ append_assoc (way i) (name ∷ []) names

-- ---- what holds before each directory and after it

-- each of the directories stands, in their order, and there is no other node
pub record HasAll (w : World) (dirs : List FirstDir) : Type 0 where
  pub directories : AllByRecursion (HasDirectory w) dirs
  pub order : InOrder w (map (λ dir. dir.path) dirs)
  pub count : length w.nodes ≡ length dirs

record Reached (dom : ℕ → ℕ → Bool) (done : List FirstDir) (w : World) : Type 0 where
  facts : Facts dom w
  -- the names on the way from the root to a node
  way : Id → List (List ℕ)
  begins : way root ≡ []
  steps : AllByRecursion (IsStep way) w.entries
  -- no entry stands at the end of another path
  listed : (text : List ℕ) → has_path done text ≡ false → AllByRecursion (λ e. split slash text ≡ [] ∷ way e.node → ⊥) w.entries
  all : HasAll w done

-- a directory at the end of a path
record Spot (w : World) (front : List (List ℕ)) (level : ℕ) : Type 0 where
  n : Node
  leads : walk w.entries root front ≡ Some n.id
  found : node_at w.nodes n.id ≡ Some n
  kind : is_directory n.kind ≡ true
  label : n.label ≡ level

-- the identifier that a path leads to
record Leads (w : World) (path : List ℕ) (n : Node) : Type 0 where
  i : Id
  leads : id_at w path ≡ Some i
  found : node_at w.nodes i ≡ Some n

leads_of : (w : World) (path : List ℕ) (n : Node) → option_and_then (node_at w.nodes) (id_at w path) ≡ Some n → Leads w path n
leads_of w path n e = of (id_at w path) refl e
  where
    of : (o : Option Id) → id_at w path ≡ o → option_and_then (node_at w.nodes) o ≡ Some n → Leads w path n
    of None is e = absurd cc
    of (Some i) is e = record { i = i; leads = is; found = e }

spot : (w : World) (d : FirstDir) → HasDirectory w d → (front : List (List ℕ)) → split slash d.path ≡ [] ∷ front → Spot w front d.level
spot w d has front parts =
    let at = leads_of w d.path has.node has.leads in
    let id : has.node.id ≡ at.i = node_at-id at.i w.nodes has.node at.found in
    record {
      n = has.node;
      leads = ap (walk_below w.entries) (sym parts) ∙ at.leads ∙ ap Some (sym id);
      found = ap (node_at w.nodes) id ∙ at.found;
      kind = ap is_directory has.kind;
      label = has.level;
    }

-- ---- one directory more

abbrev inner_after : Node → Inner
inner_after n = record n.inner { cookies = n.inner.cookies + 1 }

told_found : {X : Type 0} (f : Node → X) (m : Node) (inner : Inner) → f (record m { inner = inner }) ≡ f m → (d : Id) (nodes : List Node) → node_at nodes m.id ≡ Some m → option_map f (node_at (touched m.id inner nodes) d) ≡ option_map f (node_at nodes d)
told_found f m inner same d [] found = refl
told_found f m inner same d (n ∷ nodes) found = at (same_id m.id n.id) (λ there. told_found f m inner same d nodes there) found
  where
    changed : (b : Bool) (o : Option Node) → f (record n { inner = inner }) ≡ f n → option_map f (cond b (Some (record n { inner = inner })) o) ≡ option_map f (cond b (Some n) o)
    changed true o e = ap Some e
    changed false o e = refl

    other : (b : Bool) → option_map f (node_at (touched m.id inner nodes) d) ≡ option_map f (node_at nodes d) → option_map f (cond b (Some n) (node_at (touched m.id inner nodes) d)) ≡ option_map f (cond b (Some n) (node_at nodes d))
    other true e = refl
    other false e = e

    at : (b : Bool) → (node_at nodes m.id ≡ Some m → option_map f (node_at (touched m.id inner nodes) d) ≡ option_map f (node_at nodes d)) → cond b (Some n) (node_at nodes m.id) ≡ Some m → option_map f (node_at (cond b (record n { inner = inner } ∷ nodes) (n ∷ touched m.id inner nodes)) d) ≡ option_map f (node_at (n ∷ nodes) d)
    at true deeper found = let this : m ≡ n = cc in changed (same_id d n.id) (node_at nodes d) (subst (λ (x : Node). f (record x { inner = inner }) ≡ f x) this same)
    at false deeper found = other (same_id d n.id) (deeper found)

-- a new node is found
made_found : (n : Node) (nodes : List Node) → node_at (inserted node_order n nodes) n.id ≡ Some n
made_found n nodes =
    find-inserted node_order (λ x. same_id n.id x.id) n (λ x e. grind (arith, nat_tests, id_equal n.id x.id e)) (λ x h k. id_tie n.id x.id k) nodes
    ∙ ap (λ b. cond b (Some n) (node_at nodes n.id)) (id_itself n.id)

-- in a directory, under a name that it hasn't
module _ (dom : ℕ → ℕ → Bool) (lattice : IsPreorderWithBottom dom) (w : World) (facts : Facts dom w) (dir : FirstDir) (name : List ℕ) (n : Node) (found : node_at w.nodes n.id ≡ Some n) (kind : is_directory n.kind ≡ true) (above : dom dir.level n.label ≡ true) (absent : entry_at w.entries n.id name ≡ None) where
  abbrev new_id : Id
  new_id = next_id w.lasts.nodes n.label

  abbrev new_node : Node
  new_node = first_directory dir.stored new_id dir.level

  abbrev new_entry : Entry
  new_entry = next_entry n name new_id

  abbrev after : World
  after = apply_all (made_in w dir name n) w

  within : all_within dom n.label w (made_in w dir name n) ≡ true
  within = added_within dom n.label w facts n new_node name (inner_after n) refl found kind refl refl above absent

  facts_after : Facts dom after
  facts_after = keeps_all dom lattice n.label (made_in w dir name n) w facts (within_all dom n.label (made_in w dir name n) w within)

  no_ties : AllByRecursion (λ e. is_eq (entry_order new_entry e) ≡ false) w.entries
  no_ties = all_weaker _ _ (λ e none. entry_apart new_entry e none) w.entries (within_all dom n.label (made_in w dir name n) w within).1.0.adds.keys

  added : Added new_entry w.entries after.entries
  added = added_placed entry_order new_entry w.entries no_ties

  -- the new identifier was none
  none_new : node_at w.nodes new_id ≡ None
  none_new = next_absent dom w.nodes w.entries w.lasts.nodes facts.nodes n.label

  other_id : {X : Type 0} (f : Node → X) (i : Id) (x : X) → option_map f (node_at w.nodes i) ≡ Some x → same_id i new_id ≡ false
  other_id f i x there = at (same_id i new_id) refl
    where
      at : (b : Bool) → same_id i new_id ≡ b → b ≡ false
      at false is = refl
      at true is = let none : None ≡ Some x = ap (option_map f) (sym none_new) ∙ ap (λ (j : Id). option_map f (node_at w.nodes j)) (sym (id_same i new_id is)) ∙ there in absurd cc

  told_after : {X : Type 0} (f : Node → X) → f (record n { inner = inner_after n }) ≡ f n → (i : Id) (x : X) → option_map f (node_at w.nodes i) ≡ Some x → option_map f (node_at after.nodes i) ≡ Some x
  told_after f same i x there =
      told-made f new_node i (touched n.id (inner_after n) w.nodes)
      ∙ ap (λ b. cond b (Some (f new_node)) (option_map f (node_at (touched n.id (inner_after n) w.nodes) i))) (other_id f i x there)
      ∙ told_found f n (inner_after n) same i w.nodes found
      ∙ there

  entry_stays : (i : Id) (x : List ℕ) (e : Entry) → entry_at w.entries i x ≡ Some e → entry_at after.entries i x ≡ Some e
  entry_stays i x e there = added.other (λ e. same_id i e.directory && bytes_eq e.name x) (at (same_id i n.id && bytes_eq name x) refl) ∙ there
    where
      at : (b : Bool) → (same_id i n.id && bytes_eq name x) ≡ b → b ≡ false
      at false is = refl
      at true is =
          let both = and_parts (same_id i n.id) (bytes_eq name x) is in
          let same : entry_at w.entries i x ≡ entry_at w.entries n.id name = λ k. entry_at w.entries (id_same i n.id both.0 k) (sym (bytes_same name x both.1) k) in
          let none : None ≡ Some e = sym absent ∙ sym same ∙ there in
          absurd cc

  id_stays : (path : List ℕ) (i : Id) → id_at w path ≡ Some i → id_at after path ≡ Some i
  id_stays path i e = of (split slash path) e
    where
      of : (parts : List (List ℕ)) → walk_below w.entries parts ≡ Some i → walk_below after.entries parts ≡ Some i
      of [] e = absurd cc
      of (front ∷ names) e = walk_stays w.entries after.entries entry_stays root names i e

  abbrev Row : Type 0
  Row = Kind × ℕ × Option Stored

  abbrev row : Node → Row
  row m = (m.kind, m.label, m.inner.stored)

  has_stays : (d : FirstDir) → HasDirectory w d → HasDirectory after d
  has_stays d has =
      let at = leads_of w d.path has.node has.leads in
      of (node_at after.nodes at.i) (ap (option_and_then (node_at after.nodes)) (id_stays d.path at.i at.leads)) (told_after row refl at.i (row has.node) (ap (option_map row) at.found))
    where
      of : (o : Option Node) → option_and_then (node_at after.nodes) (id_at after d.path) ≡ o → option_map row o ≡ Some (row has.node) → HasDirectory after d
      of None is e = absurd cc
      of (Some m) is e =
          let same : row m ≡ row has.node = cc in
          record { node = m; leads = is; kind = ap (λ (r : Row). r.0) same ∙ has.kind; level = ap (λ (r : Row). r.1) same ∙ has.level; stored = ap (λ (r : Row). r.2) same ∙ has.stored }

  -- its own path
  module _ (front : List (List ℕ)) (leads : walk w.entries root front ≡ Some n.id) (parts : split slash dir.path ≡ [] ∷ (front ++ name ∷ [])) where
    entry_new : entry_at after.entries n.id name ≡ Some new_entry
    entry_new =
        added.own (λ e. same_id n.id e.directory && bytes_eq e.name name) (all_none _ w.entries (none_found _ w.entries absent))
        (λ k. id_itself n.id k && bytes_itself name k)

    id_new : id_at after dir.path ≡ Some new_id
    id_new =
        ap (walk_below after.entries) parts
        ∙ walk_more after.entries root front (name ∷ []) n.id (walk_stays w.entries after.entries entry_stays root front n.id leads)
        ∙ ap (option_and_then (λ e. walk after.entries e.node [])) entry_new

    has_new : HasDirectory after dir
    has_new = record {
      node = new_node;
      leads = ap (option_and_then (node_at after.nodes)) id_new ∙ made_found new_node (touched n.id (inner_after n) w.nodes);
      kind = refl;
      level = refl;
      stored = refl;
    }

    -- its number is above those that were given
    before_new : (d : FirstDir) → HasDirectory w d → is_before (id_at after d.path) (id_at after dir.path) ≡ true
    before_new d has =
        let at = leads_of w d.path has.node has.leads in
        let given : is_given w.lasts.nodes at.i ≡ true = facts.nodes.given at.i has.node.label (label_of-found at.i w.nodes has.node at.found) in
        (λ k. is_before (id_stays d.path at.i at.leads k) (id_new k)) ∙ lower at.i given
      where
        lower : (i : Id) → is_given w.lasts.nodes i ≡ true → is_before (Some i) (Some new_id) ≡ true
        lower i given = grind (arith, nat_tests, given)

    same_before : (d e : FirstDir) → HasDirectory w d → HasDirectory w e → is_before (id_at w d.path) (id_at w e.path) ≡ true → is_before (id_at after d.path) (id_at after e.path) ≡ true
    same_before d e hd he is =
        let at = leads_of w d.path hd.node hd.leads in
        let to = leads_of w e.path he.node he.leads in
        (λ k. is_before ((id_stays d.path at.i at.leads ∙ sym at.leads) k) ((id_stays e.path to.i to.leads ∙ sym to.leads) k)) ∙ is

    all_before : (d : FirstDir) (dirs : List FirstDir) → HasDirectory w d → AllByRecursion (HasDirectory w) dirs
        → AllByRecursion (λ later. is_before (id_at w d.path) (id_at w later) ≡ true) (map (λ d. d.path) dirs)
        → AllByRecursion (λ later. is_before (id_at after d.path) (id_at after later) ≡ true) (map (λ d. d.path) (dirs ++ dir ∷ []))
    all_before d [] has others order = (before_new d has, tt)
    all_before d (e ∷ dirs) has others order = (same_before d e has others.0 order.0, all_before d dirs has others.1 order.1)

    in_order : (dirs : List FirstDir) → AllByRecursion (HasDirectory w) dirs → InOrder w (map (λ d. d.path) dirs) → InOrder after (map (λ d. d.path) (dirs ++ dir ∷ []))
    in_order [] all order = (tt, tt)
    in_order (d ∷ dirs) all order = (all_before d dirs all.0 all.1 order.0, in_order dirs all.1 order.1)

    counted : length after.nodes ≡ suc (length w.nodes)
    counted = length-inserted node_order new_node (touched n.id (inner_after n) w.nodes) apart ∙ ap suc (length-updated _ _ w.nodes)
      where
        apart : AllByRecursion (λ m. is_eq (node_order new_node m) ≡ false) (touched n.id (inner_after n) w.nodes)
        apart = all_weaker _ _ (λ m none. tie m none) _ (none_found (λ m. same_id new_id m.id) (touched n.id (inner_after n) w.nodes) still_none)
          where
            tie : (m : Node) → same_id new_id m.id ≡ false → is_eq (node_order new_node m) ≡ false
            tie m none = at (node_order new_node m) refl
              where
                at : (o : Ordering) → node_order new_node m ≡ o → is_eq o ≡ false
                at Less is = refl
                at Equal is = absurd (false≢true (sym none ∙ id_equal new_id m.id is))
                at Greater is = refl

            still_none : node_at (touched n.id (inner_after n) w.nodes) new_id ≡ None
            still_none = at (node_at (touched n.id (inner_after n) w.nodes) new_id) (told_found (λ m. true) n (inner_after n) refl new_id w.nodes found ∙ ap (option_map (λ m. true)) none_new) refl
              where
                at : (o : Option Node) → option_map (λ m. true) o ≡ None → node_at (touched n.id (inner_after n) w.nodes) new_id ≡ o → node_at (touched n.id (inner_after n) w.nodes) new_id ≡ None
                at None e is = is
                at (Some m) e is = absurd cc

    all_after : (done : List FirstDir) → HasAll w done → HasAll after (done ++ dir ∷ [])
    all_after done all = record {
      directories = all_push (HasDirectory after) done dir (all_weaker _ _ (λ d has. has_stays d has) done all.directories) has_new;
      order = in_order done all.directories all.order;
      count = omega (arith, counted, all.count, length_push done dir);
    }

    -- the ways with that of the new node
    abbrev way_after : (Id → List (List ℕ)) → Id → List (List ℕ)
    way_after way i = cond (same_id i new_id) (front ++ name ∷ []) (way i)

    way_kept : (way : Id → List (List ℕ)) (i : Id) → same_id i new_id ≡ false → way_after way i ≡ way i
    way_kept way i apart = ap (λ b. cond b (front ++ name ∷ []) (way i)) apart

    way_new : (way : Id → List (List ℕ)) → way_after way new_id ≡ front ++ name ∷ []
    way_new way = ap (λ b. cond b (front ++ name ∷ []) (way new_id)) (id_itself new_id)

    -- both ends of an entry were there
    ends_there : AllByRecursion (λ e. (same_id e.directory new_id ≡ false) × (same_id e.node new_id ≡ false)) w.entries
    ends_there = all_weaker _ _ (λ e joined. both e joined) w.entries (unseal facts.nodes.tree).joined
      where
        is_there : (i : Id) (o : Option Bool) → directory_at w.nodes i ≡ o → is_some o ≡ true → same_id i new_id ≡ false
        is_there i None at some = absurd (false≢true some)
        is_there i (Some b) at some = other_id (λ m. is_directory m.kind) i b at

        both : (e : Entry) → joins (directory_at w.nodes) e ≡ true → (same_id e.directory new_id ≡ false) × (same_id e.node new_id ≡ false)
        both e joined = (is_there e.directory (directory_at w.nodes e.directory) refl (grind arith), is_there e.node (directory_at w.nodes e.node) refl (grind arith))

    steps_after : (way : Id → List (List ℕ)) → way n.id ≡ front → AllByRecursion (IsStep way) w.entries → AllByRecursion (IsStep (way_after way)) after.entries
    steps_after way to steps =
        all_inserted entry_order (IsStep (way_after way)) new_entry w.entries
        (way_new way ∙ ap (λ (ns : List _). ns ++ name ∷ []) (sym to ∙ sym (way_kept way n.id (other_id (λ m. m.label) n.id n.label (label_of-found n.id w.nodes n found)))))
        (all_two _ _ _ (λ e step there. way_kept way e.node there.1 ∙ step ∙ ap (λ (ns : List _). ns ++ e.name ∷ []) (sym (way_kept way e.directory there.0))) w.entries steps ends_there)

    listed_after : (way : Id → List (List ℕ)) (done : List FirstDir)
        → ((text : List ℕ) → has_path done text ≡ false → AllByRecursion (λ e. split slash text ≡ [] ∷ way e.node → ⊥) w.entries)
        → (text : List ℕ) → has_path (done ++ dir ∷ []) text ≡ false → AllByRecursion (λ e. split slash text ≡ [] ∷ way_after way e.node → ⊥) after.entries
    listed_after way done listed text none =
        let parts_none = or_parts (has_path done text) (has_path (dir ∷ []) text) (sym (list_any-append (λ d. bytes_eq d.path text) done (dir ∷ [])) ∙ none) in
        let fresh : bytes_eq dir.path text ≡ false = (or_parts (bytes_eq dir.path text) false parts_none.1).0 in
        all_inserted entry_order _ new_entry w.entries
        (λ e. false≢true (sym fresh ∙ ap (bytes_eq dir.path) (split_same slash text dir.path (e ∙ ap (λ (ns : List _). [] ∷ ns) (way_new way) ∙ sym parts)) ∙ bytes_itself dir.path))
        (all_two _ _ _ (λ x was there. λ e. was (e ∙ ap (λ (ns : List _). [] ∷ ns) (way_kept way x.node there.1))) w.entries (listed text parts_none.0) ends_there)

    made : with_dir dom w dir ≡ after
    made =
        ap (λ (ps : List _). made_at dom w dir (below_root w.entries ps)) parts
        ∙ ap (made_at dom w dir) (led w.entries root front n.id name leads)
        ∙ ap (made_under dom w dir name) found
        ∙ ap (λ b. cond b after w) within

    reached_after : (done : List FirstDir) (reached : Reached dom done w) → reached.way n.id ≡ front → Reached dom (done ++ dir ∷ []) (with_dir dom w dir)
    reached_after done reached to = subst (Reached dom (done ++ dir ∷ [])) (sym made) (record {
      facts = facts_after;
      way = way_after reached.way;
      begins = way_kept reached.way root (other_id (λ m. is_directory m.kind) root true (unseal facts.nodes.tree).begins) ∙ reached.begins;
      steps = steps_after reached.way to reached.steps;
      listed = listed_after reached.way done reached.listed;
      all = all_after done reached.all;
    })

-- the name isn't in the directory
name_absent : (way : Id → List (List ℕ)) (w : World) (i : Id) (front : List (List ℕ)) (name text : List ℕ) → way i ≡ front → split slash text ≡ [] ∷ (front ++ name ∷ [])
    → AllByRecursion (IsStep way) w.entries → AllByRecursion (λ e. split slash text ≡ [] ∷ way e.node → ⊥) w.entries → entry_at w.entries i name ≡ None
name_absent way w i front name text to parts steps listed = of (entry_at w.entries i name) refl
  where
    of : (o : Option Entry) → entry_at w.entries i name ≡ o → o ≡ None
    of None at = refl
    of (Some e) at =
        let found = all_find (λ e. IsStep way e × (split slash text ≡ [] ∷ way e.node → ⊥)) (λ e. same_id i e.directory && bytes_eq e.name name) w.entries e (all_two _ _ _ (λ e a b. (a, b)) w.entries steps listed) at in
        let both = and_parts (same_id i e.directory) (bytes_eq e.name name) found.1 in
        let own : e.directory ≡ i = sym (id_same i e.directory both.0) in
        let here : way e.node ≡ front ++ name ∷ [] = found.0.0 ∙ (λ k. way (own k) ++ bytes_same e.name name both.1 k ∷ []) ∙ ap (λ (ns : List _). ns ++ name ∷ []) to in
        absurd (found.0.1 (parts ∙ ap (λ (ns : List _). [] ∷ ns) (sym here)))

module _ (dom : ℕ → ℕ → Bool) (lattice : IsPreorderWithBottom dom) where
  one_more : (done : List FirstDir) (w : World) (dir : FirstDir) → Reached dom done w → FitsBehind dom done dir → Reached dom (done ++ dir ∷ []) (with_dir dom w dir)
  one_more done w dir reached fits = at path_is.front path_is.name path_is.parts (spot w fits.parent above.0 path_is.front (ap (split slash) (bytes_same fits.parent.path (parent_of dir.path) above.1) ∙ path_is.parent))
    where
      path_is : HasFront dir.path
      path_is = path_parts dir.path fits.path

      above : HasDirectory w fits.parent × (bytes_eq fits.parent.path (parent_of dir.path) ≡ true)
      above = all_find (HasDirectory w) (λ d. bytes_eq d.path (parent_of dir.path)) done fits.parent reached.all.directories fits.there

      at : (front : List (List ℕ)) (name : List ℕ) → split slash dir.path ≡ [] ∷ (front ++ name ∷ []) → Spot w front fits.parent.level → Reached dom (done ++ dir ∷ []) (with_dir dom w dir)
      at front name parts s =
          let to : reached.way s.n.id ≡ front = walk_way reached.way w.entries reached.steps root front s.n.id s.leads ∙ ap (λ (ns : List _). ns ++ front) reached.begins in
          let absent = name_absent reached.way w s.n.id front name dir.path to parts reached.steps (reached.listed dir.path fits.new) in
          let rises : dom dir.level s.n.label ≡ true = ap (dom dir.level) s.label ∙ fits.above in
          reached_after dom lattice w reached.facts dir name s.n s.found s.kind rises absent front s.leads parts done reached to

  all_reached : (dirs done : List FirstDir) (w : World) → AllFit dom done dirs → Reached dom done w → HasAll (fold (with_dir dom) w dirs) (done ++ dirs)
  all_reached [] done w fit reached = subst (HasAll w) (sym (append-nil done)) reached.all
  all_reached (dir ∷ dirs) done w fit reached =
      subst (HasAll (fold (with_dir dom) w (dir ∷ dirs))) (append_assoc done (dir ∷ []) dirs)
      (all_reached dirs (done ++ dir ∷ []) (with_dir dom w dir) fit.1 (one_more done w dir reached fit.0))

  -- the root alone
  root_reached : (stored : Option Stored) → Reached dom (root_dir stored ∷ []) (root_world stored)
  root_reached stored = record {
    facts = root_facts dom lattice stored;
    way = λ i. [];
    begins = refl;
    steps = tt;
    listed = λ text none. tt;
    all = record {
      directories = (record { node = first_directory stored root 0; leads = refl; kind = refl; level = refl; stored = refl }, tt);
      order = (tt, tt);
      count = refl;
    };
  }

  pub all_stand : (stored : Option Stored) (dirs : List FirstDir) → AllFit dom (root_dir stored ∷ []) dirs → HasAll (first_tree dom stored dirs) (root_dir stored ∷ dirs)
  unfolding first_tree
  all_stand stored dirs fit = all_reached dirs (root_dir stored ∷ []) (root_world stored) fit (root_reached stored)
