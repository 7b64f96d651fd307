-- The bounds of the first world: it has directories alone, under names of the policy, and few of them.
use Rattle.std.proofs.Common.{◌≡◌, ◌≤◌, ◌<◌, ◌+◌, ℕ, Bool, true, false, cond, not, ◌&&◌, ◌||◌, List, [], ◌∷◌, ◌++◌, length, map, nat_lt, nat_le, Option, Some, None, Ok, refl, ap, subst, ◌∙◌, arith}
use Rattle.std.specs.Prelude.{◌==◌, codes}
use Rattle.std.specs.Option.{option_and_then, option_map}
use Rattle.std.specs.List.{AllByRecursion, list_all, list_any, fold, find}
use Rattle.std.specs.Str.{bytes_eq, is_utf8}
use Rattle.std.proofs.lemmas.Bool.{and_parts, false≢true}
use Rattle.std.proofs.lemmas.Bool.Decides.{nat_tests}
use Rattle.std.proofs.lemmas.List.{length-map, length_push}
use Rattle.std.proofs.lemmas.List.Elements.{All-from_recursion}
use Rattle.std.proofs.lemmas.Str.{IsUtf8-from_ascii, is_utf8-from_IsUtf8}
use Rattle.std.proofs.lemmas.Str.Ascii.{IsAscii-from_all}
use Rattle.lnfs_calipso.specs.Label.{IsPreorderWithBottom}
use Rattle.lnfs_words.specs.Words.{is_empty, split, slash}
use Rattle.lnfs_words.specs.Paths.{is_name_byte, is_component, are_components, is_path, parent_of}
use Rattle.lnfs_policy.specs.Line.{Line, dir_line}
use Rattle.lnfs_policy.specs.Rows.{dir_in, dirs_of, labels_of}
use Rattle.lnfs_policy.specs.Fits.{fits, is_known, level_at, is_above, dir_fits}
use Rattle.lnfs_policy.specs.Policy.{Policy, dominance}
use Rattle.lnfs_policy.specs.PolicyText.{policy_of}
use Rattle.lnfs_policy.specs.declared.rows.DirLine.{DirLine}
use Rattle.lnfs_policy.proofs.DirLines.{DirsFit, dirs_fit}
use Rattle.lnfs_policy.proofs.Kept.{lines_of}
use Rattle.lnfs_policy.proofs.Site.{preordered}
use Rattle.lnfs_policy.proofs.Tables.{and_some, one_more}
use Rattle.lnfs_world.specs.declared.numbers.TheConstants.{FIRST_COOKIE}
use Rattle.lnfs_world.specs.World.{Id, Kind, Directory, Node, Entry, World, same_id, node_at, node_order, level_order, number_in, last_of}
use Rattle.lnfs_world.specs.Names.{entry_at}
use Rattle.lnfs_world.specs.Tree.{root}
use Rattle.lnfs_world.specs.Change.{apply_all}
use Rattle.lnfs_world.specs.Facts.{Facts}
use Rattle.lnfs_world.specs.Within.{all_within}
use Rattle.lnfs_world.specs.First.{FirstDir, first_directory, root_world, led_to, below_root, made_in, made_under, made_at, with_dir, first_tree}
use Rattle.lnfs_world.proofs.FirstTrees.{root_facts}
use Rattle.lnfs_world.proofs.Lawfulness.{keeps_all}
use Rattle.lnfs_world.proofs.Rows.{all_weaker, all_updated, all_find}
use Rattle.lnfs_world.proofs.Seen.{node_at-id}
use Rattle.lnfs_world.proofs.Sorted.{all_inserted}
use Rattle.lnfs_world.proofs.Within.{within_all}
use Rattle.lnfs_operations.specs.Names.{has_bad_byte, is_dots}
use Rattle.lnfs_operations.specs.Bounds.{InnerBounds, NodeBounds, Bounds, is_well_formed}
use Rattle.lnfs_operations.specs.Sizes.{is_level}
use Rattle.lnfs_operations.proofs.BoundChanges.{AllBring, Within, all_keep}
use Rattle.lnfs_operations.proofs.NodeBounds.{touch_brings}
use Rattle.lnfs_site.specs.Site.{is_limited, site_of, first_label, first_dir, first_world}
use Rattle.lnfs_step.proofs.FirstSizes.{first_sizes}
use Rattle.lnfs_step.proofs.SiteLevels.{first_level}

-- ---- names

name_bytes : (name : List ℕ) → list_all is_name_byte name ≡ true → AllByRecursion (λ b. is_name_byte b ≡ true) name
name_bytes [] all = tt
name_bytes (b ∷ name) all = let both = and_parts (is_name_byte b) (list_all is_name_byte name) all in (both.0, name_bytes name both.1)

name_byte : (b : ℕ) → is_name_byte b ≡ true → (b < 128) × ((b == slash || b == 0) ≡ false)
name_byte b is = (grind (arith, nat_tests, is), grind (arith, nat_tests, is))

no_bad_byte : (name : List ℕ) → AllByRecursion (λ b. is_name_byte b ≡ true) name → has_bad_byte name ≡ false
no_bad_byte [] all = refl
no_bad_byte (b ∷ name) all = λ k. (name_byte b all.0).1 k || no_bad_byte name all.1 k

some_byte : (name : List ℕ) → nat_le 1 (length name) ≡ true → is_empty name ≡ false
some_byte [] some = absurd (false≢true some)
some_byte (b ∷ name) some = refl

-- a name of a path is well formed
component_formed : (name : List ℕ) → is_component name ≡ true → is_well_formed name ≡ true
component_formed name is =
    let a = and_parts _ (not (bytes_eq name (codes ".."))) is in
    let b = and_parts _ (not (bytes_eq name (codes "."))) a.0 in
    let c = and_parts _ (list_all is_name_byte name) b.0 in
    let d = and_parts (nat_le 1 (length name)) _ c.0 in
    let bytes = name_bytes name c.1 in
    let text : is_utf8 name ≡ true = is_utf8-from_IsUtf8 name (IsUtf8-from_ascii name (IsAscii-from_all name (All-from_recursion (λ b. b < 128) name (all_weaker _ _ (λ b is. (name_byte b is).0) name bytes)))) in
    let dots : is_dots name ≡ false = grind (arith, a.1, b.1) in
    λ k. not (some_byte name d.0 k) && (d.1 k && (text k && (not (no_bad_byte name bytes k) && not (dots k))))

-- ---- the name of a directory is one of its path

led_named : (entries : List Entry) (i : Id) (names : List (List ℕ)) (j : Id) (name : List ℕ) → led_to entries i names ≡ Some (j, name) → list_all is_component names ≡ true → is_component name ≡ true
led_named entries i [] j name e all = absurd cc
led_named entries i (own ∷ []) j name e all =
    let pair : (i, own) ≡ (j, name) = cc in
    let same : own ≡ name = ap (λ (x : Id × List ℕ). x.1) pair in
    subst (λ (n : List ℕ). is_component n ≡ true) same (and_parts (is_component own) true all).0
led_named entries i (own ∷ (next ∷ names)) j name e all =
    at (λ x e. led_named entries x (next ∷ names) j name e (and_parts (is_component own) (list_all is_component (next ∷ names)) all).1) (entry_at entries i own) e
  where
    at : ((x : Id) → led_to entries x (next ∷ names) ≡ Some (j, name) → is_component name ≡ true) → (o : Option Entry) → option_and_then (λ (x : Entry). led_to entries x.node (next ∷ names)) o ≡ Some (j, name) → is_component name ≡ true
    at rest None e = absurd cc
    at rest (Some x) e = rest x.node e

below_named : (entries : List Entry) (names : List (List ℕ)) (j : Id) (name : List ℕ) → below_root entries names ≡ Some (j, name) → are_components names ≡ true → is_component name ≡ true
below_named entries [] j name e all = absurd cc
below_named entries (front ∷ names) j name e all =
    let parts = and_parts _ (list_all is_component names) all in
    led_named entries root names j name e parts.1

path_named : (entries : List Entry) (path : List ℕ) (j : Id) (name : List ℕ) → below_root entries (split slash path) ≡ Some (j, name) → is_path path ≡ true → is_well_formed name ≡ true
unfolding is_path
path_named entries path j name e is = component_formed name (below_named entries (split slash path) j name e is)

-- ---- what stands after some of the directories

last_few : (most level : ℕ) (lasts : List Id) → AllByRecursion (λ i. i.number ≤ most) lasts → last_of level lasts ≤ most
last_few most level lasts few = at (find (λ i. i.level == level) lasts) refl
  where
    at : (o : Option Id) → find (λ i. i.level == level) lasts ≡ o → number_in o ≤ most
    at None found = omega arith
    at (Some i) found = (all_find (λ i. i.number ≤ most) (λ i. i.level == level) lasts i few found).0

-- a directory that holds no more names than there are
abbrev IsFew : ℕ → Node → Type 0
IsFew k n = (n.kind ≡ Directory) × (n.inner.cookies ≤ FIRST_COOKIE + k)

module _ (p : Policy) (lattice : IsPreorderWithBottom (dominance p)) where
  record Founded (k : ℕ) (w : World) : Type 0 where
    facts : Facts (dominance p) w
    within : Within (site_of p) w
    nodes : AllByRecursion (IsFew k) w.nodes
    numbers : AllByRecursion (λ i. i.number ≤ 1 + k) w.lasts.nodes

  later : (k : ℕ) (w : World) → Founded k w → Founded (1 + k) w
  later k w is = record {
    facts = is.facts;
    within = is.within;
    nodes = all_weaker _ _ (λ n few. (few.0, omega (arith, few.1))) w.nodes is.nodes;
    numbers = all_weaker _ _ (λ i few. omega (arith, few)) w.lasts.nodes is.numbers;
  }

  module _ (k : ℕ) (room : k ≤ 256) (w : World) (dir : FirstDir) (level : is_level (site_of p) dir.level ≡ true) (name : List ℕ) (named : is_well_formed name ≡ true) (n : Node) (there : node_at w.nodes n.id ≡ Some n) (is : Founded k w) where
    own : NodeBounds (site_of p) n
    own = (all_find (NodeBounds (site_of p)) (λ m. same_id n.id m.id) w.nodes n is.within.rows.nodes there).0

    few : IsFew k n
    few = (all_find (IsFew k) (λ m. same_id n.id m.id) w.nodes n is.nodes there).0

    -- as a directory
    inner : InnerBounds Directory n.inner
    inner = subst (λ (kind : Kind). InnerBounds kind n.inner) few.0 own.inner

    abbrev number : ℕ
    number = last_of n.label w.lasts.nodes + 1

    small : number ≤ 1 + (1 + k)
    small = omega (arith, last_few (1 + k) n.label w.lasts.nodes is.numbers)

    brings : AllBring (site_of p) w (made_in w dir name n)
    brings =
        let after : InnerBounds Directory (record n.inner { cookies = n.inner.cookies + 1 }) = record {
          mode = inner.mode;
          change = inner.change;
          holds = (inner.holds.0, (omega (arith, inner.holds.1.0), omega (arith, few.1, room)));
        } in
        let node : NodeBounds (site_of p) (first_directory dir.stored (record { level = n.label; number = number }) dir.level) = record {
          id = record { level = own.label; number = (omega arith, omega (arith, small, room)) };
          label = level;
          verifier = tt;
          inner = record { mode = omega arith; change = omega arith; holds = (refl, (omega arith, omega arith)) };
        } in (
          touch_brings (site_of p) w n.id (record n.inner { cookies = n.inner.cookies + 1 }) Directory (ap (option_map (λ (m : Node). m.kind)) there ∙ ap Some few.0) after,
          ((node, record { cookie = inner.holds.1.0; name = named }), tt),
        )

    made_stands : all_within (dominance p) n.label w (made_in w dir name n) ≡ true → Founded (1 + k) (apply_all (made_in w dir name n) w)
    made_stands within =
        let may = within_all (dominance p) n.label (made_in w dir name n) w within in
        let before = later k w is in
        record {
          facts = keeps_all (dominance p) lattice n.label (made_in w dir name n) w is.facts may;
          within = all_keep (site_of p) lattice n.label (made_in w dir name n) w is.facts may brings is.within;
          nodes = all_inserted node_order (IsFew (1 + k)) _ _ (refl, omega arith)
              (all_updated (IsFew (1 + k)) (λ x. same_id n.id x.id) (λ x. record x { inner = record n.inner { cookies = n.inner.cookies + 1 } }) w.nodes (λ x same was. (was.0, omega (arith, few.1))) before.nodes);
          numbers = all_inserted level_order (λ i. i.number ≤ 1 + (1 + k)) _ w.lasts.nodes small before.numbers;
        }

  -- a directory that may be made
  abbrev IsDir : FirstDir → Type 0
  IsDir dir = (is_path dir.path ≡ true) × (is_level (site_of p) dir.level ≡ true)

  dir_stands : (k : ℕ) → k ≤ 256 → (w : World) (dir : FirstDir) → IsDir dir → Founded k w → Founded (1 + k) (with_dir (dominance p) w dir)
  dir_stands k room w dir may is = at (below_root w.entries (split slash dir.path)) refl
    where
      chosen : (name : List ℕ) → is_well_formed name ≡ true → (n : Node) (b : Bool) → node_at w.nodes n.id ≡ Some n → all_within (dominance p) n.label w (made_in w dir name n) ≡ b → Founded (1 + k) (cond b (apply_all (made_in w dir name n) w) w)
      chosen name named n true there within = made_stands k room w dir may.1 name named n there is within
      chosen name named n false there within = later k w is

      under : (name : List ℕ) → is_well_formed name ≡ true → (i : Id) (o : Option Node) → node_at w.nodes i ≡ o → Founded (1 + k) (made_under (dominance p) w dir name o)
      under name named i None there = later k w is
      under name named i (Some n) there = chosen name named n (all_within (dominance p) n.label w (made_in w dir name n)) (ap (node_at w.nodes) (node_at-id i w.nodes n there) ∙ there) refl

      at : (o : Option (Id × List ℕ)) → below_root w.entries (split slash dir.path) ≡ o → Founded (1 + k) (made_at (dominance p) w dir o)
      at None led = later k w is
      at (Some (i, name)) led = under name (path_named w.entries dir.path i name led may.0) i (node_at w.nodes i) refl

  dirs_stand : (dirs : List FirstDir) (k : ℕ) (w : World) → k + length dirs ≤ 256 → AllByRecursion IsDir dirs → Founded k w → Within (site_of p) (fold (with_dir (dominance p)) w dirs)
  dirs_stand [] k w room may is = is.within
  dirs_stand (dir ∷ dirs) k w room may is = dirs_stand dirs (1 + k) (with_dir (dominance p) w dir) (omega (arith, room)) may.1 (dir_stands k (omega (arith, room)) w dir may.0 is)

-- ---- the lines of a policy

-- there are few
few_more : (dirs : List DirLine) (o : Option DirLine) → ((d : DirLine) → o ≡ Some d → length dirs < 256) → length dirs ≤ 256 → length (and_some dirs o) ≤ 256
few_more dirs None new few = few
few_more dirs (Some d) new few = omega (arith, length_push dirs d, new d refl)

new_dir : (ls : List Line) (line : Line) (d : DirLine) → fits ls line ≡ true → dir_in line ≡ Some d → length (dirs_of ls) < 256
unfolding dir_fits
new_dir ls (dir_line path level) d fit e =
    let labels = labels_of ls in
    let before = dirs_of ls in
    let x = and_parts _ (is_above labels level (level_at before (parent_of path))) fit in
    let y = and_parts _ (not (list_any (λ d. bytes_eq d.path path) before)) x.0 in
    let z = and_parts _ (is_known labels level) y.0 in
    let t = (and_parts (is_path path) _ z.0).1 in
    grind (arith, nat_tests, t)
new_dir ls line d fit e = absurd (cc)

few_dirs : (p : Policy) (text : List ℕ) → policy_of text ≡ Ok p → length p.dirs ≤ 256
few_dirs p text e =
    let lines = lines_of (λ ls. length (dirs_of ls) ≤ 256) (λ ls ws line few w fit. rw (one_more dir_in ls line) (few_more (dirs_of ls) (dir_in line) (λ d is. new_dir ls line d fit is) few)) text p (omega arith) e in
    subst (λ (x : Policy). length x.dirs ≤ 256) lines.2 lines.1

module _ (p : Policy) (text : List ℕ) (is : policy_of text ≡ Ok p) where
  lattice : IsPreorderWithBottom (dominance p)
  lattice = preordered p

  line_level : (limited : Bool) (level : ℕ) → level < length p.labels → cond limited (cond limited 0 level == 0) (nat_lt (cond limited 0 level) (length p.labels)) ≡ true
  line_level true level below = refl
  line_level false level below = grind (arith, nat_tests, below)

  lines_may : (before lines : List DirLine) → DirsFit p.labels before lines → AllByRecursion (IsDir p lattice) (map (first_dir p) lines)
  lines_may before [] fit = tt
  lines_may before (line ∷ lines) fit = ((fit.0.path, line_level (is_limited p.mode) line.level.0 fit.0.known), lines_may (before ++ line ∷ []) lines fit.1)

  root_within : Within (site_of p) (root_world (first_label p 0))
  root_within = record {
    rows = record {
      clients = tt;
      sessions = tt;
      contexts = tt;
      nodes = (
        record {
          id = record { level = first_level p text is; number = (omega arith, omega arith) };
          label = first_level p text is;
          verifier = tt;
          inner = record { mode = omega arith; change = omega arith; holds = (refl, (omega arith, omega arith)) };
        },
        tt,
      );
      entries = tt;
      opens = tt;
      lasts = record { clients = tt; sessions = tt; contexts = tt; nodes = (record { level = first_level p text is; number = (omega arith, omega arith) }, tt); opens = tt };
    };
    counts = record { clients = λ level. omega arith; sessions = λ level. omega arith; opens = λ level. omega arith; names = λ node. omega arith };
  }

  first_within : Within (site_of p) (first_world p)
  unfolding first_world first_tree
  first_within =
      let few = few_dirs p text is in
      dirs_stand p lattice (map (first_dir p) p.dirs) 0 (root_world (first_label p 0)) (omega (arith, few, length-map p.dirs (first_dir p))) (lines_may [] p.dirs (dirs_fit text p is))
      (record { facts = root_facts (dominance p) lattice (first_label p 0); within = root_within; nodes = ((refl, omega arith), tt); numbers = (omega arith, tt) })

  pub first_bounds : Bounds (site_of p) (first_world p)
  first_bounds = record { sizes = first_sizes p; rows = first_within.rows; counts = first_within.counts }
