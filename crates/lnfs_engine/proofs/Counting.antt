-- What operations do to how many nodes and bytes a level has, and to the totals.
use Rattle.std.proofs.Common.{◌≡◌, ◌+◌, ◌<◌, ◌≤◌, ◌==◌, ℕ, Bool, true, false, cond, not, List, [], ◌∷◌, length, Option, Some, None, refl, sym, ap, ◌∙◌, subst, arith}
use Rattle.std.specs.Prelude.{filter, Result, Ok, Err, IfOk}
use Rattle.std.specs.Option.{option_map}
use Rattle.std.specs.List.{AllByRecursion}
use Rattle.lnfs_calipso.specs.declared.lattice.TheConstants.{MAX_LEVELS}
use Rattle.std.proofs.lemmas.Bool.Decides.{nat_tests}
use Rattle.lnfs_world.specs.Rows.{inserted, Rising}
use Rattle.lnfs_world.specs.World.{Id, Kind, File, Directory, SymbolicLink, Inner, Node, Entry, node_order, same_id, node_at}
use Rattle.lnfs_world.specs.Names.{size_of}
use Rattle.lnfs_world.specs.Usage.{nodes_used, bytes_used, bytes_of}
use Rattle.lnfs_world.specs.Change.{touched}
use Rattle.lnfs_world.proofs.Seen.{node_at-id}
use Rattle.lnfs_world.proofs.Sorted.{rising_updated}
use Rattle.lnfs_quota.specs.declared.quota.Row.{Row}
use Rattle.lnfs_quota.specs.Quota.{row_at, node_charged}
use Rattle.lnfs_quota.specs.Totals.{IsInBounds, AreTotals, home_share, label_share}
use Rattle.lnfs_quota.proofs.Bounded.{bounds_found, bounds_made, bounds_left, bounds_updated, bounds_kept}
use Rattle.lnfs_quota.proofs.Counting.{sum-made, sum-dropped, sum-updated_alike, sum-updated}
use Rattle.lnfs_quota.proofs.Kept.{label_alike, label_empty, charged_levels, sums_of, totals_of, sums-charged}
use Rattle.lnfs_tree.specs.Changed.{Gone}
use Rattle.lnfs_operations.specs.declared.Refusal.{Refusal}
use Rattle.lnfs_nodes.specs.Told.{bytes_in, gone_bytes}
use Rattle.lnfs_nodes.proofs.Going.{bytes_gone}
use Rattle.lnfs_files.specs.Charges.{IsLess, IsListed}
use Rattle.lnfs_engine.specs.Counts.{IsHeld, AreAsMany, IsMore, WentFrom, TakenFrom}

-- ---- what a node counts for

pub record Weight : Type 0 where
  pub label : ℕ
  pub kind : Kind
  pub size : ℕ

abbrev pub weight : Node → Weight
weight n = record { label = n.label; kind = n.kind; size = length n.inner.content }

own_bytes : (n : Node) (k : Kind) → bytes_of n k ≡ bytes_in k (length n.inner.content)
own_bytes n File = refl
own_bytes n Directory = refl
own_bytes n SymbolicLink = refl

-- nodes of one weight count for as much
share_alike : (m n : Node) (level : ℕ) → weight m ≡ weight n → label_share m level ≡ label_share n level
share_alike m n level same = label_alike m n level (ap (λ (w : Weight). w.label) same) (own_bytes m m.kind ∙ ap (λ (w : Weight). bytes_in w.kind w.size) same ∙ sym (own_bytes n n.kind))

-- whatever is told of nodes, where the one that is touched keeps it
module _ {X : Type 0} (f : Node → X) (d : Id) (inner : Inner) where
  told_touched : (i : Id) (nodes : List Node) → ((m : Node) → node_at nodes d ≡ Some m → f (record m { inner = inner }) ≡ f m) → option_map f (node_at (touched d inner nodes) i) ≡ option_map f (node_at nodes i)
  told_touched i [] same = refl
  told_touched i (x ∷ xs) same = at (same_id d x.id) same (told_touched i xs)
    where
      first : (b : Bool) → f (record x { inner = inner }) ≡ f x → option_map f (cond b (Some (record x { inner = inner })) (node_at xs i)) ≡ option_map f (cond b (Some x) (node_at xs i))
      first true alike = ap Some alike
      first false alike = refl

      behind : (b : Bool) → option_map f (node_at (touched d inner xs) i) ≡ option_map f (node_at xs i) → option_map f (cond b (Some x) (node_at (touched d inner xs) i)) ≡ option_map f (cond b (Some x) (node_at xs i))
      behind true alike = refl
      behind false alike = alike

      at : (b : Bool) → ((m : Node) → cond b (Some x) (node_at xs d) ≡ Some m → f (record m { inner = inner }) ≡ f m) → (((m : Node) → node_at xs d ≡ Some m → f (record m { inner = inner }) ≡ f m) → option_map f (node_at (touched d inner xs) i) ≡ option_map f (node_at xs i)) →
          option_map f (node_at (cond b (record x { inner = inner } ∷ xs) (x ∷ touched d inner xs)) i) ≡ option_map f (cond (same_id i x.id) (Some x) (node_at xs i))
      at true same rest = first (same_id i x.id) (same x refl)
      at false same rest = behind (same_id i x.id) (rest same)

-- ---- nodes of which some are touched

pub record Touched (before after : List Node) : Type 0 where
  pub many : AreAsMany before after
  pub weights : (i : Id) → option_map weight (node_at after i) ≡ option_map weight (node_at before i)
  pub rise : Rising node_order after

module _ (nodes : List Node) where
  pub as_many : AreAsMany nodes nodes
  as_many = record { nodes = λ level. refl; bytes = λ level. refl; bounds = λ all. all }

  pub untouched : Rising node_order nodes → Touched nodes nodes
  untouched rise = record { many = as_many; weights = λ i. refl; rise = rise }

  -- what is found afterwards weighs what was there
  same_weight : (after : List Node) (i : Id) (m n : Node) → Touched nodes after → node_at after i ≡ Some m → node_at nodes i ≡ Some n → weight m ≡ weight n
  same_weight after i m n t found there = some_same (weight m) (weight n) (sym (ap (option_map weight) found) ∙ t.weights i ∙ ap (option_map weight) there)
    where
      some_same : (a b : Weight) → Some a ≡ Some b → a ≡ b
      some_same a b is = cc

  -- the content keeps its length
  pub touch : (after : List Node) (n : Node) (inner : Inner) → node_at nodes n.id ≡ Some n → length inner.content ≡ length n.inner.content → Touched nodes after → Touched nodes (touched n.id inner after)
  touch after n inner there content t = record {
    many = record {
      nodes = λ level. sum-updated_alike (λ m. home_share m level) renew n.id after (λ x. refl) ∙ t.many.nodes level;
      bytes = λ level. at level (node_at after n.id) refl (t.weights n.id ∙ ap (option_map weight) there) ∙ t.many.bytes level;
      bounds = λ all. in_bounds (t.many.bounds all) (node_at after n.id) refl (t.weights n.id ∙ ap (option_map weight) there);
    };
    weights = λ i. told_touched weight n.id inner i after light ∙ t.weights i;
    rise = rising_updated node_order _ _ (λ x y. refl) (λ x y. refl) after t.rise;
  }
    where
      renew : Node → Node
      renew m = record m { inner = inner }

      light : (m : Node) → node_at after n.id ≡ Some m → weight (renew m) ≡ weight m
      light m found =
          let size : length inner.content ≡ length m.inner.content = content ∙ sym (ap (λ (w : Weight). w.size) (same_weight after n.id m n t found there)) in
          λ i. record { label = m.label; kind = m.kind; size = size i }

      same_bytes : (m : Node) → node_at after n.id ≡ Some m → bytes_of (renew m) m.kind ≡ bytes_of m m.kind
      same_bytes m found = own_bytes (renew m) m.kind ∙ ap (λ (w : Weight). bytes_in m.kind w.size) (light m found) ∙ sym (own_bytes m m.kind)

      in_bounds : AllByRecursion IsInBounds after → (o : Option Node) → node_at after n.id ≡ o → option_map weight o ≡ Some (weight n) → AllByRecursion IsInBounds (touched n.id inner after)
      in_bounds all None none weighs = absurd cc
      in_bounds all (Some m) found weighs = bounds_updated renew n.id m after found (bounds_kept m inner (bounds_found n.id m after all found) (same_bytes m found)) all

      at : (level : ℕ) (o : Option Node) → node_at after n.id ≡ o → option_map weight o ≡ Some (weight n) → bytes_used (touched n.id inner after) level ≡ bytes_used after level
      at level None none weighs = absurd cc
      at level (Some m) found weighs =
          let sum : bytes_used (touched n.id inner after) level + label_share m level ≡ bytes_used after level + label_share (renew m) level = sum-updated (λ x. label_share x level) renew n.id m after found in
          let alike : label_share (renew m) level ≡ label_share m level = share_alike (renew m) m level (light m found) in
          omega arith

  -- one goes
  pub dropped : (after : List Node) (entries : List Entry) (i : Id) (n : Node) → node_at nodes i ≡ Some n → Touched nodes after →
      IsLess i.level n.label (bytes_in n.kind (size_of entries n n.kind)) nodes (filter (λ x. not (same_id i x.id)) after)
  dropped after entries i n there t = record {
    less_nodes = λ level. home level (node_at after i) refl weighs;
    less_bytes = λ level. label level (node_at after i) refl weighs;
    bounds = λ all. bounds_left (λ x. not (same_id i x.id)) after (t.many.bounds all);
    home_listed = λ all. subst (λ (j : Id). IsListed j.level) (node_at-id i nodes n there) (bounds_found i n nodes all there).home;
    label_listed = λ all. (bounds_found i n nodes all there).label;
  }
    where
      left : List Node
      left = filter (λ x. not (same_id i x.id)) after

      weighs : option_map weight (node_at after i) ≡ Some (weight n)
      weighs = t.weights i ∙ ap (option_map weight) there

      home : (level : ℕ) (o : Option Node) → node_at after i ≡ o → option_map weight o ≡ Some (weight n) → nodes_used left level + cond (i.level == level) 1 0 ≡ nodes_used nodes level
      home level None none weighs = absurd cc
      home level (Some m) found weighs =
          let less : nodes_used left level + home_share m level ≡ nodes_used after level = sum-dropped (λ x. home_share x level) i m after t.rise found in
          ap (λ (j : Id). nodes_used left level + cond (j.level == level) 1 0) (sym (node_at-id i after m found)) ∙ less ∙ t.many.nodes level

      label : (level : ℕ) (o : Option Node) → node_at after i ≡ o → option_map weight o ≡ Some (weight n) → bytes_used left level + cond (n.label == level) (bytes_in n.kind (size_of entries n n.kind)) 0 ≡ bytes_used nodes level
      label level None none weighs = absurd cc
      label level (Some m) found weighs =
          let less : bytes_used left level + label_share m level ≡ bytes_used after level = sum-dropped (λ x. label_share x level) i m after t.rise found in
          ap (λ (k : ℕ). bytes_used left level + cond (n.label == level) k 0) (bytes_gone entries n n.kind)
          ∙ ap (λ (k : ℕ). bytes_used left level + k) (sym (share_alike m n level (same_weight after i m n t found there))) ∙ less ∙ t.many.bytes level

  -- one is made
  pub made : (after : List Node) (n : Node) → node_at nodes n.id ≡ None → bytes_of n n.kind ≡ 0 → (AllByRecursion IsInBounds nodes → IsInBounds n) → Touched nodes after → IsMore n.id.level nodes (inserted node_order n after)
  made after n absent light bounds t = record {
    nodes = λ level. sum-made (λ m. home_share m level) n after nothing ∙ ap (λ (k : ℕ). k + home_share n level) (t.many.nodes level);
    bytes = λ level.
        let sum : bytes_used (inserted node_order n after) level ≡ bytes_used after level + label_share n level = sum-made (λ m. label_share m level) n after nothing in
        let none : label_share n level ≡ 0 = label_empty n level light in
        let before : bytes_used after level ≡ bytes_used nodes level = t.many.bytes level in
        omega arith;
    bounds = λ all. bounds_made n after (bounds all) (t.many.bounds all);
    listed = λ all. (bounds all).home;
  }
    where
      at : (o : Option Node) → option_map weight o ≡ None → o ≡ None
      at None none = refl
      at (Some m) none = absurd cc

      nothing : node_at after n.id ≡ None
      nothing = at (node_at after n.id) (t.weights n.id ∙ ap (option_map weight) absent)

-- ---- the totals

module _ (rows : List Row) (before after : List Node) (counts : AreTotals rows before) where
  pub many_counts : AreAsMany before after → AreTotals rows after
  many_counts many = record {
    levels = counts.levels;
    homes = λ level. counts.homes level ∙ sym (many.nodes level);
    labels = λ level. counts.labels level ∙ sym (many.bytes level);
    bounds = many.bounds counts.bounds;
  }

  -- a level that a policy may list has a row
  pub has_row : (level : ℕ) → IsListed level → level < length rows
  has_row level listed = let many : length rows ≡ MAX_LEVELS = counts.levels in let below : level < MAX_LEVELS = listed in omega arith

  pub more_counts : (home : ℕ) → IsMore home before after → AreTotals (node_charged rows home) after
  more_counts home more = totals_of after (sums-charged (sums_of counts) home (nodes_used after) (has_row home (more.listed counts.bounds)) more.nodes) (λ level. refl) more.bytes
      (charged_levels rows home ∙ counts.levels) (more.bounds counts.bounds)

  -- what went was counted
  pub went_held : (gone : Option Gone) → WentFrom gone before after → IsHeld rows gone
  went_held None went = tt
  went_held (Some g) went = ((has_row home (went.home_listed counts.bounds), node), (has_row g.label (went.label_listed counts.bounds), bytes))
    where
      home : ℕ
      home = g.node.level

      node : 0 < (row_at rows home).nodes
      node =
          let sum : nodes_used after home + cond (home == home) 1 0 ≡ nodes_used before home = went.less_nodes home in
          let total : (row_at rows home).nodes ≡ nodes_used before home = counts.homes home in
          grind (arith, nat_tests, sum, total)

      bytes : gone_bytes g ≤ (row_at rows g.label).bytes
      bytes =
          let sum : bytes_used after g.label + cond (g.label == g.label) (gone_bytes g) 0 ≡ bytes_used before g.label = went.less_bytes g.label in
          let total : (row_at rows g.label).bytes ≡ bytes_used before g.label = counts.labels g.label in
          grind (arith, nat_tests, sum, total)

  pub taken_held : {A : Type 0} (gone : A → Option Gone) (found : Result A Refusal) → TakenFrom gone found before after → IfOk found (λ a. IsHeld rows (gone a))
  taken_held gone (Ok a) went = went_held (gone a) went
  taken_held gone (Err why) went = tt
