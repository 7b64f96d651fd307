-- The lists of a server can be made of each fit world.
use Rattle.std.proofs.Common.{◌≡◌, ◌<◌, ◌≤◌, ◌==◌, ℕ, Bool, true, false, cond, List, Option, Some, None, length, nat_lt, refl, sym, subst, arith}
use Rattle.std.specs.Prelude.{◌^◌, is_some, option_map}
use Rattle.std.specs.List.{AllByRecursion}
use Rattle.std.proofs.lemmas.Bool.{false≢true, and_parts, ltb-true, eqb-true}
use Rattle.lnfs_calipso.specs.declared.lattice.TheConstants.{MAX_LEVELS}
use Rattle.lnfs_policy.specs.Policy.{Policy}
use Rattle.lnfs_policy.specs.PolicyText.{IsPolicy}
use Rattle.lnfs_world.specs.Rows.{Rising}
use Rattle.lnfs_world.specs.World.{Id, Client, Kind, File, Directory, SymbolicLink, Inner, Node, World, same_id, is_given, client_at, node_at, label_at, directory_at}
use Rattle.lnfs_world.specs.Usage.{bytes_of}
use Rattle.lnfs_world.specs.Tree.{Sealed, Tree}
use Rattle.lnfs_world.specs.Facts.{has_confirmed, is_confirmed}
use Rattle.lnfs_world.specs.Outcome.{Site}
use Rattle.lnfs_world.specs.declared.numbers.TheConstants.{LAST_NUMBER, MOST_FILE}
use Rattle.lnfs_world.proofs.Rows.{all_weaker, all_find}
use Rattle.lnfs_world.proofs.Keys.{id_same}
use Rattle.lnfs_operations.specs.Sizes.{IsBetween, is_level}
use Rattle.lnfs_operations.specs.Bounds.{IsSound, IsGivenBy, NodeBounds, OpenBounds}
use Rattle.lnfs_operations.specs.Bounds as bounds
use Rattle.lnfs_site.specs.Site.{site_of}
use Rattle.lnfs_counts.specs.Counters.{FitsCounter}
use Rattle.lnfs_counts.specs.Counted.{AreNumbered, order_by}
use Rattle.lnfs_quota.specs.Totals.{IsInBounds}
use Rattle.lnfs_session.specs.Standing.{lists_of}
use Rattle.lnfs_session.specs.Makes.{MakesClients}
use Rattle.lnfs_tree.specs.Makes.{HoldsBy, IsStorable, MakesTree}
use Rattle.lnfs_tree.specs.Rows.{rows_of}
use Rattle.lnfs_open.specs.Makes.{MakesOpens}
use Rattle.lnfs_gss3.specs.Makes.{MakesContexts}
use Rattle.lnfs_locks.specs.Locks.{Locks}
use Rattle.lnfs_checkpoint.specs.Checkpoint.{IsFit}
use Rattle.lnfs_checkpoint.specs.Made.{CanBeMade}
use Rattle.lnfs_checkpoint.proofs.ParentNumbers.{parent_is_short}

-- ---- levels and numbers

some_levels : 0 < MAX_LEVELS
some_levels = let below : 0 < 32 = omega arith in below

few_levels : (level : ℕ) → level < MAX_LEVELS → level < 2 ^ 32
few_levels level less = let below : level < 32 = less in omega (arith, below)

module _ (site : Site) (few : site.levels ≤ MAX_LEVELS) where
  below : (level : ℕ) → is_level site level ≡ true → level < MAX_LEVELS
  below level is = at site.limited is
    where
      at : (limited : Bool) → cond limited (level == 0) (nat_lt level site.levels) ≡ true → level < MAX_LEVELS
      at true is = subst (λ (n : ℕ). n < MAX_LEVELS) (sym (eqb-true level 0 is)) some_levels
      at false is = let less = ltb-true level site.levels is in omega (arith, less, few)

  short : (level : ℕ) → is_level site level ≡ true → level < 2 ^ 32
  short level is = few_levels level (below level is)

  given_fits : (i : Id) → IsGivenBy site i → FitsCounter i
  given_fits i given = record { level = short i.level given.level; number = given.number.1 }

  numbered : {X : Type 0} (id : X → Id) (rows : List X) (lasts : List Id) → Rising (order_by id) rows → AllByRecursion (λ x. is_given lasts (id x) ≡ true) rows → AllByRecursion (λ x. IsGivenBy site (id x)) rows → AllByRecursion (IsGivenBy site) lasts → AreNumbered id rows lasts
  numbered id rows lasts rise given of_site lasts_given = record {
    rise = rise;
    given = given;
    numbers = all_weaker _ _ (λ x is. is.number.0) rows of_site;
    fits = all_weaker _ _ given_fits lasts lasts_given;
  }

  -- ---- nodes

  holds : (kind : Kind) (inner : Inner) → bounds.HoldsBy kind inner → HoldsBy kind inner.content
  holds File inner h = h.0
  holds Directory inner h = h.0
  holds SymbolicLink inner h = tt

  storable : (n : Node) → NodeBounds site n → IsStorable n
  storable n is = record { number = is.id.number.1; content = holds n.kind n.inner is.inner.holds }

  few_bytes : (n : Node) (kind : Kind) → bounds.HoldsBy kind n.inner → bytes_of n kind ≤ MOST_FILE
  few_bytes n File h = h.0
  few_bytes n Directory h = omega arith
  few_bytes n SymbolicLink h = omega arith

  in_bounds : (n : Node) → NodeBounds site n → IsInBounds n
  in_bounds n is = record {
    home = below n.id.level is.id.level;
    label = below n.label is.label;
    bytes = few_bytes n n.kind is.inner.holds;
    number = λ some. is.id.number.1;
  }

  -- ---- what others name

  -- a client that is there has a number that a level gives
  behind_number : (clients : List Client) → AllByRecursion (λ c. IsBetween 1 LAST_NUMBER c.id.number) clients → (level number : ℕ) → has_confirmed clients level number ≡ true → number ≤ LAST_NUMBER
  behind_number clients numbers level number behind = by (client_at clients i) refl behind
    where
      i : Id
      i = record { level = level; number = number }

      by : (o : Option Client) → client_at clients i ≡ o → is_confirmed o ≡ true → number ≤ LAST_NUMBER
      by None is there = absurd (false≢true there)
      by (Some c) is there =
          let found = all_find _ (λ x. same_id i x.id) clients c numbers is in
          subst (λ (j : Id). j.number ≤ LAST_NUMBER) (sym (id_same i c.id found.1)) found.0.1

  -- and so has a node
  node_number : (nodes : List Node) → AllByRecursion (NodeBounds site) nodes → (i : Id) → is_some (label_at nodes i) ≡ true → i.number ≤ LAST_NUMBER
  node_number nodes all i there = by (node_at nodes i) refl there
    where
      by : (o : Option Node) → node_at nodes i ≡ o → is_some (option_map (λ n. n.label) o) ≡ true → i.number ≤ LAST_NUMBER
      by None is there = absurd (false≢true there)
      by (Some n) is there =
          let found = all_find (NodeBounds site) (λ m. same_id i m.id) nodes n all is in
          subst (λ (j : Id). j.number ≤ LAST_NUMBER) (sym (id_same i n.id found.1)) found.0.id.number.1

  -- ---- each list

  module _ (w : World) (sound : IsSound site w) where
    joined : Tree (directory_at w.nodes) w.entries
    unfolding Sealed
    joined = sound.facts.nodes.tree

    client_numbers : AllByRecursion (λ c. IsBetween 1 LAST_NUMBER c.id.number) w.clients
    client_numbers = all_weaker _ _ (λ c is. is.id.number) w.clients sound.bounds.rows.clients

    makes_clients : MakesClients (lists_of w)
    makes_clients = record {
      records = record {
        facts = sound.facts.clients;
        numbers = client_numbers;
        fits = all_weaker _ _ given_fits w.lasts.clients sound.bounds.rows.lasts.clients;
      };
      sessions = record {
        rise = sound.facts.sessions.rise;
        given = sound.facts.sessions.given;
        numbers = all_weaker _ _ (λ x is. is.id.number) w.sessions sound.bounds.rows.sessions;
        clients = all_weaker _ _ (λ x behind. behind_number w.clients client_numbers x.id.level x.client behind) w.sessions sound.facts.sessions.behind;
        fits = all_weaker _ _ given_fits w.lasts.sessions sound.bounds.rows.lasts.sessions;
      };
    }

    makes_tree : MakesTree (rows_of w)
    makes_tree = record {
      nodes = record { rise = sound.facts.nodes.rise; storable = all_weaker _ _ storable w.nodes sound.bounds.rows.nodes };
      names = record {
        rise = sound.facts.nodes.entries_rise;
        apart = sound.facts.nodes.names;
        joined = joined.joined;
        few = sound.bounds.counts.names;
      };
      lasts = all_weaker _ _ (λ i given. record { level = short i.level given.level; number = given.number.1 }) w.lasts.nodes sound.bounds.rows.lasts.nodes;
    }

    makes_opens : MakesOpens w.opens w.lasts.opens
    makes_opens = record {
      numbered = numbered (λ o. o.id) w.opens w.lasts.opens sound.facts.opens.rise sound.facts.opens.given (all_weaker _ _ (λ o is. is.id) w.opens sound.bounds.rows.opens) sound.bounds.rows.lasts.opens;
      apart = sound.facts.opens.apart;
      clients = all_weaker _ _ (λ o behind. behind_number w.clients client_numbers o.id.level o.client behind) w.opens sound.facts.opens.behind;
      nodes = all_weaker _ _ (λ o good. node_number w.nodes sound.bounds.rows.nodes o.node (and_parts (site.dom o.id.level o.node.level) (is_some (label_at w.nodes o.node)) good).1) w.opens sound.facts.opens.nodes;
    }

    counted : AllByRecursion IsInBounds w.nodes
    counted = all_weaker _ _ in_bounds w.nodes sound.bounds.rows.nodes

module _ (p : Policy) (is : IsPolicy p) (few : length p.labels ≤ MAX_LEVELS) (w : World) (own : Locks) (fit : IsFit p w own) where
  makes_contexts : MakesContexts w.contexts w.lasts.contexts
  makes_contexts = record {
    numbered = numbered (site_of p) few (λ x. x.id) w.contexts w.lasts.contexts fit.sound.facts.contexts.rise fit.sound.facts.contexts.given fit.sound.bounds.rows.contexts fit.sound.bounds.rows.lasts.contexts;
    parents = all_weaker _ _ (λ x known. parent_is_short p is x.parent known) w.contexts fit.contexts.parents;
  }

  pub can_be_made : CanBeMade w
  can_be_made = record {
    clients = makes_clients (site_of p) few w fit.sound;
    tree = makes_tree (site_of p) few w fit.sound;
    opens = makes_opens (site_of p) few w fit.sound;
    contexts = makes_contexts;
    counted = counted (site_of p) few w fit.sound;
  }
