-- What a level that dominates the subject sees after a change is determined by what it saw before.
use Rattle.std.proofs.Common.{◌≡◌, ℕ, Bool, true, not, List, Option, Some, None, refl, sym, ◌∙◌, ap, arith}
use Rattle.std.specs.Prelude.{filter}
use Rattle.std.specs.List.{AllByRecursion}
use Rattle.std.proofs.lemmas.Bool.Decides.{nat_tests}
use Rattle.lnfs_calipso.specs.Label.{IsPreorderWithBottom}
use Rattle.lnfs_world.specs.Rows.{inserted, Rising, kept}
use Rattle.lnfs_world.specs.World.{Id, Inner, Node, Entry, Lasts, World, id_order, node_order, entry_order, level_order, same_id, label_at}
use Rattle.lnfs_world.specs.Erased.{sees, erased, lasts_seen}
use Rattle.lnfs_world.specs.Tree.{same_entry}
use Rattle.lnfs_world.specs.Change.{Change, AddClient, SetClient, DropClient, AddSession, SetSession, DropSession, AddContext, DropContext, Make, Touch, Relabel, Link, Unlink, Drop, Move, AddOpen, SetOpen, EndOpen, apply, touched, relabelled, without_entry, is_session_of, is_open_of}
use Rattle.lnfs_world.specs.Facts.{Facts, NodeFacts, is_good_entry}
use Rattle.lnfs_world.proofs.Within.{IsWithin, IsNew}
use Rattle.lnfs_world.proofs.Rows.{kept_twice, kept_within, kept_agree, updated_seen, filter_seen, filter_within, all_anyway, all_weaker}
use Rattle.lnfs_world.proofs.Sorted.{inserted_seen, inserted_within, rising_filter, rising_kept}
use Rattle.lnfs_world.proofs.Keys.{id_equal, id_before, level_same, level_equal, level_before, entry_place, entry_before}
use Rattle.lnfs_world.proofs.Nodes.{label_at-touched, label_at-relabelled, label_at-made, label_at-dropped, nodes_seen, shrunk_twice, sees-seen}

pub lasts_same : (a b : Lasts) → a.clients ≡ b.clients → a.sessions ≡ b.sessions → a.contexts ≡ b.contexts → a.nodes ≡ b.nodes → a.opens ≡ b.opens → a ≡ b
lasts_same a b c s x n o = λ i. record { clients = c i; sessions = s i; contexts = x i; nodes = n i; opens = o i }

pub world_same : (a b : World) → a.clients ≡ b.clients → a.sessions ≡ b.sessions → a.contexts ≡ b.contexts → a.nodes ≡ b.nodes → a.entries ≡ b.entries → a.opens ≡ b.opens → a.lasts ≡ b.lasts → a ≡ b
world_same a b c s x n e o l = λ i. record { clients = c i; sessions = s i; contexts = x i; nodes = n i; entries = e i; opens = o i; lasts = l i }

-- nothing of a new identifier is there: its number is above the last
pub new_absent : (dom : ℕ → ℕ → Bool) (s : ℕ) (nodes : List Node) (entries : List Entry) (lasts : List Id) → NodeFacts dom nodes entries lasts → (i : Id) → IsNew s lasts i → label_at nodes i ≡ None
new_absent dom s nodes entries lasts facts i new = at (label_at nodes i) refl
  where
    at : (o : Option ℕ) → label_at nodes i ≡ o → label_at nodes i ≡ None
    at None is = is
    at (Some l) is = absurd (let given = facts.given i l is in let own = new.own in let above = new.above in grind (arith, nat_tests))

module _ (dom : ℕ → ℕ → Bool) (level : ℕ) where
  -- rows whose keys show whether they are seen
  again : {X : Type 0} → (p : X → Bool) (xs : List X) → kept p (λ x. x) xs ≡ kept p (λ x. x) (kept p (λ x. x) xs)
  again p xs = sym (kept_twice p (λ x. x) p (λ x. x) (λ x e. e) (λ x. refl) (λ x. refl) xs)

  -- a row that is set, whose identifier shows whether it is seen
  row_seen : {X : Type 0} (key : X → Id) (row : X) (xs : List X) → Rising (λ a b. id_order (key a) (key b)) xs → kept (λ x. dom level (key x).level) (λ x. x) (inserted (λ a b. id_order (key a) (key b)) row xs) ≡ kept (λ x. dom level (key x).level) (λ x. x) (inserted (λ a b. id_order (key a) (key b)) row (kept (λ x. dom level (key x).level) (λ x. x) xs))
  row_seen key row xs rising = inserted_seen (λ a b. id_order (key a) (key b)) _ _ row (λ x e. level_same dom level (key row) (key x) (id_equal (key row) (key x) e)) (λ x. refl) (λ x. refl) (λ x. refl) (λ a b. id_before (key row) (key a) (key b)) xs rising

  last_seen : (i : Id) (lasts : List Id) → Rising level_order lasts → lasts_seen dom level (inserted level_order i lasts) ≡ lasts_seen dom level (inserted level_order i (lasts_seen dom level lasts))
  last_seen i lasts rising = inserted_seen level_order _ _ i (λ x e. ap (dom level) (sym (level_equal i x e))) (λ x. refl) (λ x. refl) (λ x. refl) (λ a b. level_before i a b) lasts rising

  rows_left : {X : Type 0} (p q : X → Bool) (xs : List X) → kept p (λ x. x) (filter q xs) ≡ kept p (λ x. x) (filter q (kept p (λ x. x) xs))
  rows_left p q xs = filter_seen p (λ x. x) q (λ x. refl) (λ x. refl) (λ x. refl) xs

  abbrev all_lasts : Lasts → Lasts
  all_lasts l = record { clients = lasts_seen dom level l.clients; sessions = lasts_seen dom level l.sessions; contexts = lasts_seen dom level l.contexts; nodes = lasts_seen dom level l.nodes; opens = lasts_seen dom level l.opens }

  lasts_again : (l : Lasts) → all_lasts l ≡ all_lasts (all_lasts l)
  lasts_again l = lasts_same _ _ (again _ l.clients) (again _ l.sessions) (again _ l.contexts) (again _ l.nodes) (again _ l.opens)

  pub nodes_again : (nodes : List Node) → nodes_seen dom level nodes ≡ nodes_seen dom level (nodes_seen dom level nodes)
  nodes_again nodes = sym (kept_twice _ _ _ _ (λ x e. e) (λ x. refl) (shrunk_twice dom level) nodes)

  nodes_touched : (i : Id) (inner : Inner) (nodes : List Node) → nodes_seen dom level (touched i inner nodes) ≡ nodes_seen dom level (touched i inner (nodes_seen dom level nodes))
  nodes_touched i inner nodes = updated_seen _ _ (λ n. same_id i n.id) (λ n. record n { inner = inner }) (dom level i.level) (λ n e. level_same dom level i n.id e) (λ n. refl) (λ n. refl) (shrunk_twice dom level) (λ n. refl) (λ n. refl) nodes

  nodes_relabelled : (i : Id) (label : ℕ) (inner : Inner) (nodes : List Node) → nodes_seen dom level (relabelled i label inner nodes) ≡ nodes_seen dom level (relabelled i label inner (nodes_seen dom level nodes))
  nodes_relabelled i label inner nodes = updated_seen _ _ (λ n. same_id i n.id) (λ n. record n { label = label; inner = inner }) (dom level i.level) (λ n e. level_same dom level i n.id e) (λ n. refl) (λ n. refl) (shrunk_twice dom level) (λ n. refl) (λ n. refl) nodes

  nodes_made : (n : Node) (nodes : List Node) → Rising node_order nodes → nodes_seen dom level (inserted node_order n nodes) ≡ nodes_seen dom level (inserted node_order n (nodes_seen dom level nodes))
  nodes_made n nodes rising = inserted_seen node_order _ _ n (λ x e. level_same dom level n.id x.id (id_equal n.id x.id e)) (λ x. refl) (shrunk_twice dom level) (λ x. refl) (λ a b. id_before n.id a.id b.id) nodes rising

  nodes_dropped : (i : Id) (nodes : List Node) → nodes_seen dom level (filter (λ n. not (same_id i n.id)) nodes) ≡ nodes_seen dom level (filter (λ n. not (same_id i n.id)) (nodes_seen dom level nodes))
  nodes_dropped i nodes = filter_seen _ _ (λ n. not (same_id i n.id)) (λ n. refl) (shrunk_twice dom level) (λ n. refl) nodes

  -- nodes that look the same show the same entries
  sees_same : (nodes other : List Node) → nodes_seen dom level nodes ≡ nodes_seen dom level other → (i : Id) → sees dom level nodes i ≡ sees dom level other i
  sees_same nodes other e i = sym (sees-seen dom level i nodes) ∙ ap (λ ns. sees dom level ns i) e ∙ sees-seen dom level i other

  abbrev pub entries_seen : List Node → List Entry → List Entry
  entries_seen nodes entries = kept (λ e. sees dom level nodes e.directory) (λ e. e) entries

  pub entries_agree : (nodes other : List Node) → ((i : Id) → sees dom level nodes i ≡ sees dom level other i) → (entries : List Entry) → entries_seen nodes entries ≡ entries_seen other entries
  entries_agree nodes other same entries = kept_agree _ _ _ entries (all_anyway _ (λ e. same e.directory) entries)

  -- an entry is seen afterwards only where it was seen before
  abbrev Fewer : List Node → List Node → List Entry → Type 0
  Fewer after before entries = AllByRecursion (λ e. sees dom level after e.directory ≡ true → sees dom level before e.directory ≡ true) entries

  entries_stay : (after before other : List Node) (entries : List Entry) → nodes_seen dom level after ≡ nodes_seen dom level other → Fewer after before entries → entries_seen after entries ≡ entries_seen other (entries_seen before entries)
  entries_stay after before other entries e fewer = sym (kept_within _ _ _ _ (λ x. refl) (λ x. refl) entries fewer) ∙ entries_agree after other (sees_same after other e) (entries_seen before entries)

  entries_again : (nodes : List Node) (entries : List Entry) → entries_seen nodes entries ≡ entries_seen (nodes_seen dom level nodes) (entries_seen nodes entries)
  entries_again nodes entries = entries_stay nodes nodes (nodes_seen dom level nodes) entries (nodes_again nodes) (all_anyway _ (λ e h. h) entries)

  entries_added : (after before other : List Node) (entries : List Entry) (entry : Entry) → nodes_seen dom level after ≡ nodes_seen dom level other → Rising entry_order entries → Fewer after before entries → entries_seen after (inserted entry_order entry entries) ≡ entries_seen other (inserted entry_order entry (entries_seen before entries))
  entries_added after before other entries entry e rising fewer =
      inserted_within entry_order (λ x. sees dom level after x.directory) (λ x. sees dom level before x.directory) entry (λ x tie. ap (sees dom level after) (sym (entry_place entry x tie).0)) (λ a b. entry_before entry a b) entries rising fewer
      ∙ entries_agree after other (sees_same after other e) (inserted entry_order entry (entries_seen before entries))

  entries_filtered : (after before other : List Node) (entries : List Entry) (q : Entry → Bool) → nodes_seen dom level after ≡ nodes_seen dom level other → Fewer after before entries → entries_seen after (filter q entries) ≡ entries_seen other (filter q (entries_seen before entries))
  entries_filtered after before other entries q e fewer =
      filter_within _ _ _ _ q (λ x. refl) (λ x. refl) (λ x. refl) entries fewer
      ∙ entries_agree after other (sees_same after other e) (filter q (entries_seen before entries))

  entries_moved : (nodes : List Node) (entries : List Entry) (entry other : Entry) → Rising entry_order entries → entries_seen nodes (inserted entry_order other (without_entry entry entries)) ≡ entries_seen (nodes_seen dom level nodes) (inserted entry_order other (without_entry entry (entries_seen nodes entries)))
  entries_moved nodes entries entry other rising =
      let seen = λ (x : Entry). sees dom level nodes x.directory in
      let set = λ (xs : List Entry) (r : Rising entry_order xs). inserted_seen entry_order seen (λ x. x) other (λ x tie. ap (sees dom level nodes) (sym (entry_place other x tie).0)) (λ x. refl) (λ x. refl) (λ x. refl) (λ a b. entry_before other a b) xs r in
      set (without_entry entry entries) (rising_filter entry_order _ entries rising)
      ∙ ap (λ xs. kept seen (λ x. x) (inserted entry_order other xs)) (rows_left seen (λ e. not (same_entry entry e)) entries)
      ∙ sym (set (without_entry entry (entries_seen nodes entries)) (rising_filter entry_order _ _ (rising_kept entry_order seen entries rising)))
      ∙ entries_agree nodes (nodes_seen dom level nodes) (sees_same nodes (nodes_seen dom level nodes) (nodes_again nodes)) _

  module _ (lattice : IsPreorderWithBottom dom) (s : ℕ) (above : dom level s ≡ true) where
    fewer_relabelled : (i : Id) (label : ℕ) (inner : Inner) (nodes : List Node) → label_at nodes i ≡ Some s → dom label s ≡ true → (e : Entry) → sees dom level (relabelled i label inner nodes) e.directory ≡ true → sees dom level nodes e.directory ≡ true
    fewer_relabelled i label inner nodes own rises e = grind (arith, nat_tests, label_at-relabelled i label inner e.directory nodes, lattice.transitive level label s)

    fewer_made : (n : Node) (nodes : List Node) → label_at nodes n.id ≡ None → (e : Entry) → is_good_entry dom (label_at nodes) e ≡ true → sees dom level (inserted node_order n nodes) e.directory ≡ true → sees dom level nodes e.directory ≡ true
    fewer_made n nodes new e good = grind (arith, nat_tests, label_at-made n e.directory nodes)

    fewer_dropped : (i : Id) (nodes : List Node) (e : Entry) → sees dom level (filter (λ n. not (same_id i n.id)) nodes) e.directory ≡ true → sees dom level nodes e.directory ≡ true
    fewer_dropped i nodes e = grind (arith, label_at-dropped i e.directory nodes)

    -- what a change leaves as it was
    stays_seen : (w : World) → erased dom level w ≡ erased dom level (erased dom level w)
    stays_seen w = world_same _ _ (again _ w.clients) (again _ w.sessions) (again _ w.contexts) (nodes_again w.nodes) (entries_again w.nodes w.entries) (again _ w.opens) (lasts_again w.lasts)

    pub determined : (c : Change) (w : World) → Facts dom w → IsWithin dom s w c → erased dom level (apply c w) ≡ erased dom level (apply c (erased dom level w))
    determined (AddClient row) w facts within = world_same _ _
        (row_seen (λ c. c.id) row w.clients facts.clients.rise)
        (again _ w.sessions) (again _ w.contexts) (nodes_again w.nodes) (entries_again w.nodes w.entries) (again _ w.opens)
        (lasts_same _ _ (last_seen row.id w.lasts.clients facts.clients.lasts_rise) (again _ w.lasts.sessions) (again _ w.lasts.contexts) (again _ w.lasts.nodes) (again _ w.lasts.opens))
    determined (SetClient row) w facts within = world_same _ _
        (row_seen (λ c. c.id) row w.clients facts.clients.rise)
        (again _ w.sessions) (again _ w.contexts) (nodes_again w.nodes) (entries_again w.nodes w.entries) (again _ w.opens) (lasts_again w.lasts)
    determined (DropClient client) w facts within = world_same _ _
        (rows_left _ (λ c. not (same_id client c.id)) w.clients)
        (rows_left _ (λ x. not (is_session_of client x)) w.sessions)
        (again _ w.contexts) (nodes_again w.nodes) (entries_again w.nodes w.entries)
        (rows_left _ (λ o. not (is_open_of client o)) w.opens)
        (lasts_again w.lasts)
    determined (AddSession row) w facts within = world_same _ _
        (again _ w.clients)
        (row_seen (λ x. x.id) row w.sessions facts.sessions.rise)
        (again _ w.contexts) (nodes_again w.nodes) (entries_again w.nodes w.entries) (again _ w.opens)
        (lasts_same _ _ (again _ w.lasts.clients) (last_seen row.id w.lasts.sessions facts.sessions.lasts_rise) (again _ w.lasts.contexts) (again _ w.lasts.nodes) (again _ w.lasts.opens))
    determined (SetSession row) w facts within = world_same _ _
        (again _ w.clients)
        (row_seen (λ x. x.id) row w.sessions facts.sessions.rise)
        (again _ w.contexts) (nodes_again w.nodes) (entries_again w.nodes w.entries) (again _ w.opens) (lasts_again w.lasts)
    determined (DropSession session) w facts within = world_same _ _
        (again _ w.clients)
        (rows_left _ (λ x. not (same_id session x.id)) w.sessions)
        (again _ w.contexts) (nodes_again w.nodes) (entries_again w.nodes w.entries) (again _ w.opens) (lasts_again w.lasts)
    determined (AddContext row) w facts within = world_same _ _
        (again _ w.clients) (again _ w.sessions)
        (row_seen (λ x. x.id) row w.contexts facts.contexts.rise)
        (nodes_again w.nodes) (entries_again w.nodes w.entries) (again _ w.opens)
        (lasts_same _ _ (again _ w.lasts.clients) (again _ w.lasts.sessions) (last_seen row.id w.lasts.contexts facts.contexts.lasts_rise) (again _ w.lasts.nodes) (again _ w.lasts.opens))
    determined (DropContext context) w facts within = world_same _ _
        (again _ w.clients) (again _ w.sessions)
        (rows_left _ (λ x. not (same_id context x.id)) w.contexts)
        (nodes_again w.nodes) (entries_again w.nodes w.entries) (again _ w.opens) (lasts_again w.lasts)
    determined (Make node entry) w facts within =
        let absent = new_absent dom s w.nodes w.entries w.lasts.nodes facts.nodes node.id within.new in
        world_same _ _
        (again _ w.clients) (again _ w.sessions) (again _ w.contexts)
        (nodes_made node w.nodes facts.nodes.rise)
        (entries_added _ _ _ w.entries entry (nodes_made node w.nodes facts.nodes.rise) facts.nodes.entries_rise (all_weaker _ _ (fewer_made node w.nodes absent) w.entries facts.nodes.fit))
        (again _ w.opens)
        (lasts_same _ _ (again _ w.lasts.clients) (again _ w.lasts.sessions) (again _ w.lasts.contexts) (last_seen node.id w.lasts.nodes facts.nodes.lasts_rise) (again _ w.lasts.opens))
    determined (Touch i inner) w facts within = world_same _ _
        (again _ w.clients) (again _ w.sessions) (again _ w.contexts)
        (nodes_touched i inner w.nodes)
        (entries_stay _ _ _ w.entries (nodes_touched i inner w.nodes) (all_anyway _ (λ e. grind (arith, label_at-touched i inner e.directory w.nodes)) w.entries))
        (again _ w.opens) (lasts_again w.lasts)
    determined (Relabel i label inner) w facts within = world_same _ _
        (again _ w.clients) (again _ w.sessions) (again _ w.contexts)
        (nodes_relabelled i label inner w.nodes)
        (entries_stay _ _ _ w.entries (nodes_relabelled i label inner w.nodes) (all_anyway _ (fewer_relabelled i label inner w.nodes within.own within.rises) w.entries))
        (again _ w.opens) (lasts_again w.lasts)
    determined (Link entry) w facts within = world_same _ _
        (again _ w.clients) (again _ w.sessions) (again _ w.contexts) (nodes_again w.nodes)
        (entries_added _ _ _ w.entries entry (nodes_again w.nodes) facts.nodes.entries_rise (all_anyway _ (λ e h. h) w.entries))
        (again _ w.opens) (lasts_again w.lasts)
    determined (Unlink entry) w facts within = world_same _ _
        (again _ w.clients) (again _ w.sessions) (again _ w.contexts) (nodes_again w.nodes)
        (entries_filtered _ _ _ w.entries (λ e. not (same_entry entry e)) (nodes_again w.nodes) (all_anyway _ (λ e h. h) w.entries))
        (again _ w.opens) (lasts_again w.lasts)
    determined (Drop entry) w facts within = world_same _ _
        (again _ w.clients) (again _ w.sessions) (again _ w.contexts)
        (nodes_dropped entry.node w.nodes)
        (entries_filtered _ _ _ w.entries (λ e. not (same_entry entry e)) (nodes_dropped entry.node w.nodes) (all_anyway _ (fewer_dropped entry.node w.nodes) w.entries))
        (rows_left _ (λ o. not (same_id entry.node o.node)) w.opens)
        (lasts_again w.lasts)
    determined (Move entry other) w facts within = world_same _ _
        (again _ w.clients) (again _ w.sessions) (again _ w.contexts) (nodes_again w.nodes)
        (entries_moved w.nodes w.entries entry other facts.nodes.entries_rise)
        (again _ w.opens) (lasts_again w.lasts)
    determined (AddOpen row) w facts within = world_same _ _
        (again _ w.clients) (again _ w.sessions) (again _ w.contexts) (nodes_again w.nodes) (entries_again w.nodes w.entries)
        (row_seen (λ o. o.id) row w.opens facts.opens.rise)
        (lasts_same _ _ (again _ w.lasts.clients) (again _ w.lasts.sessions) (again _ w.lasts.contexts) (again _ w.lasts.nodes) (last_seen row.id w.lasts.opens facts.opens.lasts_rise))
    determined (SetOpen row) w facts within = world_same _ _
        (again _ w.clients) (again _ w.sessions) (again _ w.contexts) (nodes_again w.nodes) (entries_again w.nodes w.entries)
        (row_seen (λ o. o.id) row w.opens facts.opens.rise)
        (lasts_again w.lasts)
    determined (EndOpen opening) w facts within = world_same _ _
        (again _ w.clients) (again _ w.sessions) (again _ w.contexts) (nodes_again w.nodes) (entries_again w.nodes w.entries)
        (rows_left _ (λ o. not (same_id opening o.id)) w.opens)
        (lasts_again w.lasts)
