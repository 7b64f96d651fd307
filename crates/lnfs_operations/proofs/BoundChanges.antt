-- What a change has to bring so that a world keeps the bounds of its rows, and how many there may be; and that it keeps them then.
use Rattle.std.proofs.Common.{◌≡◌, ◌≤◌, ◌<◌, ℕ, Bool, true, false, cond, not, ◌&&◌, List, [], ◌∷◌, ◌++◌, Option, Some, None, refl, sym, ap, subst, ◌∙◌, arith}
use Rattle.std.specs.Prelude.{◌==◌, filter, count_by, IfSome}
use Rattle.std.specs.List.{find, AllByRecursion}
use Rattle.std.proofs.lemmas.Bool.Decides.{nat_tests}
use Rattle.lnfs_calipso.specs.Label.{IsPreorderWithBottom}
use Rattle.lnfs_world.specs.World.{Id, Client, Session, Context, Inner, Node, Entry, Open, World, client_order, session_order, context_order, node_order, entry_order, open_order, level_order, same_id, node_at, directory_at, is_directory}
use Rattle.lnfs_world.specs.Rows.{inserted, updated}
use Rattle.lnfs_world.specs.Names.{names_of}
use Rattle.lnfs_world.specs.Tree.{same_entry}
use Rattle.lnfs_world.specs.Change.{Change, AddClient, SetClient, DropClient, AddSession, SetSession, DropSession, AddContext, DropContext, Make, Touch, Relabel, Link, Unlink, Drop, Move, AddOpen, SetOpen, EndOpen, apply, apply_all, without_entry}
use Rattle.lnfs_world.specs.Facts.{Facts}
use Rattle.lnfs_world.specs.Within.{is_same_open}
use Rattle.lnfs_world.specs.Outcome.{Site}
use Rattle.lnfs_world.specs.declared.numbers.TheConstants.{MOST_NAMES, OPENS_OF_A_LEVEL}
use Rattle.lnfs_world.proofs.Determined.{new_absent}
use Rattle.lnfs_world.proofs.Kept.{keeps}
use Rattle.lnfs_world.proofs.Keys.{id_same}
use Rattle.lnfs_world.proofs.Nodes.{nothing_told}
use Rattle.lnfs_world.proofs.Rows.{all_left, all_weaker, all_anyway, any_weaker}
use Rattle.lnfs_world.proofs.Seals.{unseal}
use Rattle.lnfs_world.proofs.Sorted.{all_inserted}
use Rattle.lnfs_world.proofs.Within.{IsWithin, AllWithin, Makes, Moves}
use Rattle.lnfs_operations.specs.declared.numbers.TheConstants.{CLIENTS_OF_A_LEVEL, SESSIONS_OF_A_LEVEL}
use Rattle.lnfs_operations.specs.Bounds.{IsGivenBy, ClientBounds, SessionBounds, ContextBounds, InnerBounds, NodeBounds, EntryBounds, OpenBounds, RowBounds, CountBounds}
use Rattle.lnfs_operations.specs.Sizes.{is_level}
use Rattle.lnfs_operations.proofs.CountLaws.{one_if, count_cons, count_inserted, count_left, count_less, count_set, level_comes, found_any}

-- ---- what is brought

-- The rows that come are within their bounds, and there is room for one more where rows are counted. What a node holds is
-- within the bounds of its kind.
abbrev pub Brings : Site → World → Change → Type 0
Brings site w (AddClient row) = ClientBounds site row × (count_by (λ c. c.id.level == row.id.level) w.clients < CLIENTS_OF_A_LEVEL)
Brings site w (SetClient row) = ClientBounds site row
Brings site w (DropClient client) = Unit {0}
Brings site w (AddSession row) = SessionBounds site row × (count_by (λ x. x.id.level == row.id.level) w.sessions < SESSIONS_OF_A_LEVEL)
Brings site w (SetSession row) = SessionBounds site row
Brings site w (DropSession session) = Unit {0}
Brings site w (AddContext row) = ContextBounds site row
Brings site w (DropContext context) = Unit {0}
Brings site w (Make node entry) = NodeBounds site node × EntryBounds entry
Brings site w (Touch node inner) = IfSome (node_at w.nodes node) (λ n. InnerBounds n.kind inner)
Brings site w (Relabel node label inner) = (is_level site label ≡ true) × IfSome (node_at w.nodes node) (λ n. InnerBounds n.kind inner)
Brings site w (Link entry) = EntryBounds entry × (names_of w.entries entry.node < MOST_NAMES)
Brings site w (Unlink entry) = Unit {0}
Brings site w (Drop entry) = Unit {0}
Brings site w (Move entry other) = EntryBounds other
Brings site w (AddOpen row) = OpenBounds site row × (count_by (λ o. o.id.level == row.id.level) w.opens < OPENS_OF_A_LEVEL)
Brings site w (SetOpen row) = OpenBounds site row
Brings site w (EndOpen opening) = Unit {0}

abbrev pub AllBring : Site → World → List Change → Type 0
AllBring site w [] = Unit {0}
AllBring site w (c ∷ cs) = Brings site w c × AllBring site (apply c w) cs

pub bring_joined : (site : Site) (first then : List Change) (w : World) → AllBring site w first → AllBring site (apply_all first w) then → AllBring site w (first ++ then)
bring_joined site [] then w a b = b
bring_joined site (c ∷ first) then w a b = (a.0, bring_joined site first then (apply c w) a.1 b)

-- ---- the rows

module _ (site : Site) where
  clients_come : (w : World) (clients : List Client) (lasts : List Id) → AllByRecursion (ClientBounds site) clients → AllByRecursion (IsGivenBy site) lasts → RowBounds site w → RowBounds site (record w { clients = clients; lasts = record w.lasts { clients = lasts } })
  clients_come w clients lasts rows given before = record {
    clients = rows;
    sessions = before.sessions;
    contexts = before.contexts;
    nodes = before.nodes;
    entries = before.entries;
    opens = before.opens;
    lasts = record { clients = given; sessions = before.lasts.sessions; contexts = before.lasts.contexts; nodes = before.lasts.nodes; opens = before.lasts.opens };
  }

  sessions_come : (w : World) (sessions : List Session) (lasts : List Id) → AllByRecursion (SessionBounds site) sessions → AllByRecursion (IsGivenBy site) lasts → RowBounds site w → RowBounds site (record w { sessions = sessions; lasts = record w.lasts { sessions = lasts } })
  sessions_come w sessions lasts rows given before = record {
    clients = before.clients;
    sessions = rows;
    contexts = before.contexts;
    nodes = before.nodes;
    entries = before.entries;
    opens = before.opens;
    lasts = record { clients = before.lasts.clients; sessions = given; contexts = before.lasts.contexts; nodes = before.lasts.nodes; opens = before.lasts.opens };
  }

  contexts_come : (w : World) (contexts : List Context) (lasts : List Id) → AllByRecursion (ContextBounds site) contexts → AllByRecursion (IsGivenBy site) lasts → RowBounds site w → RowBounds site (record w { contexts = contexts; lasts = record w.lasts { contexts = lasts } })
  contexts_come w contexts lasts rows given before = record {
    clients = before.clients;
    sessions = before.sessions;
    contexts = rows;
    nodes = before.nodes;
    entries = before.entries;
    opens = before.opens;
    lasts = record { clients = before.lasts.clients; sessions = before.lasts.sessions; contexts = given; nodes = before.lasts.nodes; opens = before.lasts.opens };
  }

  opens_come : (w : World) (opens : List Open) (lasts : List Id) → AllByRecursion (OpenBounds site) opens → AllByRecursion (IsGivenBy site) lasts → RowBounds site w → RowBounds site (record w { opens = opens; lasts = record w.lasts { opens = lasts } })
  opens_come w opens lasts rows given before = record {
    clients = before.clients;
    sessions = before.sessions;
    contexts = before.contexts;
    nodes = before.nodes;
    entries = before.entries;
    opens = rows;
    lasts = record { clients = before.lasts.clients; sessions = before.lasts.sessions; contexts = before.lasts.contexts; nodes = before.lasts.nodes; opens = given };
  }

  nodes_come : (w : World) (nodes : List Node) (entries : List Entry) (lasts : List Id) → AllByRecursion (NodeBounds site) nodes → AllByRecursion EntryBounds entries → AllByRecursion (IsGivenBy site) lasts → RowBounds site w → RowBounds site (record w { nodes = nodes; entries = entries; lasts = record w.lasts { nodes = lasts } })
  nodes_come w nodes entries lasts rows names given before = record {
    clients = before.clients;
    sessions = before.sessions;
    contexts = before.contexts;
    nodes = rows;
    entries = names;
    opens = before.opens;
    lasts = record { clients = before.lasts.clients; sessions = before.lasts.sessions; contexts = before.lasts.contexts; nodes = given; opens = before.lasts.opens };
  }

  -- the row that is found gets another state
  all_set : {X : Type 0} (P : X → Type 0) (q : X → Bool) (g : X → X) (xs : List X) → IfSome (find q xs) (λ x. P x → P (g x)) → AllByRecursion P xs → AllByRecursion P (updated q g xs)
  all_set P q g [] now all = tt
  all_set P q g (y ∷ ys) now all = at (q y) now (λ later. all_set P q g ys later all.1)
    where
      at : (b : Bool) → IfSome (cond b (Some y) (find q ys)) (λ x. P x → P (g x)) → (IfSome (find q ys) (λ x. P x → P (g x)) → AllByRecursion P (updated q g ys)) → AllByRecursion P (cond b (g y ∷ ys) (y ∷ updated q g ys))
      at true is rest = (is all.0, all.1)
      at false is rest = (all.0, rest is)

  touch_bounds : (inner : Inner) (o : Option Node) → IfSome o (λ n. InnerBounds n.kind inner) → IfSome o (λ n. NodeBounds site n → NodeBounds site (record n { inner = inner }))
  touch_bounds inner None is = tt
  touch_bounds inner (Some n) is = λ was. record { id = was.id; label = was.label; verifier = was.verifier; inner = is }

  relabel_bounds : (label : ℕ) → is_level site label ≡ true → (inner : Inner) (o : Option Node) → IfSome o (λ n. InnerBounds n.kind inner) → IfSome o (λ n. NodeBounds site n → NodeBounds site (record n { label = label; inner = inner }))
  relabel_bounds label level inner None is = tt
  relabel_bounds label level inner (Some n) is = λ was. record { id = was.id; label = level; verifier = was.verifier; inner = is }

  pub keeps_rows : (c : Change) (w : World) → Brings site w c → RowBounds site w → RowBounds site (apply c w)
  keeps_rows (AddClient row) w brings rows = clients_come w _ _ (all_inserted client_order (ClientBounds site) row w.clients brings.0 rows.clients) (all_inserted level_order (IsGivenBy site) row.id w.lasts.clients brings.0.id rows.lasts.clients) rows
  keeps_rows (SetClient row) w brings rows = clients_come w _ w.lasts.clients (all_inserted client_order (ClientBounds site) row w.clients brings rows.clients) rows.lasts.clients rows
  keeps_rows (DropClient client) w brings rows = record {
    clients = all_left (ClientBounds site) _ w.clients rows.clients;
    sessions = all_left (SessionBounds site) _ w.sessions rows.sessions;
    contexts = rows.contexts;
    nodes = rows.nodes;
    entries = rows.entries;
    opens = all_left (OpenBounds site) _ w.opens rows.opens;
    lasts = rows.lasts;
  }
  keeps_rows (AddSession row) w brings rows = sessions_come w _ _ (all_inserted session_order (SessionBounds site) row w.sessions brings.0 rows.sessions) (all_inserted level_order (IsGivenBy site) row.id w.lasts.sessions brings.0.id rows.lasts.sessions) rows
  keeps_rows (SetSession row) w brings rows = sessions_come w _ w.lasts.sessions (all_inserted session_order (SessionBounds site) row w.sessions brings rows.sessions) rows.lasts.sessions rows
  keeps_rows (DropSession session) w brings rows = sessions_come w _ w.lasts.sessions (all_left (SessionBounds site) _ w.sessions rows.sessions) rows.lasts.sessions rows
  keeps_rows (AddContext row) w brings rows = contexts_come w _ _ (all_inserted context_order (ContextBounds site) row w.contexts brings rows.contexts) (all_inserted level_order (IsGivenBy site) row.id w.lasts.contexts brings rows.lasts.contexts) rows
  keeps_rows (DropContext context) w brings rows = contexts_come w _ w.lasts.contexts (all_left (ContextBounds site) _ w.contexts rows.contexts) rows.lasts.contexts rows
  keeps_rows (Make node entry) w brings rows =
      nodes_come w _ _ _ (all_inserted node_order (NodeBounds site) node w.nodes brings.0 rows.nodes) (all_inserted entry_order EntryBounds entry w.entries brings.1 rows.entries) (all_inserted level_order (IsGivenBy site) node.id w.lasts.nodes brings.0.id rows.lasts.nodes) rows
  keeps_rows (Touch node inner) w brings rows =
      nodes_come w _ w.entries w.lasts.nodes (all_set (NodeBounds site) (λ n. same_id node n.id) (λ n. record n { inner = inner }) w.nodes (touch_bounds inner (node_at w.nodes node) brings) rows.nodes) rows.entries rows.lasts.nodes rows
  keeps_rows (Relabel node label inner) w brings rows =
      nodes_come w _ w.entries w.lasts.nodes (all_set (NodeBounds site) (λ n. same_id node n.id) (λ n. record n { label = label; inner = inner }) w.nodes (relabel_bounds label brings.0 inner (node_at w.nodes node) brings.1) rows.nodes) rows.entries rows.lasts.nodes rows
  keeps_rows (Link entry) w brings rows = nodes_come w w.nodes _ w.lasts.nodes rows.nodes (all_inserted entry_order EntryBounds entry w.entries brings.0 rows.entries) rows.lasts.nodes rows
  keeps_rows (Unlink entry) w brings rows = nodes_come w w.nodes _ w.lasts.nodes rows.nodes (all_left EntryBounds _ w.entries rows.entries) rows.lasts.nodes rows
  keeps_rows (Drop entry) w brings rows = record {
    clients = rows.clients;
    sessions = rows.sessions;
    contexts = rows.contexts;
    nodes = all_left (NodeBounds site) _ w.nodes rows.nodes;
    entries = all_left EntryBounds _ w.entries rows.entries;
    opens = all_left (OpenBounds site) _ w.opens rows.opens;
    lasts = rows.lasts;
  }
  keeps_rows (Move entry other) w brings rows = nodes_come w w.nodes _ w.lasts.nodes rows.nodes (all_inserted entry_order EntryBounds other (without_entry entry w.entries) brings (all_left EntryBounds _ w.entries rows.entries)) rows.lasts.nodes rows
  keeps_rows (AddOpen row) w brings rows = opens_come w _ _ (all_inserted open_order (OpenBounds site) row w.opens brings.0 rows.opens) (all_inserted level_order (IsGivenBy site) row.id w.lasts.opens brings.0.id rows.lasts.opens) rows
  keeps_rows (SetOpen row) w brings rows = opens_come w _ w.lasts.opens (all_inserted open_order (OpenBounds site) row w.opens brings rows.opens) rows.lasts.opens rows
  keeps_rows (EndOpen opening) w brings rows = opens_come w _ w.lasts.opens (all_left (OpenBounds site) _ w.opens rows.opens) rows.lasts.opens rows

-- ---- how many there are

-- a name comes to a node that may have one more
named_more : (entry : Entry) (entries : List Entry) → names_of entries entry.node < MOST_NAMES → ((node : Id) → names_of entries node ≤ MOST_NAMES) → (node : Id) → names_of (inserted entry_order entry entries) node ≤ MOST_NAMES
named_more entry entries room few node = at (same_id node entry.node) refl
  where
    at : (b : Bool) → same_id node entry.node ≡ b → names_of (inserted entry_order entry entries) node ≤ MOST_NAMES
    at true is =
        let left : names_of entries node < MOST_NAMES = subst (λ i. names_of entries i < MOST_NAMES) (sym (id_same node entry.node is)) room in
        omega (arith, left, count_inserted (λ e. same_id node e.node) entry_order entry entries, ap one_if is)
    at false is = omega (arith, few node, count_inserted (λ e. same_id node e.node) entry_order entry entries, ap one_if is)

none_counted : {X : Type 0} (q : X → Bool) (xs : List X) → AllByRecursion (λ x. q x ≡ false) xs → count_by q xs ≡ 0
none_counted q [] none = refl
none_counted q (x ∷ xs) none = omega (arith, count_cons q x xs, none_counted q xs none.1, ap one_if none.0)

module _ (dom : ℕ → ℕ → Bool) (s : ℕ) where
  -- a new node has no name yet
  unnamed : (w : World) → Facts dom w → (node : Node) (entry : Entry) → Makes dom s w node entry → names_of w.entries entry.node ≡ 0
  unnamed w facts node entry makes =
      let absent : directory_at w.nodes entry.node ≡ None = ap (directory_at w.nodes) makes.names_it ∙ nothing_told (λ n. is_directory n.kind) node.id w.nodes (new_absent dom s w.nodes w.entries w.lasts.nodes facts.nodes node.id makes.new) in
      none_counted (λ e. same_id entry.node e.node) w.entries (all_weaker _ _ (λ e joined. grind (arith, nat_tests, joined, absent, id_same entry.node e.node)) w.entries (unseal facts.nodes.tree).joined)

  -- a name that moves
  name_moves : (entry other : Entry) (w : World) → Moves dom s w entry other → ((node : Id) → names_of w.entries node ≤ MOST_NAMES) → (node : Id) → names_of (inserted entry_order other (without_entry entry w.entries)) node ≤ MOST_NAMES
  name_moves entry other w moves few node = at (same_id node other.node) refl
    where
      q : Entry → Bool
      q e = same_id node e.node

      at : (b : Bool) → same_id node other.node ≡ b → names_of (inserted entry_order other (without_entry entry w.entries)) node ≤ MOST_NAMES
      at true is =
          let own : node ≡ entry.node = id_same node other.node is ∙ sym moves.same_node in
          let there = any_weaker (same_entry entry) (λ e. same_id node e.node && not (not (same_entry entry e))) w.entries (all_anyway _ (λ e same. grind (arith, same, own)) w.entries) moves.there in
          omega (arith, few node, count_inserted (λ e. same_id node e.node) entry_order other (without_entry entry w.entries), ap one_if is, count_less (λ e. same_id node e.node) (λ e. not (same_entry entry e)) w.entries there)
      at false is = omega (arith, few node, count_inserted (λ e. same_id node e.node) entry_order other (without_entry entry w.entries), ap one_if is, count_left (λ e. same_id node e.node) (λ e. not (same_entry entry e)) w.entries)

  -- a level has no more rows of a kind where one of them is set, and where some go
  level_set : {X : Type 0} (key : X → Id) (row : X) (xs : List X) (level : ℕ) (x : X) → same_id (key row) (key x) ≡ true → ((key x).level == level) ≡ ((key row).level == level)
  level_set key row xs level x same = ap (λ (i : Id). i.level == level) (sym (id_same (key row) (key x) same))

  pub keeps_counts : (site : Site) (c : Change) (w : World) → Facts dom w → IsWithin dom s w c → Brings site w c → CountBounds w → CountBounds (apply c w)
  keeps_counts site (AddClient row) w facts within brings counts = record {
    clients = level_comes (λ c. c.id) client_order CLIENTS_OF_A_LEVEL row w.clients brings.1 counts.clients;
    sessions = counts.sessions;
    opens = counts.opens;
    names = counts.names;
  }
  keeps_counts site (SetClient row) w facts within brings counts = record {
    clients = λ level. omega (arith, counts.clients level, count_set (λ (c : Client). c.id) (λ c. c.id.level == level) row (λ x same. level_set (λ c. c.id) row w.clients level x same) w.clients facts.clients.rise (found_any (λ c. same_id row.id c.id) w.clients within.there));
    sessions = counts.sessions;
    opens = counts.opens;
    names = counts.names;
  }
  keeps_counts site (DropClient client) w facts within brings counts = record {
    clients = λ level. omega (arith, counts.clients level, count_left (λ c. c.id.level == level) (λ c. not (same_id client c.id)) w.clients);
    sessions = λ level. less_sessions level _;
    opens = λ level. less_opens level _;
    names = counts.names;
  }
    where
      less_sessions : (level : ℕ) (p : Session → Bool) → count_by (λ x. x.id.level == level) (filter p w.sessions) ≤ SESSIONS_OF_A_LEVEL
      less_sessions level p = omega (arith, counts.sessions level, count_left (λ x. x.id.level == level) p w.sessions)

      less_opens : (level : ℕ) (p : Open → Bool) → count_by (λ o. o.id.level == level) (filter p w.opens) ≤ OPENS_OF_A_LEVEL
      less_opens level p = omega (arith, counts.opens level, count_left (λ o. o.id.level == level) p w.opens)
  keeps_counts site (AddSession row) w facts within brings counts = record {
    clients = counts.clients;
    sessions = level_comes (λ x. x.id) session_order SESSIONS_OF_A_LEVEL row w.sessions brings.1 counts.sessions;
    opens = counts.opens;
    names = counts.names;
  }
  keeps_counts site (SetSession row) w facts within brings counts = record {
    clients = counts.clients;
    sessions = λ level. omega (arith, counts.sessions level, count_set (λ (x : Session). x.id) (λ x. x.id.level == level) row (λ x same. level_set (λ x. x.id) row w.sessions level x same) w.sessions facts.sessions.rise within.there);
    opens = counts.opens;
    names = counts.names;
  }
  keeps_counts site (DropSession session) w facts within brings counts = record {
    clients = counts.clients;
    sessions = λ level. omega (arith, counts.sessions level, count_left (λ x. x.id.level == level) (λ x. not (same_id session x.id)) w.sessions);
    opens = counts.opens;
    names = counts.names;
  }
  keeps_counts site (AddContext row) w facts within brings counts = record { clients = counts.clients; sessions = counts.sessions; opens = counts.opens; names = counts.names }
  keeps_counts site (DropContext context) w facts within brings counts = record { clients = counts.clients; sessions = counts.sessions; opens = counts.opens; names = counts.names }
  keeps_counts site (Make node entry) w facts within brings counts = record {
    clients = counts.clients;
    sessions = counts.sessions;
    opens = counts.opens;
    names = named_more entry w.entries (omega (arith, unnamed w facts node entry within)) counts.names;
  }
  keeps_counts site (Touch node inner) w facts within brings counts = record { clients = counts.clients; sessions = counts.sessions; opens = counts.opens; names = counts.names }
  keeps_counts site (Relabel node label inner) w facts within brings counts = record { clients = counts.clients; sessions = counts.sessions; opens = counts.opens; names = counts.names }
  keeps_counts site (Link entry) w facts within brings counts = record {
    clients = counts.clients;
    sessions = counts.sessions;
    opens = counts.opens;
    names = named_more entry w.entries brings.1 counts.names;
  }
  keeps_counts site (Unlink entry) w facts within brings counts = record {
    clients = counts.clients;
    sessions = counts.sessions;
    opens = counts.opens;
    names = λ node. omega (arith, counts.names node, count_left (λ e. same_id node e.node) (λ e. not (same_entry entry e)) w.entries);
  }
  keeps_counts site (Drop entry) w facts within brings counts = record {
    clients = counts.clients;
    sessions = counts.sessions;
    opens = λ level. omega (arith, counts.opens level, count_left (λ o. o.id.level == level) (λ o. not (same_id entry.node o.node)) w.opens);
    names = λ node. omega (arith, counts.names node, count_left (λ e. same_id node e.node) (λ e. not (same_entry entry e)) w.entries);
  }
  keeps_counts site (Move entry other) w facts within brings counts = record { clients = counts.clients; sessions = counts.sessions; opens = counts.opens; names = name_moves entry other w within counts.names }
  keeps_counts site (AddOpen row) w facts within brings counts = record {
    clients = counts.clients;
    sessions = counts.sessions;
    opens = level_comes (λ o. o.id) open_order OPENS_OF_A_LEVEL row w.opens brings.1 counts.opens;
    names = counts.names;
  }
  keeps_counts site (SetOpen row) w facts within brings counts =
      let there = any_weaker (is_same_open row) (λ o. same_id row.id o.id) w.opens (all_anyway _ (λ o same. grind (arith, same)) w.opens) within.there in
      record {
        clients = counts.clients;
        sessions = counts.sessions;
        opens = λ level. omega (arith, counts.opens level, count_set (λ (o : Open). o.id) (λ o. o.id.level == level) row (λ x same. level_set (λ o. o.id) row w.opens level x same) w.opens facts.opens.rise there);
        names = counts.names;
      }
  keeps_counts site (EndOpen opening) w facts within brings counts = record {
    clients = counts.clients;
    sessions = counts.sessions;
    opens = λ level. omega (arith, counts.opens level, count_left (λ o. o.id.level == level) (λ o. not (same_id opening o.id)) w.opens);
    names = counts.names;
  }

-- ---- all changes

-- the bounds of rows, and how many there are
pub record Within (site : Site) (w : World) : Type 0 where
  pub rows : RowBounds site w
  pub counts : CountBounds w

module _ (site : Site) (lattice : IsPreorderWithBottom site.dom) (s : ℕ) where
  pub all_keep : (cs : List Change) (w : World) → Facts site.dom w → AllWithin site.dom s w cs → AllBring site w cs → Within site w → Within site (apply_all cs w)
  all_keep [] w facts within brings before = before
  all_keep (c ∷ cs) w facts within brings before =
      all_keep cs (apply c w) (keeps site.dom lattice s c w facts within.0) within.1 brings.1
      (record { rows = keeps_rows site c w brings.0 before.rows; counts = keeps_counts site.dom s site c w facts within.0 brings.0 before.counts })
