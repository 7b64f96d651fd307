-- OPEN of a name that isn't there, behind the tests of what is to be made.
use Rattle.std.proofs.Common.{◌≡◌, refl, ap, sym, subst, ◌∙◌, ℕ, Bool, true, false, List, [], ◌∷◌, Option, Some, None, Ok}
use Rattle.std.specs.Prelude.{◌&&◌, nat_lt, length, is_some}
use Rattle.std.specs.Option.{option_map}
use Rattle.lnfs_types.specs.declared.event.Moment.{Moment}
use Rattle.lnfs_arguments.specs.declared.types.Making.{Making}
use Rattle.lnfs_arguments.specs.declared.statuses.TheConstants.{NFS4ERR_NOSPC}
use Rattle.lnfs_world.specs.World.{Id, Kind, File, Directory, SymbolicLink, Node, World, node_at, label_at, is_directory}
use Rattle.lnfs_world.specs.Names.{entry_at}
use Rattle.lnfs_world.specs.Facts.{NodeFacts}
use Rattle.lnfs_world.specs.Change.{Touch, Make}
use Rattle.lnfs_world.specs.Effects.{name_added, next_entry, has_number, has_cookie, next_id}
use Rattle.lnfs_world.specs.Usage.{nodes_used, bytes_of}
use Rattle.lnfs_world.specs.Outcome.{Site, Place, Outcome}
use Rattle.lnfs_operations.specs.declared.Gate.TheVariants.{Quota}
use Rattle.lnfs_operations.specs.declared.Refusal.{Refusal}
use Rattle.lnfs_operations.specs.Chain.{Answer, refuse, demand}
use Rattle.lnfs_operations.specs.Create.{has_room}
use Rattle.lnfs_operations.specs.Given.{level_or}
use Rattle.lnfs_operations.specs.Open as operation
use Rattle.lnfs_operations.specs.Open.{Arguments, Opened, Wanted, new_file, open_absent, made}
use Rattle.lnfs_tree.specs.Rows.{Rows, kind_of, id_of}
use Rattle.lnfs_tree.specs.Flat.{content_of}
use Rattle.lnfs_tree.specs.Changed.{new_node, ran, Does, insert_of}
use Rattle.lnfs_tree.specs.Changed as tree
use Rattle.lnfs_tree.specs.declared.node.Fresh.{Fresh}
use Rattle.lnfs_open.specs.Lists.{Lists}
use Rattle.lnfs_open.specs.Opening.{has_open_left}
use Rattle.lnfs_nodes.specs.Trees.{refusal_of, Holds}
use Rattle.lnfs_nodes.specs.declared.held.Held.{Held}
use Rattle.lnfs_quota.specs.declared.quota.Row.{Row}
use Rattle.lnfs_quota.specs.Quota.{node_charged}
use Rattle.lnfs_quota.specs.Totals.{IsInBounds, AreTotals}
use Rattle.lnfs_quota.proofs.Bounded.{empty_bounds}
use Rattle.lnfs_nodes.proofs.Refusing.{refused_as}
use Rattle.lnfs_nodes.proofs.Inserts.{seen, inserted}
use Rattle.lnfs_tree.specs.declared.node.NodeId.{NodeId}
use Rattle.lnfs_tree.specs.declared.node.Info.{Info}
use Rattle.lnfs_files.specs.Worlds.{with_files}
use Rattle.lnfs_files.specs.Charges.{IsListed}
use Rattle.lnfs_files.specs.Openings.{where_makable, IsAbsentIn}
use Rattle.lnfs_world.proofs.NewNames.{next_absent}
use Rattle.lnfs_files.proofs.Makes.{no_room, no_number, all_room, Alike, Made, counts_made}

-- ---- what is made

-- a new node has no bytes
pub no_bytes : (moment : Moment) (fresh : Fresh) (i : Id) → bytes_of (new_node moment fresh i) (kind_of fresh.kind) ≡ 0
no_bytes moment fresh i = at (kind_of fresh.kind) refl
  where
    at : (k : Kind) → kind_of fresh.kind ≡ k → bytes_of (new_node moment fresh i) k ≡ 0
    at File e = ap (λ (k : Kind). length (content_of k [] fresh.text)) e
    at Directory e = refl
    at SymbolicLink e = refl

-- the changes of the tree are those of the definition
pub same_changes : (moment : Moment) (t : Rows) (d : Node) (name : List ℕ) (fresh : Fresh) (n : Node) → fresh.home.0 ≡ d.label → new_node moment fresh (next_id t.lasts d.label) ≡ n → n.id ≡ next_id t.lasts d.label
    → (tree.made moment name fresh d (next_id t.lasts fresh.home.0)).changes ≡ Touch d.id (name_added moment d.inner) ∷ Make n (next_entry d name n.id) ∷ []
same_changes moment t d name fresh n home node id =
    ap (λ (l : ℕ). (tree.made moment name fresh d (next_id t.lasts l)).changes) home
    ∙ ap (λ (m : Node). Touch d.id (name_added moment d.inner) ∷ Make m (next_entry d name (next_id t.lasts d.label)) ∷ []) node
    ∙ ap (λ (i : Id). Touch d.id (name_added moment d.inner) ∷ Make n (next_entry d name i) ∷ []) (sym id)

-- no node, no label
pub no_label : (nodes : List Node) (i : Id) → node_at nodes i ≡ None → label_at nodes i ≡ None
no_label nodes i e = ap (option_map (λ (n : Node). n.label)) e

-- ---- behind the tests of the labels

module _ (site : Site) (args : Arguments) (p : Place) (rest : World) (t : Rows) (s : Lists) (client : ℕ) (d : Node) (name : List ℕ) (wanted : Wanted) (making : Making) where
  abbrev w : World
  w = with_files rest t s

  abbrev pub maker : Outcome (Answer Opened)
  maker = made args p w client d name wanted.set (new_file site p w making wanted d)

  abbrev full : Outcome (Answer Opened)
  full = refuse p Quota NFS4ERR_NOSPC

  abbrev pub behind : Outcome (Answer Opened)
  behind = demand (has_room site w d) full (demand (operation.has_open_left p w) full maker)

  -- a name that is to be made, with the label that is asked for or its directory's
  pub by_label : (asked : Option Making) (home label : ℕ) → asked ≡ Some making → home ≡ d.label → label ≡ level_or home wanted.label → (o : Outcome (Answer Opened)) → where_makable site args p d label behind ≡ o → open_absent site args p w client d name wanted asked ≡ o
  by_label asked home label makes at_home is o rest =
      ap (open_absent site args p w client d name wanted) makes
      ∙ ap (λ (l : ℕ). where_makable site args p d l behind) (sym (is ∙ ap (λ (l : ℕ). level_or l wanted.label) at_home))
      ∙ rest

  -- ---- room

  abbrev pub room_of : (home level : ℕ) → Bool
  room_of home level = nat_lt (nodes_used t.nodes home) (site.nodes home) && has_open_left s level

  module _ (home level : ℕ) (at_home : home ≡ d.label) (own : level ≡ p.subject) where
    room_is : room_of home level ≡ room_of d.label p.subject
    room_is = ap (λ (l : ℕ). room_of l level) at_home ∙ ap (room_of d.label) own

    pub is_full : (why : Refusal) → refusal_of why ≡ record { gate = Quota; status = NFS4ERR_NOSPC } → false ≡ room_of home level → behind ≡ refuse p why.gate why.status
    is_full why same e =
        no_room p maker (nat_lt (nodes_used t.nodes d.label) (site.nodes d.label)) (has_number t.lasts d.label && has_cookie d) (has_open_left s p.subject) (sym room_is ∙ sym e)
        ∙ refused_as p why (record { gate = Quota; status = NFS4ERR_NOSPC }) same

    pub is_spent : (why : Refusal) → refusal_of why ≡ record { gate = Quota; status = NFS4ERR_NOSPC } → (has_number t.lasts home && has_cookie d) ≡ false → behind ≡ refuse p why.gate why.status
    is_spent why same e =
        no_number p maker (nat_lt (nodes_used t.nodes d.label) (site.nodes d.label)) (has_number t.lasts d.label && has_cookie d) (has_open_left s p.subject) (ap (λ (l : ℕ). has_number t.lasts l && has_cookie d) (sym at_home) ∙ e)
        ∙ refused_as p why (record { gate = Quota; status = NFS4ERR_NOSPC }) same

    pub is_made : true ≡ room_of home level → (has_number t.lasts home && has_cookie d) ≡ true → behind ≡ maker
    is_made e numbers =
        all_room p maker (nat_lt (nodes_used t.nodes d.label) (site.nodes d.label)) (has_number t.lasts d.label && has_cookie d) (has_open_left s p.subject) (sym room_is ∙ sym e)
        (ap (λ (l : ℕ). has_number t.lasts l && has_cookie d) (sym at_home) ∙ numbers)

-- the second half of a room
pub opens_left : (a b : Bool) → true ≡ (a && b) → b ≡ true
opens_left true true e = refl
opens_left true false e = cc
opens_left false b e = cc

-- ---- the directory that hasn't the name

some_same : (a b : Node) → Some a ≡ Some b → a ≡ b
some_same a b e = cc

same_held : (t : Rows) (a b : Node) (h : Held) → Holds t a h → Holds t b h → a ≡ b
same_held t a b h x y = some_same a b (sym x.node_is ∙ ap (node_at t.nodes) (sym x.id ∙ y.id) ∙ y.node_is)

pub absent_in : (t : Rows) (h : Held) (name : List ℕ) (a : IsAbsentIn t h name) (d : Node) → Holds t d h → (is_directory d.kind ≡ true) × (is_some (entry_at t.entries d.id name) ≡ false)
absent_in t h name a d holds = subst (λ (x : Node). (is_directory x.kind ≡ true) × (is_some (entry_at t.entries x.id name) ≡ false)) (same_held t a.0 d h a.1.0 holds) (a.1.1, a.1.2)

-- ---- totals

made_counts : (rows : List Row) (dom : ℕ → ℕ → Bool) (t u : Rows) (d : Node) (name : List ℕ) (fresh : Fresh) (moment : Moment) (home : ℕ) → Alike rows → Made rows → AreTotals rows t.nodes → NodeFacts dom t.nodes t.entries t.lasts → node_at t.nodes d.id ≡ Some d → is_directory d.kind ≡ true → fresh.home.0 ≡ home → IsListed home → IsListed fresh.label.0
    → u ≡ ran (tree.made moment name fresh d (next_id t.lasts fresh.home.0)).changes t → AreTotals (node_charged rows home) u.nodes
made_counts rows dom t u d name fresh moment home alike law totals facts at directory same home_listed listed e =
    let i : Id = next_id t.lasts fresh.home.0 in
    let n : Node = new_node moment fresh i in
    let none : bytes_of n n.kind ≡ 0 = no_bytes moment fresh i in
    let bounds : IsInBounds n = empty_bounds n (subst IsListed (sym same) home_listed) listed none in
    subst (λ (l : ℕ). AreTotals (node_charged rows l) u.nodes) same
    (counts_made rows t u d n (name_added moment d.inner) (next_entry d name i) alike law totals at directory (next_absent dom t.nodes t.entries t.lasts facts fresh.home.0) bounds none e)

-- in a directory that is held: what the tree did, and the totals
pub made_in : (t u : Rows) (h : Held) (name : List ℕ) (a : IsAbsentIn t h name) (fresh : Fresh) (moment : Moment) (r : NodeId × Info) → Does {A = NodeId × Info} {B = Id × Info} seen (insert_of t (id_of h.id) name fresh moment) t u (Ok r)
    → u ≡ ran (tree.made moment name fresh a.0 (next_id t.lasts fresh.home.0)).changes t
made_in t u h name a fresh moment r does = (inserted t u (id_of h.id) a.0 name fresh moment (ap (λ (i : Id). node_at t.nodes i) a.1.0.id ∙ a.1.0.node_is) a.1.1 a.1.2 r does).2

pub counts_in : (rows : List Row) (dom : ℕ → ℕ → Bool) (t u : Rows) (h : Held) (name : List ℕ) (a : IsAbsentIn t h name) (fresh : Fresh) (moment : Moment) (home : ℕ) (r : NodeId × Info) → Alike rows → Made rows → AreTotals rows t.nodes → NodeFacts dom t.nodes t.entries t.lasts → fresh.home.0 ≡ home → IsListed home → IsListed fresh.label.0
    → Does {A = NodeId × Info} {B = Id × Info} seen (insert_of t (id_of h.id) name fresh moment) t u (Ok r) → AreTotals (node_charged rows home) u.nodes
counts_in rows dom t u h name a fresh moment home r alike law totals facts same home_listed listed does =
    made_counts rows dom t u a.0 name fresh moment home alike law totals facts a.1.0.node_is a.1.1 same home_listed listed (made_in t u h name a fresh moment r does)
