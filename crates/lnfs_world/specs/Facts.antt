-- What holds of every world that is kept.
use Rattle.std.specs.Prelude.{◌≡◌, ◌==◌, ℕ, Bool, true, false, not, ◌&&◌, ◌||◌, List, Option, Some, None, is_some, nat_lt}
use Rattle.std.specs.List.{AllByRecursion, list_any}
use Rattle.std.specs.Option.{option_map}
use Rattle.std.specs.Str.{bytes_eq}
use Rattle.lnfs_world.specs.Rows.{Rising, Apart}
use Rattle.lnfs_world.specs.World.{Id, Client, Session, Context, Node, Entry, Open, World, client_order, session_order, context_order, node_order, entry_order, open_order, level_order, same_id, client_at, node_at, label_at, directory_at, is_given}
use Rattle.lnfs_world.specs.Tree.{Sealed, Tree}

-- ---- clients, sessions, contexts

abbrev pub same_flag : Bool → Bool → Bool
same_flag a b = a && b || not a && not b

-- two records of one level and owner, both confirmed or both not
abbrev pub are_rivals : Client → Client → Bool
are_rivals a b = a.id.level == b.id.level && (bytes_eq a.owner b.owner && same_flag a.confirmed b.confirmed)

pub record ClientFacts (clients : List Client) (lasts : List Id) : Type 0 where
  -- rows lie in the order of their identifiers, which so differ
  pub rise : Rising client_order clients
  -- no identifier is above the last that its level was given
  pub lasts_rise : Rising level_order lasts
  pub given : AllByRecursion (λ c. is_given lasts c.id ≡ true) clients
  -- per level and owner at most one record is confirmed, and at most one isn't
  pub rivals : Apart are_rivals clients

abbrev pub is_confirmed : Option Client → Bool
is_confirmed None = false
is_confirmed (Some c) = c.confirmed

-- whether there is a confirmed client of a level and a number
abbrev pub has_confirmed : List Client → ℕ → ℕ → Bool
has_confirmed clients level number = is_confirmed (client_at clients (record { level = level; number = number }))

pub record SessionFacts (clients : List Client) (sessions : List Session) (lasts : List Id) : Type 0 where
  pub rise : Rising session_order sessions
  pub lasts_rise : Rising level_order lasts
  pub given : AllByRecursion (λ x. is_given lasts x.id ≡ true) sessions
  -- a session's client is there, of the same level, and confirmed
  pub behind : AllByRecursion (λ x. has_confirmed clients x.id.level x.client ≡ true) sessions

pub record ContextFacts (contexts : List Context) (lasts : List Id) : Type 0 where
  pub rise : Rising context_order contexts
  pub lasts_rise : Rising level_order lasts
  pub given : AllByRecursion (λ x. is_given lasts x.id ≡ true) contexts

-- ---- nodes and entries

abbrev pub is_label : ℕ → Option ℕ → Bool
is_label level None = false
is_label level (Some l) = l == level

-- The node's label dominates the directory's, which is the node's home or the node's label.
abbrev pub fits_under : (ℕ → ℕ → Bool) → ℕ → Option ℕ → Option ℕ → Bool
fits_under dom home (Some directory) (Some label) = dom label directory && (directory == home || directory == label)
fits_under dom home _ _ = false

abbrev pub is_good_entry : (ℕ → ℕ → Bool) → (Id → Option ℕ) → Entry → Bool
is_good_entry dom label e = fits_under dom e.node.level (label e.directory) (label e.node)

-- whether a node has a name in a directory whose label is the node's home
abbrev pub is_held : (Id → Option ℕ) → List Entry → Id → Bool
is_held label entries i = list_any (λ e. same_id i e.node && is_label i.level (label e.directory)) entries

-- two entries of one name in one directory
abbrev pub same_name : Entry → Entry → Bool
same_name a b = same_id a.directory b.directory && bytes_eq a.name b.name

-- the cookie that a directory's next name takes
abbrev pub cookies_at : List Node → Id → Option ℕ
cookies_at nodes i = option_map (λ n. n.inner.cookies) (node_at nodes i)

abbrev pub is_below : ℕ → Option ℕ → Bool
is_below cookie None = false
is_below cookie (Some next) = nat_lt cookie next

pub record NodeFacts (dom : ℕ → ℕ → Bool) (nodes : List Node) (entries : List Entry) (lasts : List Id) : Type 0 where
  pub rise : Rising node_order nodes
  pub lasts_rise : Rising level_order lasts
  pub given : (i : Id) (l : ℕ) → label_at nodes i ≡ Some l → is_given lasts i ≡ true
  -- cookies in one directory differ, and are below that of its next name
  pub entries_rise : Rising entry_order entries
  pub cookies : AllByRecursion (λ e. is_below e.cookie (cookies_at nodes e.directory) ≡ true) entries
  -- names in one directory differ
  pub names : Apart same_name entries
  -- every node but the root has a name, a directory one, and the way up from each ends at the root
  pub tree : Sealed (Tree (directory_at nodes) entries)
  -- a node's label dominates its home
  pub labels : (i : Id) (l : ℕ) → label_at nodes i ≡ Some l → dom l i.level ≡ true
  -- and the label of each directory that names it, which is its home or its own label
  pub fit : AllByRecursion (λ e. is_good_entry dom (label_at nodes) e ≡ true) entries
  -- a node whose label isn't its home has a name in a directory whose label is its home
  pub held : (i : Id) (l : ℕ) → label_at nodes i ≡ Some l → (l == i.level || is_held (label_at nodes) entries i) ≡ true

-- ---- opens

-- two opens of one client, owner and node
abbrev pub same_opening : Open → Open → Bool
same_opening a b = a.id.level == b.id.level && (a.client == b.client && (bytes_eq a.owner b.owner && same_id a.node b.node))

-- its node is there, and its level dominates the node's home
abbrev pub is_good_open : (ℕ → ℕ → Bool) → (Id → Option ℕ) → Open → Bool
is_good_open dom label o = dom o.id.level o.node.level && is_some (label o.node)

pub record OpenFacts (dom : ℕ → ℕ → Bool) (clients : List Client) (label : Id → Option ℕ) (opens : List Open) (lasts : List Id) : Type 0 where
  pub rise : Rising open_order opens
  pub lasts_rise : Rising level_order lasts
  pub given : AllByRecursion (λ o. is_given lasts o.id ≡ true) opens
  -- an open's client is there, of the same level, and confirmed
  pub behind : AllByRecursion (λ o. has_confirmed clients o.id.level o.client ≡ true) opens
  pub nodes : AllByRecursion (λ o. is_good_open dom label o ≡ true) opens
  -- no two opens have the same client, owner and node
  pub apart : Apart same_opening opens

pub record Facts (dom : ℕ → ℕ → Bool) (w : World) : Type 0 where
  pub clients : ClientFacts w.clients w.lasts.clients
  pub sessions : SessionFacts w.clients w.sessions w.lasts.sessions
  pub contexts : ContextFacts w.contexts w.lasts.contexts
  pub nodes : NodeFacts dom w.nodes w.entries w.lasts.nodes
  pub opens : OpenFacts dom w.clients (label_at w.nodes) w.opens w.lasts.opens
