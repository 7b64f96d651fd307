-- What an operation does to the rows, as data. Each change is as large as it must be to keep the facts
-- of a world by itself: an identifier is given with its row, a client goes with its sessions and opens,
-- a node is made with its first name and goes with its last one and its opens.
use Rattle.std.specs.Prelude.{ℕ, not, ◌&&◌, ◌==◌, List, [], ◌∷◌, filter, Bool}
use Rattle.lnfs_world.specs.Rows.{inserted, updated}
use Rattle.lnfs_world.specs.World.{Id, Client, Session, Context, Inner, Node, Entry, Open, World, client_order, session_order, context_order, node_order, entry_order, open_order, level_order, same_id}
use Rattle.lnfs_world.specs.Tree.{same_entry}

pub data Change : Type 0 where
  -- a record under a new identifier; another state of one that is there; its end
  AddClient : (row : Client) → Change
  SetClient : (row : Client) → Change
  DropClient : (client : Id) → Change
  AddSession : (row : Session) → Change
  SetSession : (row : Session) → Change
  DropSession : (session : Id) → Change
  AddContext : (row : Context) → Change
  DropContext : (context : Id) → Change
  -- a new node with its first name
  Make : (node : Node) (entry : Entry) → Change
  -- what a node holds, and its label too
  Touch : (node : Id) (inner : Inner) → Change
  Relabel : (node : Id) (label : ℕ) (inner : Inner) → Change
  -- one more name of a node; one name less, where it keeps others; the last name, with the node
  Link : (entry : Entry) → Change
  Unlink : (entry : Entry) → Change
  Drop : (entry : Entry) → Change
  -- another name in place of one
  Move : (entry other : Entry) → Change
  AddOpen : (row : Open) → Change
  SetOpen : (row : Open) → Change
  EndOpen : (opening : Id) → Change

abbrev pub touched : Id → Inner → List Node → List Node
touched i inner nodes = updated (λ n. same_id i n.id) (λ n. record n { inner = inner }) nodes

abbrev pub relabelled : Id → ℕ → Inner → List Node → List Node
relabelled i label inner nodes = updated (λ n. same_id i n.id) (λ n. record n { label = label; inner = inner }) nodes

abbrev pub without_entry : Entry → List Entry → List Entry
without_entry entry entries = filter (λ e. not (same_entry entry e)) entries

abbrev pub is_session_of : Id → Session → Bool
is_session_of client x = x.id.level == client.level && x.client == client.number

abbrev pub is_open_of : Id → Open → Bool
is_open_of client o = o.id.level == client.level && o.client == client.number

abbrev pub apply : Change → World → World
apply (AddClient row) w = record w {
  clients = inserted client_order row w.clients;
  lasts = record w.lasts { clients = inserted level_order row.id w.lasts.clients };
}
apply (SetClient row) w = record w { clients = inserted client_order row w.clients }
apply (DropClient client) w = record w {
  clients = filter (λ c. not (same_id client c.id)) w.clients;
  sessions = filter (λ x. not (is_session_of client x)) w.sessions;
  opens = filter (λ o. not (is_open_of client o)) w.opens;
}
apply (AddSession row) w = record w {
  sessions = inserted session_order row w.sessions;
  lasts = record w.lasts { sessions = inserted level_order row.id w.lasts.sessions };
}
apply (SetSession row) w = record w { sessions = inserted session_order row w.sessions }
apply (DropSession session) w = record w { sessions = filter (λ x. not (same_id session x.id)) w.sessions }
apply (AddContext row) w = record w {
  contexts = inserted context_order row w.contexts;
  lasts = record w.lasts { contexts = inserted level_order row.id w.lasts.contexts };
}
apply (DropContext context) w = record w { contexts = filter (λ x. not (same_id context x.id)) w.contexts }
apply (Make node entry) w = record w {
  nodes = inserted node_order node w.nodes;
  entries = inserted entry_order entry w.entries;
  lasts = record w.lasts { nodes = inserted level_order node.id w.lasts.nodes };
}
apply (Touch node inner) w = record w { nodes = touched node inner w.nodes }
apply (Relabel node label inner) w = record w { nodes = relabelled node label inner w.nodes }
apply (Link entry) w = record w { entries = inserted entry_order entry w.entries }
apply (Unlink entry) w = record w { entries = without_entry entry w.entries }
apply (Drop entry) w = record w {
  nodes = filter (λ n. not (same_id entry.node n.id)) w.nodes;
  entries = without_entry entry w.entries;
  opens = filter (λ o. not (same_id entry.node o.node)) w.opens;
}
apply (Move entry other) w = record w { entries = inserted entry_order other (without_entry entry w.entries) }
apply (AddOpen row) w = record w {
  opens = inserted open_order row w.opens;
  lasts = record w.lasts { opens = inserted level_order row.id w.lasts.opens };
}
apply (SetOpen row) w = record w { opens = inserted open_order row w.opens }
apply (EndOpen opening) w = record w { opens = filter (λ o. not (same_id opening o.id)) w.opens }

-- the changes, one after the other
abbrev pub apply_all : List Change → World → World
apply_all [] w = w
apply_all (c ∷ cs) w = apply_all cs (apply c w)
