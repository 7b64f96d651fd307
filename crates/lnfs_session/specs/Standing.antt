-- The clients and the sessions of a world: what of it is kept here.
use Rattle.std.specs.Prelude.{ℕ, true, not, List, [], filter, Option, Some, None, option_and_then}
use Rattle.lnfs_world.specs.Rows.{inserted}
use Rattle.lnfs_world.specs.World.{Id, Kept, Client, Slot, Session, World, client_order, session_order, client_at, same_id}
use Rattle.lnfs_operations.specs.Keeping.{next_sequence, with_slot}
use Rattle.lnfs_world.specs.Change.{is_session_of}

pub record Lists : Type 0 where
  pub clients : List Client
  pub sessions : List Session
  -- the last number that each level was given, of a client and of a session
  pub client_lasts : List Id
  pub session_lasts : List Id

abbrev pub no_lists : Lists
no_lists = record { clients = []; sessions = []; client_lasts = []; session_lasts = [] }

-- a world with these lists, whose other rows are those of a world
abbrev pub standing : World → Lists → World
standing w lists = record w {
  clients = lists.clients;
  sessions = lists.sessions;
  lasts = record w.lasts { clients = lists.client_lasts; sessions = lists.session_lasts };
}

abbrev pub lists_of : World → Lists
lists_of w = record {
  clients = w.clients;
  sessions = w.sessions;
  client_lasts = w.lasts.clients;
  session_lasts = w.lasts.sessions;
}

-- the rows that stay where a client goes with its sessions
abbrev pub clients_left : Option Id → List Client → List Client
clients_left None clients = clients
clients_left (Some i) clients = filter (λ c. not (same_id i c.id)) clients

abbrev pub sessions_left : Option Id → List Session → List Session
sessions_left None sessions = sessions
sessions_left (Some i) sessions = filter (λ x. not (is_session_of i x)) sessions

-- the rows after one of them, where it is there, has another state
abbrev pub clients_set : (Client → Client) → Option Client → List Client → List Client
clients_set g None clients = clients
clients_set g (Some c) clients = inserted client_order (g c) clients

-- the record is confirmed
abbrev pub confirmed : Client → Client
confirmed c = record c { confirmed = true }

-- a record whose CREATE_SESSION was answered
abbrev pub answered : Kept → Client → Client
answered kept c = record c { sequence = next_sequence c.sequence; kept = Some kept }

-- one whose client has said that it reclaims no more
abbrev pub reclaimed : Client → Client
reclaimed c = record c { reclaimed = true }

-- one whose lease begins again at so many seconds
abbrev pub seen_at : ℕ → Client → Client
seen_at secs c = record c { seen = Some secs }

-- the seconds at which the lease of a client was last renewed, if there is such a client and it was
abbrev pub seen_of : List Client → Id → Option ℕ
seen_of clients i = option_and_then (λ c. c.seen) (client_at clients i)

abbrev pub sessions_set : (Session → Session) → Option Session → List Session → List Session
sessions_set g None sessions = sessions
sessions_set g (Some x) sessions = inserted session_order (g x) sessions

-- a session one of whose slots holds another request
abbrev pub settled : ℕ → Slot → Session → Session
settled slot row x = record x { slots = with_slot slot row x.slots }
