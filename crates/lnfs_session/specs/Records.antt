-- The client records of all levels: what of a world's rows they are.
use Rattle.std.specs.Prelude.{ℕ, ◌+◌, true, not, List, [], filter, Option, Some, None}
use Rattle.std.specs.List.{find}
use Rattle.lnfs_world.specs.Rows.{inserted}
use Rattle.lnfs_world.specs.World.{Id, Client, client_order, level_order, last_of, same_id}
use Rattle.lnfs_operations.specs.ExchangeId.{is_pending, new_client}
use Rattle.lnfs_operations.specs.CreateSession.{is_replaced}

pub record ClientLists : Type 0 where
  pub clients : List Client
  -- the last number that each level was given
  pub lasts : List Id

abbrev pub no_clients : ClientLists
no_clients = record { clients = []; lasts = [] }

-- the rows that stay where one goes, if any
abbrev pub left_by : Option Client → List Client → List Client
left_by None clients = clients
left_by (Some c) clients = filter (λ d. not (same_id c.id d.id)) clients

-- the identifier that a level's next record gets
abbrev pub next_id : ℕ → List Id → Id
next_id level lasts = record { level = level; number = last_of level lasts + 1 }

-- after an EXCHANGE_ID that makes a record (RFC 8881 section 18.35): the owner's pending one gives way to it
abbrev pub pending_replaced : ℕ → List ℕ → List ℕ → ClientLists → ClientLists
pending_replaced level owner verifier lists = record {
  clients = inserted client_order (new_client (next_id level lists.lasts) (record { verifier = verifier; owner = owner; flags = 0 })) (left_by (find (is_pending level owner) lists.clients) lists.clients);
  lasts = inserted level_order (next_id level lists.lasts) lists.lasts;
}

-- the other confirmed record of its owner, of which a record takes the place
abbrev pub replaced_by : Option Client → List Client → Option Client
replaced_by None clients = None
replaced_by (Some c) clients = find (is_replaced c) clients

-- after a CREATE_SESSION that confirms a record (RFC 8881 section 18.36): it takes the place of that one
abbrev pub with_confirmed : Option Client → List Client → List Client
with_confirmed None clients = clients
with_confirmed (Some c) clients = inserted client_order (record c { confirmed = true }) (left_by (find (is_replaced c) clients) clients)
