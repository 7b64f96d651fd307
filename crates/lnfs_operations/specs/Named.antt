-- What an operation names of clients and sessions (RFC 8881 sections 18.35 to 18.37, 18.46 and 18.50).
use Rattle.std.specs.Prelude.{ℕ, Bool, false, List, Option, Some, None}
use Rattle.std.specs.List.{find}
use Rattle.std.specs.Str.{bytes_eq}
use Rattle.lnfs_arguments.specs.declared.types.Op.{Op}
use Rattle.lnfs_arguments.specs.declared.types.Op.TheVariants as ops
use Rattle.lnfs_world.specs.World.{Id, Client, Session, World, same_id, client_at}
use Rattle.lnfs_world.specs.Change.{is_session_of}
use Rattle.lnfs_operations.specs.CreateSession.{is_replaced}
use Rattle.lnfs_operations.specs.Identifiers.{client_named, session_named}

-- EXCHANGE_ID names the owner of a client.
abbrev pub names_owner : (owner : List ℕ) → Op → Bool
names_owner owner (ops.ExchangeId verifier name flags implementation) = bytes_eq name owner
names_owner owner op = false

-- CREATE_SESSION and DESTROY_CLIENTID name a client id.
abbrev pub names_client : (client : Id) → Op → Bool
names_client i (ops.CreateSession args) = same_id i (client_named args.client)
names_client i (ops.DestroyClientId client) = same_id i (client_named client)
names_client i op = false

-- SEQUENCE and DESTROY_SESSION name a session.
abbrev pub names_session : (session : Id) → Op → Bool
names_session i (ops.Sequence args) = same_id i (session_named args.session)
names_session i (ops.DestroySession session) = same_id i (session_named session)
names_session i op = false

-- ---- what goes though it isn't named

-- the confirmed record of the same owner whose place a record takes
abbrev pub replaced_by : World → Option Client → Option Client
replaced_by w None = None
replaced_by w (Some c) = find (is_replaced c) w.clients

abbrev pub is_session_under : Session → Option Client → Bool
is_session_under x None = false
is_session_under x (Some c) = is_session_of c.id x

-- CREATE_SESSION names a client id and no owner. Yet where it confirms the record of a client that has restarted, the record
-- of the owner from before goes with its sessions (RFC 8881 section 18.36.4).
abbrev pub replaces_client_of : World → Session → Op → Bool
replaces_client_of w x (ops.CreateSession args) = is_session_under x (replaced_by w (client_at w.clients (client_named args.client)))
replaces_client_of w x op = false
