-- What the rows of the maps stand for.
use Rattle.std.specs.Prelude.{ℕ, List, map}
use Rattle.std.specs.Option.{option_map}
use Rattle.lnfs_arguments.specs.declared.channel.Channel.{Channel}
use Rattle.lnfs_world.specs.World as world
use Rattle.lnfs_operations.specs.Identifiers.{session_named}
use Rattle.lnfs_session.specs.declared.rows.ClientRef.{ClientRef}
use Rattle.lnfs_session.specs.declared.rows.SessionRef.{SessionRef}
use Rattle.lnfs_session.specs.declared.rows.Kept.{Kept}
use Rattle.lnfs_session.specs.declared.rows.Client.{Client}
use Rattle.lnfs_session.specs.declared.rows.Slot.{Slot}
use Rattle.lnfs_session.specs.declared.rows.Session.{Session}

abbrev pub id_of : ClientRef → world.Id
id_of i = record { level = i.level; number = i.number }

abbrev pub session_id_of : SessionRef → world.Id
session_id_of i = record { level = i.level; number = i.number }

abbrev pub kept_of : Kept → world.Kept
kept_of k = record { arguments = k.arguments.items; reply = k.reply.items }

abbrev pub client_of : ClientRef × Client → world.Client
client_of e = record {
  id = id_of e.0;
  owner = e.1.owner;
  verifier = e.1.verifier;
  confirmed = e.1.confirmed;
  sequence = e.1.sequence;
  kept = option_map kept_of e.1.kept;
  reclaimed = e.1.reclaimed;
  seen = e.1.seen;
}

abbrev pub channel_of : Channel → world.Channel
channel_of c = record {
  max_request = c.maxrequest;
  max_response = c.maxresponse;
  max_cached = c.cached;
  max_operations = c.operations;
  max_requests = c.requests;
}

abbrev pub slot_of : Slot → world.Slot
slot_of s = record { sequence = s.sequence; kept = option_map kept_of s.kept }

abbrev pub session_of : SessionRef × Session → world.Session
session_of e = record {
  id = session_id_of e.0;
  client = e.1.client;
  channel = channel_of e.1.channel;
  slots = map slot_of e.1.slots.items;
}

-- the key of a session id
abbrev pub session_key : List ℕ → SessionRef
session_key bytes = record { level = (session_named bytes).level; number = (session_named bytes).number }
