-- The row of a world that each value stands for.
use Rattle.std.specs.Prelude.{ℕ, List, map}
use Rattle.std.specs.Option.{option_map}
use Rattle.lnfs_world.specs.World as world
use Rattle.lnfs_rows.specs.declared.numbers.Id.{Id}
use Rattle.lnfs_rows.specs.declared.sessions.Kept.{Kept}
use Rattle.lnfs_rows.specs.declared.sessions.ClientRow.{ClientRow}
use Rattle.lnfs_rows.specs.declared.sessions.Channel.{Channel}
use Rattle.lnfs_rows.specs.declared.sessions.SlotRow.{SlotRow}
use Rattle.lnfs_rows.specs.declared.sessions.SessionRow.{SessionRow}
use Rattle.lnfs_rows.specs.declared.sessions.ContextRow.{ContextRow}
use Rattle.lnfs_rows.specs.declared.nodes.Kind.{Kind}
use Rattle.lnfs_rows.specs.declared.nodes.Kind.TheVariants as kinds
use Rattle.lnfs_rows.specs.declared.nodes.StoredRow.{StoredRow}
use Rattle.lnfs_rows.specs.declared.nodes.Data.{Data}
use Rattle.lnfs_rows.specs.declared.nodes.Data.TheVariants as contents
use Rattle.lnfs_rows.specs.declared.nodes.NodeRow.{NodeRow}
use Rattle.lnfs_rows.specs.declared.nodes.EntryRow.{EntryRow}
use Rattle.lnfs_rows.specs.declared.opens.OpenRow.{OpenRow}

abbrev pub id_of : Id → world.Id
id_of i = record { level = i.level; number = i.number }

-- ---- clients, sessions, contexts

abbrev pub kept_of : Kept → world.Kept
kept_of k = record { arguments = k.arguments.now; reply = k.reply.now }

abbrev pub client_of : ClientRow → world.Client
client_of c = record {
  id = id_of c.id;
  owner = c.owner.now;
  verifier = c.verifier;
  confirmed = c.confirmed;
  sequence = c.sequence;
  kept = option_map kept_of c.kept;
  reclaimed = c.reclaimed;
  seen = c.seen;
}

abbrev pub channel_of : Channel → world.Channel
channel_of x = record {
  max_request = x.max_request;
  max_response = x.max_response;
  max_cached = x.max_cached;
  max_operations = x.max_operations;
  max_requests = x.max_requests;
}

abbrev pub slot_of : SlotRow → world.Slot
slot_of s = record { sequence = s.sequence; kept = option_map kept_of s.kept }

abbrev pub session_of : SessionRow → world.Session
session_of x = record { id = id_of x.id; client = x.client; channel = channel_of x.channel; slots = map slot_of x.slots.items }

abbrev pub context_of : ContextRow → world.Context
context_of x = record { id = id_of x.id; parent = x.parent }

-- ---- nodes and names

abbrev pub kind_of : Kind → world.Kind
kind_of kinds.File = world.File
kind_of kinds.Directory = world.Directory
kind_of kinds.SymbolicLink = world.SymbolicLink

abbrev pub stored_of : StoredRow → world.Stored
stored_of s = record { lfs = s.lfs; pi = s.pi; bytes = s.bytes.now }

abbrev pub bytes_of : Data → List ℕ
bytes_of (contents.Bytes b) = b.now
bytes_of (contents.File content) = content.now

abbrev pub node_of : NodeRow → world.Node
node_of n = record {
  id = id_of n.id;
  kind = kind_of n.kind;
  label = n.label;
  verifier = n.verifier;
  inner = record {
    stored = option_map stored_of n.stored;
    mode = n.mode;
    content = bytes_of n.content;
    change = n.change;
    accessed = n.accessed;
    metadata = n.metadata;
    modified = n.modified;
    cookies = n.cookies;
  };
}

abbrev pub entry_of : EntryRow → world.Entry
entry_of e = record { directory = id_of e.directory; cookie = e.cookie; name = e.name.now; node = id_of e.node }

-- ---- opens

abbrev pub open_of : OpenRow → world.Open
open_of o = record {
  id = id_of o.id;
  client = o.client;
  owner = o.owner.now;
  node = id_of o.node;
  access = o.access;
  deny = o.deny;
  sequence = o.sequence;
}
