-- The layout, row by row: a table of columns for each kind of row. A length word is an item of its own, and so are the bytes behind it.
use Rattle.std.specs.Prelude.{ℕ, Bool, ◌==◌, List, [], ◌∷◌, Option, Some, None, nat_le}
use Rattle.std.specs.List.{list_any}
use Rattle.lnfs_types.specs.declared.event.Moment.{Moment}
use Rattle.lnfs_xdr.specs.Format.{Format, Word, Long, Among, Byte, Raw, Done, ◌>>=◌, when◌then◌else◌, times}
use Rattle.lnfs_world.specs.World.{Id, Kept, Client, Channel, Slot, Session, Context, Kind, File, Directory, SymbolicLink, Stored, Node, Entry, Open}
use Rattle.lnfs_ranges.specs.declared.range.LockRange.{LockRange}
use Rattle.lnfs_locks.specs.Locks.{Lock}
use Rattle.lnfs_layout.specs.declared.numbers.TheConstants.{VERIFIER, NF4REG, NF4DIR, NF4LNK}
use Rattle.lnfs_layout.specs.declared.lasts.LastRow.{LastRow}

-- A format of the layout. It never leaves bytes unread.
abbrev pub Rows : Type 0 → Type 1
Rows A = Format ⊥ A

-- ---- columns

-- a length and so many bytes
unfoldable pub run : Rows (List ℕ)
run = do
  size ← Long
  Raw size

-- a byte of 0 or 1
unfoldable pub flag : Rows Bool
flag = do
  n ← Byte (λ n. nat_le n 1)
  Done (n == 1)

-- a byte of 0, or of 1 and the value
abbrev pub present : {A : Type 0} → Rows A → Rows (Option A)
present f = Byte (λ n. nat_le n 1) >>= λ n. when n == 0 then Done None else (f >>= λ x. Done (Some x))

-- a count and so many rows
abbrev pub many : {A : Type 0} → Rows A → Rows (List A)
many f = Long >>= λ count. times count f

abbrev pub verifier_bytes : Rows (List ℕ)
verifier_bytes = Raw VERIFIER

unfoldable pub moment : Rows Moment
moment = do
  secs ← Long
  nanos ← Word
  Done (record { secs = secs; nanos = nanos })

unfoldable pub identifier : Rows Id
identifier = do
  level ← Word
  number ← Long
  Done (record { level = level; number = number })

-- ---- clients, sessions, contexts

unfoldable pub kept_parts : Rows Kept
kept_parts = do
  arguments ← run
  reply ← run
  Done (record { arguments = arguments; reply = reply })

unfoldable pub client_row : Rows Client
client_row = do
  id ← identifier
  owner ← run
  verifier ← verifier_bytes
  confirmed ← flag
  sequence ← Word
  kept ← present kept_parts
  reclaimed ← flag
  seen ← present Long
  Done (record { id = id; owner = owner; verifier = verifier; confirmed = confirmed; sequence = sequence; kept = kept; reclaimed = reclaimed; seen = seen })

unfoldable pub channel_row : Rows Channel
channel_row = do
  max_request ← Word
  max_response ← Word
  max_cached ← Word
  max_operations ← Word
  max_requests ← Word
  Done (record { max_request = max_request; max_response = max_response; max_cached = max_cached; max_operations = max_operations; max_requests = max_requests })

unfoldable pub slot_row : Rows Slot
slot_row = do
  sequence ← Word
  kept ← present kept_parts
  Done (record { sequence = sequence; kept = kept })

unfoldable pub session_row : Rows Session
session_row = do
  id ← identifier
  client ← Long
  channel ← channel_row
  slots ← many slot_row
  Done (record { id = id; client = client; channel = channel; slots = slots })

unfoldable pub context_row : Rows Context
context_row = do
  level ← Word
  parent ← Long
  number ← Long
  Done (record { id = record { level = level; number = number }; parent = parent })

-- ---- nodes and names

abbrev pub kind_numbers : List ℕ
kind_numbers = NF4REG ∷ NF4DIR ∷ NF4LNK ∷ []

unfoldable pub kind : Rows Kind
kind = do
  n ← Among (λ n. list_any (λ k. k == n) kind_numbers)
  when n == NF4REG then Done File else when n == NF4DIR then Done Directory else Done SymbolicLink

unfoldable pub stored_label : Rows Stored
stored_label = do
  lfs ← Word
  pi ← Word
  bytes ← run
  Done (record { lfs = lfs; pi = pi; bytes = bytes })

-- the columns that say which node it is
unfoldable pub node_head : Rows (Id × Kind × ℕ)
node_head = do
  id ← identifier
  sort ← kind
  label ← Word
  Done (id, sort, label)

-- the three moments of a node: when it was accessed, when its attributes changed, and when its data did
unfoldable pub node_moments : Rows (Moment × Moment × Moment)
node_moments = do
  accessed ← moment
  metadata ← moment
  modified ← moment
  Done (accessed, metadata, modified)

unfoldable pub node_row : Rows Node
node_row = do
  head ← node_head
  stored ← present stored_label
  mode ← Word
  content ← run
  change ← Long
  moments ← node_moments
  verifier ← present verifier_bytes
  cookies ← Long
  Done (record {
    id = head.0;
    kind = head.1;
    label = head.2;
    verifier = verifier;
    inner = record { stored = stored; mode = mode; content = content; change = change; accessed = moments.0; metadata = moments.1; modified = moments.2; cookies = cookies };
  })

unfoldable pub entry_row : Rows Entry
entry_row = do
  directory ← identifier
  cookie ← Long
  name ← run
  node ← identifier
  Done (record { directory = directory; cookie = cookie; name = name; node = node })

-- ---- opens

unfoldable pub open_row : Rows Open
open_row = do
  id ← identifier
  client ← Long
  owner ← run
  node ← identifier
  access ← Word
  deny ← Word
  sequence ← Word
  Done (record { id = id; client = client; owner = owner; node = node; access = access; deny = deny; sequence = sequence })

-- ---- locks

-- offsets, the last one included, and whether they are locked for write
unfoldable pub range_row : Rows LockRange
range_row = do
  first ← Long
  last ← Long
  write ← flag
  Done (record { first = first; last = last; write = write })

unfoldable pub lock_row : Rows Lock
lock_row = do
  id ← identifier
  client ← Long
  opening ← Long
  owner ← run
  node ← identifier
  sequence ← Word
  ranges ← many range_row
  Done (record { id = id; client = client; opening = opening; owner = owner; node = node; sequence = sequence; ranges = ranges })

-- ---- last numbers

unfoldable pub last_row : Rows LastRow
last_row = do
  clients ← Long
  sessions ← Long
  contexts ← Long
  nodes ← Long
  opens ← Long
  locks ← Long
  Done (record { clients = clients; sessions = sessions; contexts = contexts; nodes = nodes; opens = opens; locks = locks })
