-- The rows that lists stand for, and one of them by its place.
use Rattle.std.specs.Prelude.{ℕ, false, List, [], None, map}
use Rattle.std.specs.List.{slice_index_or}
use Rattle.lnfs_world.specs.World.{Client, Slot, Session, Context, Open}
use Rattle.lnfs_world.specs.Tree.{root}
use Rattle.lnfs_rows.specs.declared.sessions.ClientRow.{ClientRow}
use Rattle.lnfs_rows.specs.declared.sessions.SlotRow.{SlotRow}
use Rattle.lnfs_rows.specs.declared.sessions.SessionRow.{SessionRow}
use Rattle.lnfs_rows.specs.declared.sessions.ContextRow.{ContextRow}
use Rattle.lnfs_rows.specs.declared.opens.OpenRow.{OpenRow}
use Rattle.lnfs_rows.specs.Told.{client_of, slot_of, session_of, context_of, open_of}

abbrev pub clients_of : List ClientRow → List Client
clients_of rows = map client_of rows

abbrev pub slots_of : List SlotRow → List Slot
slots_of rows = map slot_of rows

abbrev pub sessions_of : List SessionRow → List Session
sessions_of rows = map session_of rows

abbrev pub contexts_of : List ContextRow → List Context
contexts_of rows = map context_of rows

abbrev pub opens_of : List OpenRow → List Open
opens_of rows = map open_of rows

-- ---- what stands behind the last row

abbrev pub no_client : Client
no_client = record { id = root; owner = []; verifier = []; confirmed = false; sequence = 0; kept = None; reclaimed = false; seen = None }

abbrev pub no_slot : Slot
no_slot = record { sequence = 0; kept = None }

abbrev pub no_session : Session
no_session = record { id = root; client = 0; channel = record { max_request = 0; max_response = 0; max_cached = 0; max_operations = 0; max_requests = 0 }; slots = [] }

abbrev pub no_context : Context
no_context = record { id = root; parent = 0 }

abbrev pub no_open : Open
no_open = record { id = root; client = 0; owner = []; node = root; access = 0; deny = 0; sequence = 0 }

abbrev pub nth_client : List Client → ℕ → Client
nth_client xs k = slice_index_or xs k no_client

abbrev pub nth_slot : List Slot → ℕ → Slot
nth_slot xs k = slice_index_or xs k no_slot

abbrev pub nth_session : List Session → ℕ → Session
nth_session xs k = slice_index_or xs k no_session

abbrev pub nth_context : List Context → ℕ → Context
nth_context xs k = slice_index_or xs k no_context

abbrev pub nth_open : List Open → ℕ → Open
nth_open xs k = slice_index_or xs k no_open
