-- The events of the generator: what guests of a site might send, drawn by a seed.
use Rattle.std.specs.Prelude.{ℕ, zero, suc, ◌+◌, ◌-◌, ◌*◌, ◌/◌, ◌%◌, ◌^◌, ◌==◌, ◌&&◌, if◌then◌else◌, true, List, [], ◌∷◌, ◌++◌, length, map, count_by, replicate, slice_index_or, Some, None, codes}
use Rattle.std.specs.Fmt.{decimal}
use Rattle.std.specs.Option.{unwrap_or}
use Rattle.lnfs_types.specs.declared.event.Event.{Event}
use Rattle.lnfs_attrs.specs.declared.bitmap.Bitmap.{Bitmap}
use Rattle.lnfs_attrs.specs.Bitmaps.{no_attributes}
use Rattle.lnfs_rpc.specs.Calls.{OpaqueAuth}
use Rattle.lnfs_rpc.specs.Numbers.{last_procedure}
use Rattle.lnfs_arguments.specs.declared.channel.Channel.{Channel}
use Rattle.lnfs_arguments.specs.declared.stateid.StateId.{StateId}
use Rattle.lnfs_arguments.specs.declared.types.Making.TheVariants.{Unchecked}
use Rattle.lnfs_arguments.specs.declared.types.Claim.TheVariants.{Name}
use Rattle.lnfs_arguments.specs.declared.types.Compound.{Compound}
use Rattle.lnfs_arguments.specs.declared.types.Op.{Op}
use Rattle.lnfs_arguments.specs.declared.types.Op.TheVariants as ops
use Rattle.lnfs_arguments.specs.Identifiers.{client_id, session_id}
use Rattle.lnfs_requests.specs.Texts.{compound_text}
use Rattle.lnfs_calls.specs.CallTexts.{call_text, no_auth, user_auth}
use Rattle.lnfs_policy.specs.declared.mode.Mode.{Mode}
use Rattle.lnfs_policy.specs.declared.mode.Mode.TheVariants.{Enforcing, Limited}
use Rattle.lnfs_policy.specs.declared.rows.Guest.{Guest}
use Rattle.lnfs_policy.specs.Policy.{Policy, guest_level}
use Rattle.lnfs_traffic.specs.declared.guests.Row.{Row}
use Rattle.lnfs_traffic.specs.declared.turns.Past.{Past}
use Rattle.lnfs_traffic.specs.declared.turns.Turn.{Turn}

-- ---- numbers

abbrev pub next_number : ℕ → ℕ
next_number x = (x * 6364136223846793005 + 1442695040888963407) % 2 ^ 64

-- the number of an event; events are counted from 1
unfoldable pub number : (seed e : ℕ) → ℕ
number seed zero = seed
number seed (suc e) = next_number (number seed e)

-- its upper 31 bits
abbrev pub roll : ℕ → ℕ
roll x = x / 2 ^ 33

-- ---- rows: one for each guest line

-- the level that the calls of a guest get, and 0 where they get none
abbrev pub level_in : Mode → Policy → (class uid : ℕ) → ℕ
level_in Enforcing p class uid = unwrap_or (guest_level p class (Some uid)) 0
level_in Limited p class uid = 0

abbrev pub row : Policy → (class uid : ℕ) → Row
row p class uid = record { class = class; uid = uid; level = level_in p.mode p class uid }

-- A line for all has a guest with the uid 0.
abbrev pub row_of : Policy → Guest → Row
row_of p guest = row p guest.class (unwrap_or guest.uid 0)

-- where there is no line, one row of class 0 and uid 0
abbrev pub rows_of : Policy → List Guest → List Row
rows_of p [] = row p 0 0 ∷ []
rows_of p (guest ∷ guests) = map (row_of p) (guest ∷ guests)

unfoldable pub rows : Policy → List Row
rows p = rows_of p p.guests

-- the row at a place
abbrev pub row_at : Policy → ℕ → Row
row_at p g = slice_index_or (rows p) g (row p 0 0)

-- ---- the places of the rows of the first events, the last of these at the front

abbrev pub place_of : (size x : ℕ) → ℕ
place_of size x = roll x % size

unfoldable pub places : (size seed : ℕ) → (events : ℕ) → List ℕ
places size seed zero = []
places size seed (suc e) = place_of size (number seed (suc e)) ∷ places size seed e

-- ---- what a row has had; `level` is the level of the row at a place

-- how many of the events are of the row
abbrev pub events_of : ℕ → List ℕ → ℕ
events_of g events = count_by (λ h. h == g) events

-- how many of the events, in rows of a level, have just so many events of their row before them
unfoldable pub given : (level : ℕ → ℕ) → (before wanted : ℕ) → List ℕ → ℕ
given level before wanted [] = 0
given level before wanted (g ∷ earlier) = (if level g == wanted && events_of g earlier == before then 1 else 0) + given level before wanted earlier

-- The number that the event of the row with just so many events of the row before it got: such events are counted in its level, itself included. 0 before that event.
unfoldable pub got : (level : ℕ → ℕ) → (before g : ℕ) → List ℕ → ℕ
got level before g [] = 0
got level before g (h ∷ earlier) = if h == g && events_of g earlier == before then given level before (level g) (h ∷ earlier) else got level before g earlier

-- how many events a row has had before the last event, and the numbers of its client and its session
abbrev pub past_of : (level : ℕ → ℕ) → (g : ℕ) → (earlier : List ℕ) → Past
past_of level g earlier = record { events = events_of g earlier; client = got level 0 g (g ∷ earlier); session = got level 1 g (g ∷ earlier) }

-- ---- what an event asks for

abbrev pub channel : Channel
channel = record { headerpad = 0; maxrequest = 65536; maxresponse = 65536; cached = 65536; operations = 32; requests = 16; ird = None }

-- attributes 1 and 4
abbrev pub type_and_size : Bitmap
type_and_size = record { words = 18 ∷ 0 ∷ 0 ∷ 0 ∷ 0 ∷ 0 ∷ 0 ∷ 0 ∷ [] }

-- attributes 1 and 80, the second being bit 16 of word 2
abbrev pub type_and_label : Bitmap
type_and_label = record { words = 2 ∷ 0 ∷ 65536 ∷ 0 ∷ 0 ∷ 0 ∷ 0 ∷ 0 ∷ [] }

-- the anonymous state id (RFC 8881 section 8.2.3)
abbrev pub anonymous : StateId
anonymous = record { seqid = 0; other = replicate 12 0 }

-- the first event of a row: EXCHANGE_ID
abbrev pub first_ops : (place : ℕ) → List Op
first_ops place = ops.ExchangeId (replicate 8 0) (codes "gen" ++ decimal place) 0 None ∷ []

-- the second: CREATE_SESSION of the client
abbrev pub second_ops : (client : ℕ) → List Op
second_ops client =
    ops.CreateSession (record { client = client; sequence = 1; flags = 0; fore = channel; back = channel; program = 0; callbacks = [] }) ∷ []

-- `g0` to `g99`
abbrev pub name : (pick : ℕ) → List ℕ
name pick = codes "g" ++ decimal (pick / 4 % 100)

-- an OPEN for writing, which makes the file where it isn't there
abbrev pub open_op : (client pick : ℕ) → Op
open_op client pick = ops.Open 0 2 0 client (codes "o") (Some (Unchecked (record { mask = no_attributes; list = [] }))) (Name (name pick))

-- what is asked in the root directory; the content is what a WRITE brings
abbrev pub root_ops : (client : ℕ) → (content : List ℕ) → (pick : ℕ) → List Op
root_ops client content pick =
    if pick % 4 == 0 then ops.ReadDir 0 (replicate 8 0) 4096 4096 type_and_label ∷ []
    else (if pick % 4 == 1 then open_op client pick ∷ []
    else (if pick % 4 == 2 then ops.Lookup (name pick) ∷ ops.GetAttr type_and_size ∷ []
    else ops.Lookup (name pick) ∷ ops.Write anonymous 0 0 content ∷ []))

-- each later one: SEQUENCE on slot 0 with the next number, and then in the root directory
abbrev pub later_ops : (session : List ℕ) → (sequence client : ℕ) → (content : List ℕ) → (pick : ℕ) → List Op
later_ops session number client content pick =
    ops.Sequence (record { session = session; sequence = number; slot = 0; highest = 0; cachethis = true }) ∷ ops.PutRootFh ∷ root_ops client content pick

abbrev pub ops_of : Row → Turn → (content : List ℕ) → List Op
ops_of row turn content =
    if turn.past.events == 0 then first_ops turn.place
    else (if turn.past.events == 1 then second_ops (client_id row.level turn.past.client)
    else later_ops (session_id row.level turn.past.session) (turn.past.events - 1) (client_id row.level turn.past.client) content turn.pick)

-- ---- events

abbrev pub compound_of : List Op → Compound
compound_of ops = record { tag = []; minor = 2; count = length ops; ops = ops }

-- the user of a row, by AUTH_SYS (RFC 5531 appendix A)
abbrev pub credential : (uid : ℕ) → OpaqueAuth
credential uid = user_auth (codes "gen") uid

abbrev pub no_verifier : OpaqueAuth
no_verifier = no_auth

-- what a WRITE of an event brings
abbrev pub content : (event : ℕ) → List ℕ
content event = replicate 64 (event % 256)

unfoldable pub message : Row → Turn → List ℕ
message row turn = call_text turn.event last_procedure (credential row.uid) no_verifier (compound_text (compound_of (ops_of row turn (content turn.event))))

abbrev pub event_of : Row → Turn → Event
event_of row turn = record { class = row.class; link = turn.place; moment = record { secs = turn.event; nanos = 0 }; message = message row turn }

-- the event of a number x in the row at a place, after events in the rows at the earlier places
abbrev pub event_at : Policy → (e x g : ℕ) → (earlier : List ℕ) → Event
event_at p e x g earlier = event_of (row_at p g) (record { event = e; place = g; pick = roll x / 1024; past = past_of (λ h. (row_at p h).level) g earlier })

-- so many events of a site
unfoldable pub generated : Policy → (seed events : ℕ) → List Event
generated p seed zero = []
generated p seed (suc e) =
    generated p seed e
    ++ event_at p (suc e) (number seed (suc e)) (place_of (length (rows p)) (number seed (suc e))) (places (length (rows p)) seed e) ∷ []
