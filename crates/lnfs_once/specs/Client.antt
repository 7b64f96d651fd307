-- What a client asks, and a client that sends one request at a time: it makes the next one once it took a reply to the
-- last. Until then it may send that one again.
use Rattle.std.specs.Prelude.{ℕ, Bool, false, cond, ◌==◌, ◌+◌, Option, Some, None}

-- what a request asks
pub data Kind : Type 0 where
  -- for a context
  Assert : Kind
  -- for a client id
  Exchange : Kind
  -- for a session of a client id
  Create : Kind
  -- operations under a session's next sequence
  Compound : Kind
  -- that a session ends
  Destroy : Kind
  -- that a client id ends
  Leave : Kind
  -- that a context ends
  End : Kind

-- The context that a request comes in, 0 for none, and the client id or the session that it names.
pub record Place : Type 0 where
  pub context : ℕ
  pub number : ℕ

-- A request as it is sent: its transaction, what it asks, of what, and under which sequence, 0 where its kind has none.
-- The payload is all else that it says, and may be its whole record.
pub record Packet (A : Type 0) : Type 0 where
  pub xid : ℕ
  pub kind : Kind
  pub place : Place
  pub sequence : ℕ
  pub payload : A

-- What the client reads from a reply to its request.
pub data Tells : Type 0 where
  -- a client id, and the next sequence of its CREATE_SESSION
  Known : (id next : ℕ) → Tells
  -- a session
  Made : (session : ℕ) → Tells
  -- the COMPOUND passed its SEQUENCE
  Ran : Tells
  -- a context
  Granted : (context : ℕ) → Tells
  -- a refusal, or what has nothing to tell
  Nothing : Tells

-- What a client knows, and the request whose reply it awaits.
pub record Client (A : Type 0) : Type 0 where
  pub sent : ℕ  -- how many requests it made: the last xid
  pub context : ℕ  -- its context, 0 for none
  pub id : ℕ  -- its client id, 0 before the first
  pub create : ℕ  -- the next sequence of CREATE_SESSION
  pub session : ℕ  -- its session, 0 before the first
  pub sequence : ℕ  -- the next sequence of the session's slot
  pub awaited : Option (Packet A)

-- the client id or the session that its next request of a kind names
abbrev pub number_of : {A : Type 0} → Kind → Client A → ℕ
number_of Assert c = 0
number_of Exchange c = 0
number_of Create c = c.id
number_of Compound c = c.session
number_of Destroy c = c.session
number_of Leave c = c.id
number_of End c = 0

-- what its next request of a kind names
abbrev pub place_of : {A : Type 0} → Kind → Client A → Place
place_of k c = record { context = c.context; number = number_of k c }

-- the sequence that its next request of a kind brings
abbrev pub sequence_of : {A : Type 0} → Kind → Client A → ℕ
sequence_of Assert c = 0
sequence_of Exchange c = 0
sequence_of Create c = c.create
sequence_of Compound c = c.sequence
sequence_of Destroy c = 0
sequence_of Leave c = 0
sequence_of End c = 0

-- the next request, under a transaction of its own
abbrev pub packet_of : {A : Type 0} → Kind → A → Client A → Packet A
packet_of kind payload c = record {
  xid = c.sent + 1;
  kind = kind;
  place = place_of kind c;
  sequence = sequence_of kind c;
  payload = payload;
}

-- The sequence after this one: the last is followed by 0 (RFC 8881 section 2.10.6.1).
abbrev pub following : ℕ → ℕ → ℕ
following top n = cond (n == top) 0 (n + 1)

-- A sequence is spent as the request is made, be it answered or not.
abbrev pub spent : {A : Type 0} → ℕ → Kind → Client A → Client A
spent top Assert c = c
spent top Exchange c = c
spent top Create c = record c { create = following top c.create }
spent top Compound c = record c { sequence = following top c.sequence }
spent top Destroy c = c
spent top Leave c = c
spent top End c = c

-- the client once it made a request, which it awaits
abbrev pub next_request : {A : Type 0} → ℕ → Kind → A → Client A → Client A
next_request top kind payload c = record (spent top kind c) { sent = c.sent + 1; awaited = Some (packet_of kind payload c) }

-- A request is made only where none is awaited.
abbrev pub offered : {A : Type 0} → Kind → A → Client A → Option (Packet A) → Option (Packet A)
offered kind payload c None = Some (packet_of kind payload c)
offered kind payload c (Some p) = None

abbrev pub asked : {A : Type 0} → ℕ → Kind → A → Client A → Option (Packet A) → Client A
asked top kind payload c None = next_request top kind payload c
asked top kind payload c (Some p) = c

-- ---- what a reply tells

abbrev pub told_client : {A : Type 0} → Tells → Client A → Client A
told_client (Known id next) c = record c { id = id; create = next }
told_client (Made session) c = c
told_client Ran c = c
told_client (Granted context) c = c
told_client Nothing c = c

abbrev pub told_session : {A : Type 0} → Tells → Client A → Client A
told_session (Known id next) c = c
told_session (Made session) c = record c { session = session; sequence = 1 }
told_session Ran c = c
told_session (Granted context) c = c
told_session Nothing c = c

-- In a new context the client begins anew, with no client id and no session.
abbrev pub told_context : {A : Type 0} → Tells → Client A → Client A
told_context (Known id next) c = c
told_context (Made session) c = c
told_context Ran c = c
told_context (Granted context) c = record c { context = context; id = 0; session = 0 }
told_context Nothing c = c

-- the client once it read a reply to its request of a kind
abbrev pub learned : {A : Type 0} → Kind → Tells → Client A → Client A
learned Assert tells c = told_context tells c
learned Exchange tells c = told_client tells c
learned Create tells c = told_session tells c
learned Compound tells c = c
learned Destroy tells c = c
learned Leave tells c = c
learned End tells c = c

-- whether a reply under a transaction is one to the awaited request
abbrev pub takes : {A : Type 0} → ℕ → Option (Packet A) → Bool
takes xid None = false
takes xid (Some p) = p.xid == xid

-- a client that made no request
abbrev pub first_client : {A : Type 0} → Client A
first_client = record { sent = 0; context = 0; id = 0; create = 1; session = 0; sequence = 1; awaited = None }
