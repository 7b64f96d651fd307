-- What a server owes, so that requests act once over every schedule. Each law is about one step, and says nothing of
-- schedules. The law over schedules doesn't speak of these: they are what has to be proved of a server.
use Rattle.std.specs.Prelude.{◌≡◌, ◌⊎◌, ℕ, Bool, true, false, cond, ◌+◌, ◌≤◌, Option, Some, None}
use Rattle.lnfs_once.specs.Client.{Kind, Assert, Exchange, Create, Compound, Destroy, Leave, End, Place, Packet, Known, Made, Granted, Nothing}
use Rattle.lnfs_once.specs.Server.{Served, Server}

-- where the sequences of requests are kept
pub data Holder : Type 0 where
  -- in the record of a client id: those of CREATE_SESSION
  Record : Holder
  -- in a session: those of COMPOUND
  Session : Holder

-- what the number of a request's place names
abbrev pub holder_of : Kind → Holder
holder_of Assert = Record
holder_of Exchange = Record
holder_of Create = Record
holder_of Compound = Session
holder_of Destroy = Session
holder_of Leave = Record
holder_of End = Record

-- a kind of request that comes on a slot
abbrev pub has_slot : Kind → Bool
has_slot Assert = false
has_slot Exchange = false
has_slot Create = true
has_slot Compound = true
has_slot Destroy = false
has_slot Leave = false
has_slot End = false

-- How the laws see a state: the client's own rows in it.
pub record ClientRows (S : Server) : Type 1 where
  pub Slot : Type 0
  -- the last sequence that came on a slot, 0 before the first
  pub last : Slot → ℕ
  -- a slot keeps a reply for a request
  pub Keeps : Slot → Packet S.A → S.R → Type 0
  -- the slot of a client id or a session, where it is the client's own
  pub row : S.V → Holder → ℕ → Option Slot
  -- whether one of the client's contexts is there; that of 0 always is
  pub there : S.V → ℕ → Bool
  -- a client id or a session that was given, and not to another, and a context likewise
  pub Given : S.V → Holder → ℕ → Type 0
  pub GivenContext : S.V → ℕ → Type 0
  -- what a request gets whose slot is not there, by whether its context is
  pub refusal : Packet S.A → Bool → S.R
  -- what holds of every state that is kept
  pub Good : S.V → Type 0

module _ {S : Server} (N : ClientRows S) where
  -- the slot of a place: without its context it isn't there
  abbrev pub slot_at : S.V → Holder → Place → Option N.Slot
  slot_at v h i = cond (N.there v i.context) (N.row v h i.number) None

  -- the slot that a request of a kind comes on
  abbrev pub slot_of : S.V → Kind → Place → Option N.Slot
  slot_of v Assert i = None
  slot_of v Exchange i = None
  slot_of v Create i = slot_at v Record i
  slot_of v Compound i = slot_at v Session i
  slot_of v Destroy i = None
  slot_of v Leave i = None
  slot_of v End i = None

  -- what a request names was given to the client
  abbrev pub Knows : S.V → Kind → Place → Type 0
  Knows v k i = N.Given v (holder_of k) i.number × N.GivenContext v i.context

  -- what DESTROY_SESSION, or the end of a context, names is gone
  abbrev pub Gone : S.V → Kind → Place → Type 0
  Gone v Assert i = Unit {0}
  Gone v Exchange i = Unit {0}
  Gone v Create i = Unit {0}
  Gone v Compound i = Unit {0}
  Gone v Destroy i = slot_at v Session i ≡ None
  Gone v Leave i = Unit {0}
  Gone v End i = N.there v i.context ≡ false

  -- a request that its slot is past, or that has ended what it names
  abbrev pub Past : S.V → Packet S.A → Type 0
  Past v q = ((x : N.Slot) → slot_of v q.kind q.place ≡ Some x → q.sequence ≤ N.last x) × Gone v q.kind q.place

  -- From one state to another what was given stays given, and a row of it is as before or gone; a row that is new is unused;
  -- no context comes back.
  pub record IsKept (v w : S.V) : Type 0 where
    pub good : N.Good w
    pub grows : (h : Holder) (n : ℕ) → N.Given v h n → N.Given w h n
    pub grows_contexts : (c : ℕ) → N.GivenContext v c → N.GivenContext w c
    pub stays : (h : Holder) (n : ℕ) (x : N.Slot) → N.Given v h n → N.row w h n ≡ Some x → N.row v h n ≡ Some x
    pub new : (h : Holder) (n : ℕ) (x : N.Slot) → N.row w h n ≡ Some x → (N.row v h n ≡ Some x) ⊎ (N.last x ≡ 0)
    pub ends : (c : ℕ) → N.GivenContext v c → N.there v c ≡ false → N.there w c ≡ false

  -- Besides, sessions and contexts stay, and a client's record goes only where it keeps the making of no session that is
  -- there.
  pub record IsGentle (v w : S.V) : Type 0 where
    pub kept : IsKept v w
    pub sessions : (n : ℕ) → N.Given v Session n → N.row w Session n ≡ None → N.row v Session n ≡ None
    pub contexts : (c : ℕ) → N.GivenContext v c → N.there v c ≡ true → N.there w c ≡ true
    pub records : (q : Packet S.A) (x : N.Slot) (r : S.R) (session : ℕ) → q.kind ≡ Create → N.row v Record q.place.number ≡ Some x → N.Keeps x q r → S.tells q r ≡ Made session → N.row w Record q.place.number ≡ None → N.row v Session session ≡ None

  -- the state is as it was, and nothing acts
  pub record IsStill (v : S.V) (t : Served S.V S.R) : Type 0 where
    pub state : t.state ≡ v
    pub acts : t.acts ≡ false

  -- a request without a slot
  pub record IsPlain (v : S.V) (q : Packet S.A) (t : Served S.V S.R) : Type 0 where
    pub kept : IsKept v t.state
    -- the client may have sent others since
    pub gentle : Gone v q.kind q.place → IsGentle v t.state
    pub acts : t.acts ≡ false
    pub gone : Gone t.state q.kind q.place
    -- the client id that is told was given, with the next sequence of its record
    pub known : (id next : ℕ) → q.kind ≡ Exchange → S.tells q t.reply ≡ Known id next → N.Given t.state Record id × ((x : N.Slot) → N.row t.state Record id ≡ Some x → next ≡ N.last x + 1)
    pub granted : (context : ℕ) → q.kind ≡ Assert → S.tells q t.reply ≡ Granted context → N.GivenContext t.state context

  -- A request under the next sequence of its slot acts: the slot keeps its reply, and each other one is as before, gone, or
  -- new.
  pub record IsNew (v : S.V) (q : Packet S.A) (t : Served S.V S.R) : Type 0 where
    pub acts : t.acts ≡ true
    pub good : N.Good t.state
    pub grows : (h : Holder) (n : ℕ) → N.Given v h n → N.Given t.state h n
    pub grows_contexts : (c : ℕ) → N.GivenContext v c → N.GivenContext t.state c
    pub contexts : (c : ℕ) → N.there t.state c ≡ N.there v c
    pub used : N.Slot
    pub at : N.row t.state (holder_of q.kind) q.place.number ≡ Some used
    pub moved : N.last used ≡ q.sequence
    pub keeps : N.Keeps used q t.reply
    pub elsewhere : (h : Holder) (n : ℕ) (z : N.Slot) → N.Given v h n → N.row t.state h n ≡ Some z → (N.row v h n ≡ Some z) ⊎ ((h ≡ holder_of q.kind) × (n ≡ q.place.number))
    pub new : (h : Holder) (n : ℕ) (z : N.Slot) → N.row t.state h n ≡ Some z → (N.row v h n ≡ Some z) ⊎ (N.last z ≡ 0) ⊎ (z ≡ used)
    -- the session that is told is there, and unused
    pub made : (session : ℕ) → q.kind ≡ Create → S.tells q t.reply ≡ Made session → N.Given t.state Session session × ((z : N.Slot) × (N.row t.state Session session ≡ Some z) × (N.last z ≡ 0))

  -- no slot has come to the last sequence
  abbrev pub IsEarly : S.V → Type 0
  IsEarly v = (1 ≤ S.top) × ((h : Holder) (n : ℕ) (x : N.Slot) → N.row v h n ≡ Some x → N.last x + 1 ≤ S.top)

  -- a state that is kept, and a request that the client may have sent
  pub record Comes (v : S.V) (q : Packet S.A) : Type 0 where
    pub good : N.Good v
    pub early : IsEarly v
    pub suits : S.suits q ≡ true
    pub knows : Knows v q.kind q.place

  -- the laws
  pub record IsLawful : Type 0 where
    -- without a slot
    pub plain : (v : S.V) (m : S.M) (q : Packet S.A) → Comes v q → has_slot q.kind ≡ false → IsPlain v q (S.serve v m q)
    -- On a slot that is not there each request gets the same refusal at each moment, and it tells nothing.
    pub lost : (v : S.V) (m : S.M) (q : Packet S.A) → Comes v q → has_slot q.kind ≡ true → slot_of v q.kind q.place ≡ None → IsStill v (S.serve v m q) × ((S.serve v m q).reply ≡ N.refusal q (N.there v q.place.context))
    pub refused : (q : Packet S.A) (there : Bool) → has_slot q.kind ≡ true → S.tells q (N.refusal q there) ≡ Nothing
    -- a sequence that is not new
    pub stale : (v : S.V) (m : S.M) (q : Packet S.A) (x : N.Slot) → Comes v q → has_slot q.kind ≡ true → slot_of v q.kind q.place ≡ Some x → q.sequence ≤ N.last x → IsStill v (S.serve v m q)
    -- the request whose reply is kept gets it
    pub retry : (v : S.V) (m : S.M) (q : Packet S.A) (x : N.Slot) (r : S.R) → Comes v q → has_slot q.kind ≡ true → slot_of v q.kind q.place ≡ Some x → N.last x ≡ q.sequence → N.Keeps x q r → (S.serve v m q).reply ≡ r
    -- the next sequence
    pub due : (v : S.V) (m : S.M) (q : Packet S.A) (x : N.Slot) → Comes v q → has_slot q.kind ≡ true → slot_of v q.kind q.place ≡ Some x → q.sequence ≡ N.last x + 1 → IsNew v q (S.serve v m q)
    -- events of others, which make no row of the client's
    pub others : (v : S.V) (e : S.E) → N.Good v → IsGentle v (S.others v e) × ((h : Holder) (n : ℕ) (x : N.Slot) → N.row (S.others v e) h n ≡ Some x → N.row v h n ≡ Some x)
    -- number 0 names nothing, and is nobody's
    pub zero : (v : S.V) → N.Good v → (h : Holder) → N.Given v h 0 × (N.row v h 0 ≡ None)

  -- a state in which the client has nothing
  pub record IsBare (v : S.V) : Type 0 where
    pub good : N.Good v
    pub rows : (h : Holder) (n : ℕ) → N.row v h n ≡ None
    pub met : N.GivenContext v 0
