-- The step as a server of the law, for one client: how the client's requests are written and read, which rows of a state are
-- the client's, and which events of others name nothing of it.
use Rattle.std.specs.Prelude.{◌≡◌, ◌⊎◌, ℕ, Bool, true, false, cond, not, ◌&&◌, ◌||◌, ◌==◌, ◌≤◌, List, [], ◌∷◌, Option, Some, None, slice_get, option_map}
use Rattle.std.specs.List.{list_any}
use Rattle.std.specs.Str.{bytes_eq}
use Rattle.lnfs_types.specs.declared.event.Event.{Event}
use Rattle.lnfs_types.specs.declared.event.Moment.{Moment}
use Rattle.lnfs_arguments.specs.declared.types.Op.{Op}
use Rattle.lnfs_arguments.specs.declared.types.Op.TheVariants as ops
use Rattle.lnfs_policy.specs.Policy.{Policy}
use Rattle.lnfs_world.specs.World.{Id, Kept, Client as ClientRow, Slot as SlotRow, Session as SessionRow, World, client_at, session_at, last_of}
use Rattle.lnfs_world.specs.Outcome.{begins_at}
use Rattle.lnfs_world.specs.Both.{Both}
use Rattle.lnfs_world.specs.declared.numbers.TheConstants.{LAST_NUMBER, LAST_SEQUENCE}
use Rattle.lnfs_operations.specs.Extra.{Extra}
use Rattle.lnfs_operations.specs.Identifiers.{client_named, session_named}
use Rattle.lnfs_operations.specs.InOrder.{sequence_before}
use Rattle.lnfs_operations.specs.Served.{Keeper, Nowhere, Slot as InSlot, Record as InRecord, operation}
use Rattle.lnfs_operations.specs.SlotRule.{run_all}
use Rattle.lnfs_gss3.specs.declared.numbers.TheConstants.{RPCSEC_GSS_CTXPROBLEM}
use Rattle.lnfs_gss3.specs.Mechanism.{Signing}
use Rattle.lnfs_gss3.specs.Contexts.{has_context}
use Rattle.lnfs_site.specs.Site.{site_of}
use Rattle.lnfs_step.specs.Wrapping.{Wrapping, caller, answer_text, refusal_text}
use Rattle.lnfs_step.specs.Request.{InContext, Run, EndContext, Asked, Request, request_with}
use Rattle.lnfs_step.specs.Contexts.{is_there}
use Rattle.lnfs_step.specs.Step.{step_with, sent_of}
use Rattle.lnfs_step.specs.Journal.{Holds, first_state}
use Rattle.lnfs_once.specs.Client.{Kind, Assert, Packet, Tells}
use Rattle.lnfs_once.specs.Server.{Served, Server}
use Rattle.lnfs_once.specs.Laws.{Holder, Record, Session, ClientRows}

-- The client, and how its requests are written and its replies read. A request's call has the level, is wrapped so and
-- comes in its place's context; its arguments are what is kept.
pub record Writer (A : Type 0) : Type 0 where
  -- the class of the client's link
  pub class : ℕ
  -- the level that the server gives it, and the parent of its contexts
  pub level : ℕ
  pub parent : ℕ
  -- its owner, and the verifier of this boot
  pub owner : List ℕ
  pub verifier : List ℕ
  -- a request as a record
  pub text : Packet A → List ℕ
  -- its arguments, and how its reply is wrapped
  pub arguments : Packet A → List ℕ
  pub wrapping : Packet A → Wrapping
  -- the result of a request whose record or session is not there
  pub stale : Packet A → List ℕ
  -- a request that the client may make
  pub suits : Packet A → Bool
  -- what the client reads from a reply to it
  pub reads : Packet A → Option (List ℕ) → Tells

-- the most bytes of a record that the client sends, and the most operations of a COMPOUND
abbrev pub longest_request : ℕ
longest_request = 8192

abbrev pub most_operations : ℕ
most_operations = 20

-- The state of the server, and the numbers of the contexts that were given to the client: a context's row doesn't say to whom.
pub record Seen (X : Extra) : Type 0 where
  pub state : Both X.Row
  pub mine : List ℕ

-- before all events, with no context
abbrev pub before_all : (X : Extra) → Policy → Seen X
before_all X p = record { state = first_state X p; mine = [] }

-- when a packet comes, and on which link
pub record When : Type 0 where
  pub link : ℕ
  pub moment : Moment

-- the last sequence that came on a slot, and what is kept under it: of a session, or of a client's record
pub record Row : Type 0 where
  pub last : ℕ
  pub kept : Option Kept

-- ---- the client's own rows

-- whether a record is of the owner
abbrev pub is_owner : List ℕ → Option ClientRow → Bool
is_owner owner None = false
is_owner owner (Some c) = bytes_eq c.owner owner

-- a number of the client's level
abbrev pub at_level : ℕ → ℕ → Id
at_level level number = record { level = level; number = number }

-- whether a session is of the owner
abbrev pub is_session : List ℕ → ℕ → World → SessionRow → Bool
is_session owner level w x = is_owner owner (client_at w.clients (at_level level x.client))

-- What the owner's record shows. It has the sequence that comes next.
abbrev pub record_row : List ℕ → Option ClientRow → Option Row
record_row owner None = None
record_row owner (Some c) = cond (bytes_eq c.owner owner) (Some (record { last = sequence_before c.sequence; kept = c.kept })) None

-- what a slot shows
abbrev pub slot_row : SlotRow → Row
slot_row s = record { last = s.sequence; kept = s.kept }

-- What the owner's session shows: its first slot, on which all requests of the client come.
abbrev pub session_row : List ℕ → ℕ → World → Option SessionRow → Option Row
session_row owner level w None = None
session_row owner level w (Some x) = cond (is_session owner level w x) (option_map slot_row (slice_get x.slots 0)) None

-- the row of a number, where it is the owner's
abbrev pub row_of : List ℕ → ℕ → World → Holder → ℕ → Option Row
row_of owner level w Record n = record_row owner (client_at w.clients (at_level level n))
row_of owner level w Session n = session_row owner level w (session_at w.sessions (at_level level n))

-- a number that was given, and to no other
abbrev pub given_in : List ℕ → ℕ → World → Holder → ℕ → Type 0
given_in owner level w Record n = (n ≤ last_of level w.lasts.clients) × ((c : ClientRow) → client_at w.clients (at_level level n) ≡ Some c → bytes_eq c.owner owner ≡ true)
given_in owner level w Session n = (n ≤ last_of level w.lasts.sessions) × ((x : SessionRow) → session_at w.sessions (at_level level n) ≡ Some x → is_session owner level w x ≡ true)

-- whether a context was given to the client
abbrev pub is_mine : List ℕ → ℕ → Bool
is_mine mine c = list_any (λ n. n == c) mine

-- whether no row is there
abbrev pub is_absent : Option Row → Bool
is_absent None = true
is_absent (Some r) = false

-- ---- the step

-- whether a run keeps its result: then it acted
abbrev pub is_keeping : Keeper → Bool
is_keeping Nowhere = false
is_keeping (InSlot slot sequence) = true
is_keeping (InRecord client) = true

-- whether a request acts, which comes in a context that is there, if it comes in one
abbrev pub keeps_in : (X : Extra) → Policy → Both X.Row → Event → Request → Bool
keeps_in X p b event (Asked call (Run arguments c)) =
    is_there b.world.contexts call.level call.context && is_keeping (run_all (operation X (site_of p) (sent_of event arguments c) c) c (begins_at call.level event.moment) b).keeper
keeps_in X p b event _ = false

-- the context that an Assert made is the client's
abbrev pub mine_after : Kind → ℕ → ℕ → List ℕ → List ℕ
mine_after Assert before after mine = cond (before == after) mine (after ∷ mine)
mine_after _ before after mine = mine

module _ (X : Extra) (m : Signing) (p : Policy) {A : Type 0} (w : Writer A) where
  -- a packet of the client, as the event that it makes
  abbrev pub event_of : When → Packet A → Event
  event_of at q = record { class = w.class; link = at.link; moment = at.moment; message = w.text q }

  -- its step
  abbrev pub serve : Seen X → When → Packet A → Served (Seen X) (Option (List ℕ))
  serve v at q =
      let step = step_with X m p v.state (event_of at q) in
      record {
        state = record { state = step.state; mine = mine_after q.kind (last_of w.level v.state.world.lasts.contexts) (last_of w.level step.state.world.lasts.contexts) v.mine };
        reply = step.reply;
        acts = keeps_in X p v.state (event_of at q) (request_with X.grammar m p w.class (w.text q));
      }

  -- ---- events of others

  -- whether an identifier is that of a record, or of a session, of the client's
  abbrev pub names_client : World → Id → Bool
  names_client s i = i.level == w.level && is_owner w.owner (client_at s.clients i)

  abbrev pub names_session : World → Id → Bool
  names_session s i = i.level == w.level && not (is_absent (row_of w.owner w.level s Session i.number))

  -- an operation at the client's level that names its owner, its client id or its session
  abbrev pub names_in : World → Op → Bool
  names_in s (ops.ExchangeId verifier owner flags implementation) = bytes_eq owner w.owner
  names_in s (ops.CreateSession args) = names_client s (client_named args.client)
  names_in s (ops.DestroyClientId client) = names_client s (client_named client)
  names_in s (ops.DestroySession session) = names_session s (session_named session)
  names_in s (ops.Sequence args) = names_session s (session_named args.session)
  names_in s _ = false

  -- whether a call comes in a context of the client's
  abbrev pub comes_in : List ℕ → Option InContext → Bool
  comes_in mine None = false
  comes_in mine (Some c) = is_mine mine c.number

  -- whether a request names the client's owner, its client id, its session or its context
  abbrev pub names_as : Seen X → Request → Bool
  names_as v (Asked call (Run arguments c)) = call.level == w.level && (comes_in v.mine call.context || list_any (names_in v.state.world) c.ops)
  names_as v (Asked call (EndContext number)) = call.level == w.level && is_mine v.mine number
  names_as v _ = false

  -- an event that names something of the client's does nothing
  abbrev pub others : Seen X → Event → Seen X
  others v e = cond (names_as v (request_with X.grammar m p e.class e.message)) v (record v { state = (step_with X m p v.state e).state })

  -- the step, as a server of the law
  abbrev pub step_server : Server
  step_server = record {
    V = Seen X;
    A = A;
    R = Option (List ℕ);
    M = When;
    E = Event;
    top = LAST_SEQUENCE;
    suits = w.suits;
    serve = serve;
    others = others;
    tells = w.reads;
  }

  -- ---- the view

  -- a context of the client's that is there; that of 0, which is none, always is
  abbrev pub context_there : Seen X → ℕ → Bool
  context_there v c = c == 0 || (is_mine v.mine c && has_context v.state.world.contexts w.level w.parent c)

  -- a context that was given to the client
  abbrev pub context_met : Seen X → ℕ → Type 0
  context_met v c = (c ≡ 0) ⊎ ((is_mine v.mine c ≡ true) × (c ≤ last_of w.level v.state.world.lasts.contexts))

  -- what holds of every state that is kept
  pub record IsSound (v : Seen X) : Type 0 where
    pub holds : Holds X p v.state
    -- client ids go up to the last number
    pub numbers : last_of w.level v.state.world.lasts.clients ≤ LAST_NUMBER
    -- no number is 0
    pub no_client : client_at v.state.world.clients (at_level w.level 0) ≡ None
    pub no_session : session_at v.state.world.sessions (at_level w.level 0) ≡ None
    pub no_context : is_mine v.mine 0 ≡ false
    -- the owner has one record, under its verifier
    pub one : (i j : ℕ) (c d : ClientRow) → client_at v.state.world.clients (at_level w.level i) ≡ Some c → client_at v.state.world.clients (at_level w.level j) ≡ Some d → bytes_eq c.owner w.owner ≡ true → bytes_eq d.owner w.owner ≡ true → i ≡ j
    pub verifier : (i : ℕ) (c : ClientRow) → client_at v.state.world.clients (at_level w.level i) ≡ Some c → bytes_eq c.owner w.owner ≡ true → bytes_eq c.verifier w.verifier ≡ true
    -- what was given is not above the last number
    pub given : (c : ℕ) → is_mine v.mine c ≡ true → c ≤ last_of w.level v.state.world.lasts.contexts
    -- each of its sessions has a slot, and grants the client's requests
    pub slotted : (n : ℕ) (x : SessionRow) → session_at v.state.world.sessions (at_level w.level n) ≡ Some x → is_session w.owner w.level v.state.world x ≡ true → (s : SlotRow) × (slice_get x.slots 0 ≡ Some s)
    pub grants : (n : ℕ) (x : SessionRow) → session_at v.state.world.sessions (at_level w.level n) ≡ Some x → is_session w.owner w.level v.state.world x ≡ true → (longest_request ≤ x.channel.max_request) × (most_operations ≤ x.channel.max_operations)

  -- the client's rows in it
  abbrev pub rows : ClientRows step_server
  rows = record {
    Slot = Row;
    last = λ x. x.last;
    Keeps = λ x q r. (result : List ℕ) × (x.kept ≡ Some (record { arguments = w.arguments q; reply = result })) × (r ≡ Some (answer_text m (w.wrapping q) q.xid result));
    row = λ v h n. row_of w.owner w.level v.state.world h n;
    there = context_there;
    Given = λ v h n. given_in w.owner w.level v.state.world h n;
    GivenContext = context_met;
    refusal = λ q there. Some (cond there (answer_text m (w.wrapping q) q.xid (w.stale q)) (refusal_text m (w.wrapping q) q.xid (caller RPCSEC_GSS_CTXPROBLEM)));
    Good = IsSound;
  }
