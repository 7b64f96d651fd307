-- The client that the repository ships, a server, and a network between them that may lose, repeat and reorder.
use Rattle.std.specs.Prelude.{◌≡◌, ℕ, ◌+◌, ◌%◌, ◌^◌, Bool, true, false, cond, not, ◌&&◌, ◌||◌, nat_lt, is_none, is_some, List, [], ◌∷◌, drop, Option, Some, None}
use Rattle.std.specs.Int.{w64, from_be_bytes}
use Rattle.lnfs_types.specs.declared.event.Event.{Event}
use Rattle.lnfs_arguments.specs.declared.types.Op.{Op}
use Rattle.lnfs_policy.specs.Policy.{Policy}
use Rattle.lnfs_gss3.specs.Mechanism.{Signing}
use Rattle.lnfs_script.specs.declared.action.Action.{Action}
use Rattle.lnfs_script.specs.declared.action.Action.TheVariants.{Mount}
use Rattle.lnfs_script.specs.declared.identity.Identity.{Identity}
use Rattle.lnfs_script.specs.declared.identity.Identity.TheVariants as identities
use Rattle.lnfs_script.specs.Fits.{ActionFits, ActionSuits}
use Rattle.lnfs_asking.specs.declared.sent.Sent.{Sent}
use Rattle.lnfs_client.specs.declared.known.Known.{Known}
use Rattle.lnfs_client.specs.declared.known.Running.{Running}
use Rattle.lnfs_client.specs.declared.stage.Stage.{Stage}
use Rattle.lnfs_client.specs.declared.stage.Stage.TheVariants.{Asserting, Exchanging, Creating, Reclaiming, Asking, Changing, Closing, EndingSession, EndingClient, EndingContext}
use Rattle.lnfs_client.specs.Machine.{started, begun, is_mount, asked, awaited, may_ask, signer_of, turn}
use Rattle.lnfs_client.specs.Requests.{ops_of}
use Rattle.lnfs_client.specs.Runs.{may_begin, most_requests}
use Rattle.lnfs_operations.specs.Extra.{Extra}
use Rattle.lnfs_operations.specs.Identifiers.{session_named}
use Rattle.lnfs_once.specs.Client.{Kind, Assert, Exchange, Create, Compound, Destroy, Leave, End, Packet, first_client}
use Rattle.lnfs_once.specs.Server.{Server}
use Rattle.lnfs_once.specs.Schedule.{Reply, State, nth, posted, noted}
use Rattle.lnfs_slots.specs.OneClient.{Seen, When, serve, others, step_server}
use Rattle.lnfs_retries.specs.Packets.{Setting, client_writer, sent_as}

-- ---- the client's next request, as a packet

-- what is asked in a stage
abbrev pub kind_at : Stage → Kind
kind_at Asserting = Assert
kind_at Exchanging = Exchange
kind_at Creating = Create
kind_at Reclaiming = Compound
kind_at Asking = Compound
kind_at Changing = Compound
kind_at Closing = Compound
kind_at EndingSession = Destroy
kind_at EndingClient = Leave
kind_at EndingContext = End

-- the numbers in the identifiers that the client has
abbrev pub context_in : Known → ℕ
context_in k = from_be_bytes w64 (drop 8 k.context)

abbrev pub client_in : Known → ℕ
client_in k = k.client % 2 ^ 32

abbrev pub session_in : Known → ℕ
session_in k = (session_named k.session).number

abbrev pub number_in : Kind → Known → ℕ
number_in Assert k = 0
number_in Exchange k = 0
number_in Create k = client_in k
number_in Compound k = session_in k
number_in Destroy k = session_in k
number_in Leave k = client_in k
number_in End k = 0

abbrev pub sequence_in : Kind → Known → ℕ
sequence_in Create k = k.creating
sequence_in Compound k = k.sequence
sequence_in kind k = 0

-- the operations behind the first
abbrev pub behind_first : List Op → List Op
behind_first [] = []
behind_first (op ∷ more) = more

abbrev pub payload_in : Policy → Known → Running → Kind → List Op
payload_in p k r Compound = behind_first (ops_of p k r r.stage)
payload_in p k r kind = []

abbrev pub packet_for : Policy → Known → Running → Packet (List Op)
packet_for p k r = record {
  xid = k.sent + 1;
  kind = kind_at r.stage;
  place = record { context = context_in k; number = number_in (kind_at r.stage) k };
  sequence = sequence_in (kind_at r.stage) k;
  payload = payload_in p k r (kind_at r.stage);
}

abbrev pub packet_in : Policy → Known → Option Running → Option (Packet (List Op))
packet_in p k None = None
packet_in p k (Some r) = Some (packet_for p k r)

-- ---- what a client is told to do

-- an action within the bounds of a script, whose levels are the policy's
pub record Deed (p : Policy) : Type 0 where
  pub action : Action
  pub fits : ActionFits action
  pub suits : ActionSuits p action

-- that it mounts
abbrev pub mounting : (p : Policy) → Deed p
mounting p = record { action = Mount; fits = tt; suits = tt }

-- ---- schedules

module _ (X : Extra) (m : Signing) (p : Policy) (s : Setting) (level : ℕ) where
  -- the server's step for the client's packets
  abbrev pub server_of : Server
  server_of = step_server X m p (client_writer X m p s level)

  abbrev pub Given : Type 0
  Given = Reply (List Op) (Option (List ℕ))

  -- Where a schedule has come to. Its lists leave out nothing, and have the newest first.
  pub record ClientState : Type 0 where
    pub client : Known
    pub waits_for : Option (Packet (List Op))  -- its request that is unanswered
    pub server : Seen X
    pub sent : List (Packet (List Op))  -- every packet that the client sent, once for each time
    pub given : List Given  -- every reply that the server gave to these
    pub acts : List Given  -- those of them that it gave as it acted
    pub taken : List Given  -- what the client took, with the request that it awaited

  -- A turn that can't be does nothing.
  pub data ClientTurn : Type 0 where
    -- an action begins
    Begin : Deed p → ClientTurn
    -- the client makes its next request and sends it
    Next : ClientTurn
    -- the client sends the awaited request again
    Resend : ClientTurn
    -- a packet that was ever sent comes to the server
    Arrive : (packet : ℕ) (when : When) → ClientTurn
    -- a reply that was ever given to a packet of the client comes to it
    Return : (reply : ℕ) → ClientTurn
    -- an event of others comes to the server
    Others : (event : Event) → ClientTurn

  -- a client asks for no more than so many requests
  abbrev pub asks : ClientState → ClientState
  asks t =
      let packet = packet_in p t.client t.client.running in
      cond (nat_lt t.client.sent most_requests && may_ask t.client)
      (record t { client = asked m p t.client; waits_for = packet; sent = posted packet t.sent })
      t

  abbrev pub arrives : ClientState → When → Option (Packet (List Op)) → ClientState
  arrives t when None = t
  arrives t when (Some q) =
      let served = serve X m p (client_writer X m p s level) t.server when q in
      let reply : Given = record { packet = q; outcome = served.reply } in
      record t { server = served.state; given = reply ∷ t.given; acts = cond served.acts (reply ∷ t.acts) t.acts }

  -- the client once a reply has come, if there is one
  abbrev pub client_after : Known → Option (List ℕ) → Known
  client_after k None = k
  client_after k (Some reply) = (turn m p k reply).client

  -- What the client takes it awaits no more.
  abbrev pub is_taken : (before after : Known) → Bool
  is_taken before after = is_some (awaited before) && is_none (awaited after)

  abbrev pub returns : ClientState → Option Given → ClientState
  returns t None = t
  returns t (Some g) =
      let after = client_after t.client g.outcome in
      record t { client = after; waits_for = cond (is_taken t.client after) None t.waits_for; taken = cond (is_taken t.client after) (noted server_of t.waits_for g.outcome t.taken) t.taken }

  -- one turn
  abbrev pub client_happens : ClientState → ClientTurn → ClientState
  client_happens t (Begin deed) = cond (may_begin t.client deed.action) (record t { client = begun deed.action t.client }) t
  client_happens t Next = asks t
  client_happens t Resend = record t { sent = posted t.waits_for t.sent }
  client_happens t (Arrive k when) = arrives t when (nth t.sent k)
  client_happens t (Return k) = returns t (nth t.given k)
  client_happens t (Others event) = record t { server = others X m p (client_writer X m p s level) t.server event }

  -- turns in order
  abbrev pub client_run : List ClientTurn → ClientState → ClientState
  client_run [] t = t
  client_run (turn ∷ rest) t = client_run rest (client_happens t turn)

  -- before the first turn
  abbrev pub client_start : Seen X → ClientState
  client_start v = record { client = started s.level s.who s.owner; waits_for = None; server = v; sent = []; given = []; acts = []; taken = [] }

  -- what the law says acting once of; it says nothing of the client but through its lists
  abbrev pub seen_state : ClientState → State server_of
  seen_state t = record { client = first_client; server = t.server; sent = t.sent; given = t.given; acts = t.acts; taken = t.taken }

  -- The packet that is awaited is the request that the client sends again.
  abbrev pub sent_of_packet : Option (Packet (List Op)) → Option Sent
  sent_of_packet None = None
  sent_of_packet (Some q) = Some (sent_as X m p s level (signer_of p s.who) q)

  abbrev pub IsAwaited : ClientState → Type 0
  IsAwaited t = awaited t.client ≡ sent_of_packet t.waits_for

  -- The first request of a Mount is sent, and sent once more, and both of them come.
  abbrev pub twice : When → List ClientTurn
  twice when = Begin (mounting p) ∷ Next ∷ Resend ∷ Arrive 1 when ∷ Arrive 0 when ∷ []
