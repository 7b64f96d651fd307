-- What the code's answers of a SEQUENCE stand for.
use Rattle.std.specs.Prelude.{ℕ, ◌-◌, List, [], Result, Ok, Err}
use Rattle.lnfs_types.specs.declared.event.Moment.{Moment}
use Rattle.lnfs_arguments.specs.declared.types.Sequence.{Sequence}
use Rattle.lnfs_world.specs.World.{Id, Client, client_at}
use Rattle.lnfs_world.specs.Change.{Change}
use Rattle.lnfs_operations.specs.Chain.{Answer, Done, Refused}
use Rattle.lnfs_operations.specs.Sequence.{Sequenced, renewing}
use Rattle.lnfs_operations.specs.Sequence as definition
use Rattle.lnfs_session.specs.declared.clients.SessionError.{SessionError}
use Rattle.lnfs_session.specs.declared.sequence.Seq.{Seq}
use Rattle.lnfs_session.specs.declared.sequence.Seq.TheVariants as seq
use Rattle.lnfs_session.specs.Listed.{id_of, session_id_of}

-- what is told of a request that wasn't refused
pub data Arrived : Type 0 where
  -- a new one: its session and slot, the client of the session, the most bytes of a response, the highest slot
  New : (session : Id) (slot : ℕ) (client : Id) (room highest : ℕ) → Arrived
  -- the result of the first time
  Again : (reply : List ℕ) → Arrived

-- what the definition tells of a session, in these words
abbrev pub arrived : Sequence → Sequenced → Arrived
arrived args (definition.New x) = New x.id args.slot (record { level = x.id.level; number = x.client }) x.channel.max_response (x.channel.max_requests - 1)
arrived args (definition.Again reply) = Again reply

abbrev pub arrival_of : Seq → Arrived
arrival_of (seq.New at client room highest) = New (session_id_of at.session) at.slot (id_of client) room highest
arrival_of (seq.Replay reply) = Again reply.now

abbrev pub answered_as : {R S : Type 0} → (R → S) → Answer R → Answer S
answered_as f (Done r) = Done (f r)
answered_as f (Refused why) = Refused why

-- What is left to change where it came so: the lease of the client of a new one begins again.
abbrev pub renewed_for : Moment → List Client → Arrived → List Change
renewed_for moment clients (New session slot client room highest) = renewing moment (client_at clients client)
renewed_for moment clients (Again reply) = []

abbrev pub left_for : Moment → List Client → Result Seq SessionError → List Change
left_for moment clients (Ok seq) = renewed_for moment clients (arrival_of seq)
left_for moment clients (Err e) = []
