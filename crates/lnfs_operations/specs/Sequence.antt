-- SEQUENCE (RFC 8881 section 18.46).
use Rattle.std.specs.Prelude.{ℕ, ◌==◌, List, [], ◌∷◌, Option, Some, None, nat_le, slice_get}
use Rattle.lnfs_types.specs.declared.event.Moment.{Moment}
use Rattle.lnfs_world.specs.World.{Client, Slot, Session, World, client_at}
use Rattle.lnfs_world.specs.Change.{Change, SetClient}
use Rattle.lnfs_world.specs.Leases.{renewed}
use Rattle.lnfs_world.specs.Outcome.{Place, Outcome, Act}
use Rattle.lnfs_arguments.specs.declared.types.Sequence.{Sequence}
use Rattle.lnfs_arguments.specs.declared.statuses.TheConstants.{NFS4ERR_BADSESSION, NFS4ERR_BADSLOT, NFS4ERR_REQ_TOO_BIG, NFS4ERR_TOO_MANY_OPS}
use Rattle.lnfs_operations.specs.declared.Gate.TheVariants as gates
use Rattle.lnfs_monitor.specs.declared.rule.Rule.TheVariants.{M9}
use Rattle.lnfs_operations.specs.Chain.{Answer, refuse, done, demand, where_there}
use Rattle.lnfs_operations.specs.Identifiers.{session_named, session_under}
use Rattle.lnfs_operations.specs.InOrder.{in_order}
use Rattle.lnfs_operations.specs.Keeping.{next_sequence}

-- A COMPOUND as it was sent: the bytes of its arguments, the length of its record, and the count of its
-- operations.
pub record Sent : Type 0 where
  pub arguments : List ℕ
  pub size : ℕ
  pub count : ℕ

pub data Sequenced : Type 0 where
  -- a request that is new, under its session
  New : (session : Session) → Sequenced
  -- the result that was kept
  Again : (reply : List ℕ) → Sequenced

-- the operations behind it stand in the session
abbrev pub in_session : Place → Session → Place
in_session p x = record p { client = Some x.client; session = Some x.id.number }

abbrev pub renewing : Moment → Option Client → List Change
renewing moment None = []
renewing moment (Some c) = SetClient (renewed moment c) ∷ []

-- The lease of the session's client begins again (RFC 8881 section 8.3).
abbrev pub renewal : Place → World → Session → List Change
renewal p w x = renewing p.moment (client_at w.clients (record { level = p.subject; number = x.client }))

-- a new request in a session
abbrev pub begun_in : Place → World → Session → Outcome (Answer Sequenced)
begun_in p w x = done (in_session p x) (New x) (renewal p w x)

-- A retry renews no lease.
abbrev pub on_slot : Sequence → Sent → Place → World → Session → Slot → Outcome (Answer Sequenced)
on_slot args sent p w x slot =
    in_order p slot.sequence (next_sequence slot.sequence) slot.kept args.sequence sent.arguments (λ reply. done p (Again reply) [])
    (begun_in p w x)

abbrev pub under_session : Sequence → Sent → Place → World → Session → Outcome (Answer Sequenced)
under_session args sent p w x =
    demand (nat_le sent.size x.channel.max_request) (refuse p gates.Session NFS4ERR_REQ_TOO_BIG) (
    demand (nat_le sent.count x.channel.max_operations) (refuse p gates.Session NFS4ERR_TOO_MANY_OPS) (
    where_there (slice_get x.slots args.slot) (on_slot args sent p w x) (refuse p gates.Session NFS4ERR_BADSLOT)))

-- It changes no slot: that moves when the result of the whole COMPOUND is kept.
abbrev pub sequence : Sequence → Sent → Act (Answer Sequenced)
sequence args sent p w =
    demand ((session_named args.session).level == p.subject) (refuse p (gates.Monitor M9) NFS4ERR_BADSESSION) (
    where_there (session_under args.session w.sessions) (under_session args sent p w) (refuse p gates.Session NFS4ERR_BADSESSION))
