-- CREATE_SESSION (RFC 8881 section 18.36).
use Rattle.std.specs.Prelude.{ℕ, ◌+◌, ◌==◌, Bool, true, false, not, ◌&&◌, List, [], ◌∷◌, ◌++◌, Option, Some, None, min, nat_lt, nat_le, count_by, replicate}
use Rattle.std.specs.List.{find}
use Rattle.std.specs.Str.{bytes_eq}
use Rattle.lnfs_world.specs.World.{Id, Client, Channel, Slot, Session, World, same_id, client_at, last_of}
use Rattle.lnfs_world.specs.Change.{SetClient, AddSession}
use Rattle.lnfs_world.specs.Leases.{renewed}
use Rattle.lnfs_world.specs.Outcome.{Place, Outcome, Act, begins_at}
use Rattle.lnfs_arguments.specs.declared.types.CreateSession.{CreateSession}
use Rattle.lnfs_arguments.specs.declared.channel.Channel.{Channel as Asked}
use Rattle.lnfs_arguments.specs.declared.statuses.TheConstants.{NFS4ERR_NOSPC, NFS4ERR_TOOSMALL, NFS4ERR_STALE_CLIENTID}
use Rattle.lnfs_operations.specs.declared.Gate.TheVariants as gates
use Rattle.lnfs_monitor.specs.declared.rule.Rule.TheVariants.{M9}
use Rattle.lnfs_world.specs.declared.numbers.TheConstants.{LAST_NUMBER}
use Rattle.lnfs_operations.specs.declared.numbers.TheConstants.{SESSIONS_OF_A_LEVEL, LEAST_SIZE, MOST_SIZE, MOST_OPERATIONS, MOST_REQUESTS}
use Rattle.lnfs_operations.specs.Chain.{Answer, refuse, done, demand, where_there}
use Rattle.lnfs_operations.specs.ExchangeId.{dropped}
use Rattle.lnfs_operations.specs.Identifiers.{client_named}
use Rattle.lnfs_operations.specs.InOrder.{sequence_before, in_order}

pub data Created : Type 0 where
  -- the number of a new session, and what its fore channel grants
  New : (session : ℕ) (granted : Channel) → Created
  -- the answer that was kept
  Again : (reply : List ℕ) → Created

-- whether a channel is asked that a session can be made for
abbrev pub is_large_enough : Asked → Bool
is_large_enough fore =
    nat_le LEAST_SIZE fore.maxrequest && (nat_le LEAST_SIZE fore.maxresponse
    && (not (fore.operations == 0) && not (fore.requests == 0)))

-- What is granted: what is asked, up to the limits. All of a response may be kept.
abbrev pub granted_of : Asked → Channel
granted_of fore = record {
  max_request = min fore.maxrequest MOST_SIZE;
  max_response = min fore.maxresponse MOST_SIZE;
  max_cached = min fore.maxresponse MOST_SIZE;
  max_operations = min fore.operations MOST_OPERATIONS;
  max_requests = min fore.requests MOST_REQUESTS;
}

-- a slot that no request has used
abbrev pub fresh_slot : Slot
fresh_slot = record { sequence = 0; kept = None }

-- a session of a client, with a slot for each request that is granted
abbrev pub new_session : Id → Client → Channel → Session
new_session id c granted = record { id = id; client = c.id.number; channel = granted; slots = replicate granted.max_requests fresh_slot }

-- the confirmed record of the same owner that a record takes the place of
abbrev pub is_replaced : Client → Client → Bool
is_replaced c d = d.id.level == c.id.level && (bytes_eq d.owner c.owner && (d.confirmed && not (same_id c.id d.id)))

-- a record that is confirmed, and whose lease begins again
abbrev pub confirmed : Place → Client → Client
confirmed p c = renewed p.moment (record c { confirmed = true })

-- how many sessions a level has
abbrev pub sessions_of : ℕ → List Session → ℕ
sessions_of level sessions = count_by (λ x. x.id.level == level) sessions

-- For the record of the client: the other confirmed record of its owner goes with its sessions, this one is
-- confirmed, its lease is renewed, and a session is made under the level's next number.
abbrev pub made : CreateSession → Place → World → Client → Outcome (Answer Created)
made args p w c =
    demand (is_large_enough args.fore) (refuse p gates.Session NFS4ERR_TOOSMALL) (
    demand (nat_lt (sessions_of p.subject w.sessions) SESSIONS_OF_A_LEVEL) (refuse p gates.Session NFS4ERR_NOSPC) (
    demand (nat_lt (last_of p.subject w.lasts.sessions) LAST_NUMBER) (refuse p gates.Session NFS4ERR_NOSPC) (
    let number = last_of p.subject w.lasts.sessions + 1 in
    done (begins_at p.subject p.moment) (New number (granted_of args.fore))
    (dropped (find (is_replaced c) w.clients) ++
    SetClient (confirmed p c) ∷
    AddSession (new_session (record { level = p.subject; number = number }) c (granted_of args.fore)) ∷ []))))

abbrev pub created : CreateSession → List ℕ → Place → World → Client → Outcome (Answer Created)
created args arguments p w c = in_order p (sequence_before c.sequence) c.sequence c.kept args.sequence arguments (λ reply. done p (Again reply) []) (made args p w c)

-- by the arguments of its COMPOUND as they came
abbrev pub create_session : CreateSession → (arguments : List ℕ) → Act (Answer Created)
create_session args arguments p w =
    demand ((client_named args.client).level == p.subject) (refuse p (gates.Monitor M9) NFS4ERR_STALE_CLIENTID) (
    where_there (client_at w.clients (client_named args.client)) (created args arguments p w) (refuse p gates.Session NFS4ERR_STALE_CLIENTID))

abbrev pub is_next_of : ℕ → Option Client → Bool
is_next_of sequence None = false
is_next_of sequence (Some c) = sequence == c.sequence

-- Whether it brings the next sequence of its record: then its answer is kept, be it a refusal, and the
-- sequence moves.
abbrev pub is_next_created : CreateSession → Place → World → Bool
is_next_created args p w = (client_named args.client).level == p.subject && is_next_of args.sequence (client_at w.clients (client_named args.client))
