-- How a request came, and what a new one leaves of what is kept (RFC 8881 sections 2.10.6.1 and 18.36.4).
use Rattle.std.specs.Prelude.{◌≡◌, ℕ, ◌==◌, cond, List, [], ◌∷◌, Option, Some, None, nat_le, slice_get}
use Rattle.std.specs.Str.{bytes_eq}
use Rattle.lnfs_arguments.specs.declared.types.Op.{Op}
use Rattle.lnfs_arguments.specs.declared.types.Compound.{Compound}
use Rattle.lnfs_arguments.specs.declared.types.CreateSession.{CreateSession}
use Rattle.lnfs_arguments.specs.declared.types.Sequence.{Sequence}
use Rattle.lnfs_arguments.specs.Numbered.{number_of}
use Rattle.lnfs_world.specs.Rows.{inserted}
use Rattle.lnfs_world.specs.World.{Kept, Client, Slot, Session, World, session_order, client_at}
use Rattle.lnfs_operations.specs.declared.Gate.{Gate}
use Rattle.lnfs_operations.specs.Identifiers.{client_named, session_named, session_under}
use Rattle.lnfs_operations.specs.InOrder.{sequence_before}
use Rattle.lnfs_operations.specs.Keeping.{next_sequence, with_slot}
use Rattle.lnfs_operations.specs.Results.{failed}
use Rattle.lnfs_operations.specs.Sequence.{Sent}
use Rattle.lnfs_operations.specs.SlotRule.{Answer, new_result}

pub data Came : Type 0 where
  -- a new request, under the sequence behind the last one
  New : Came
  -- a retry: the last sequence and its arguments again, for which this reply is kept
  Again : (reply : List ℕ) → Came
  -- a false retry, with other arguments, or one out of order; or nothing is there that it names and that accepts it
  Refused : Came

abbrev pub where_found : {A : Type 0} → Option A → (A → Came) → Came
where_found None came = Refused
where_found (Some x) came = came x

-- ---- by the sequence that it brings

-- where a reply is kept under that sequence
abbrev pub came_again : (arguments : List ℕ) → Option Kept → Came → Came
came_again arguments None other = other
came_again arguments (Some k) other = cond (bytes_eq k.arguments arguments) (Again k.reply) Refused

abbrev pub came_by : (last next : ℕ) → Option Kept → (sequence : ℕ) (arguments : List ℕ) → Came
came_by last next kept sequence arguments =
    came_again arguments (cond (sequence == last) kept None) (cond (sequence == next) New Refused)

-- ---- a COMPOUND, on the slot of a session that its SEQUENCE names

abbrev pub came_to_slot : (sequence : ℕ) (arguments : List ℕ) → Slot → Came
came_to_slot sequence arguments slot =
    came_by slot.sequence (next_sequence slot.sequence) slot.kept sequence arguments

-- It is no longer than the session grants, and has no more operations.
abbrev pub came_in_session : Sequence → Sent → Session → Came
came_in_session args sent x =
    cond (nat_le sent.size x.channel.max_request) (
    cond (nat_le sent.count x.channel.max_operations) (
    where_found (slice_get x.slots args.slot) (came_to_slot args.sequence sent.arguments)) Refused) Refused

-- The session is one of the level.
abbrev pub came_on_slot : (level : ℕ) → World → Sequence → Sent → Came
came_on_slot level w args sent =
    cond ((session_named args.session).level == level)
    (where_found (session_under args.session w.sessions) (came_in_session args sent)) Refused

-- ---- a CREATE_SESSION, to the client's record that it names

abbrev pub came_to_client : CreateSession → (arguments : List ℕ) → Client → Came
came_to_client args arguments c = came_by (sequence_before c.sequence) c.sequence c.kept args.sequence arguments

-- The client is one of the level.
abbrev pub came_to_record : (level : ℕ) → World → CreateSession → (arguments : List ℕ) → Came
came_to_record level w args arguments =
    cond ((client_named args.client).level == level)
    (where_found (client_at w.clients (client_named args.client)) (came_to_client args arguments)) Refused

-- ---- what follows

-- A COMPOUND is answered so where its first operation is refused.
abbrev pub refused_first : Compound → Op → Gate → (status : ℕ) → Answer
refused_first c op gate status = record {
  result = new_result c (failed op status ∷ []);
  denial = Some (record { place = 1; number = number_of op; gate = gate; status = status });
}

-- The slot that a new COMPOUND names moves to its sequence, and keeps its arguments with its result. The other slots of its
-- session stay, and all other sessions.
pub record KeepsOnSlot (args : Sequence) (arguments result : List ℕ) (w v : World) : Type 0 where
  pub session : Session
  pub slot : Slot
  pub session_is : session_under args.session w.sessions ≡ Some session
  pub slot_is : slice_get session.slots args.slot ≡ Some slot
  pub next : args.sequence ≡ next_sequence slot.sequence
  pub sessions : v.sessions ≡ inserted session_order (record session {
    slots = with_slot args.slot (record { sequence = args.sequence; kept = Some (record { arguments = arguments; reply = result }) }) session.slots;
  }) w.sessions

-- The record of the client that a new CREATE_SESSION names moves to the next sequence, and keeps its arguments with its
-- result, be that a session or a refusal.
pub record KeepsInRecord (args : CreateSession) (arguments result : List ℕ) (w v : World) : Type 0 where
  pub before : Client
  pub after : Client
  pub before_is : client_at w.clients (client_named args.client) ≡ Some before
  pub after_is : client_at v.clients (client_named args.client) ≡ Some after
  pub next : args.sequence ≡ before.sequence
  pub sequence : after.sequence ≡ next_sequence before.sequence
  pub keeps : after.kept ≡ Some (record { arguments = arguments; reply = result })
