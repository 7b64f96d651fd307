-- Whether an operation may run where it stands in its COMPOUND: its place there (RFC 8881 section 2.10.6),
-- and then the room that is left in the reply (section 2.10.6.4).
use Rattle.std.specs.Prelude.{ℕ, ◌+◌, ◌==◌, ◌&&◌, Bool, true, false, List, [], ◌∷◌, length, Option, Some, None, nat_le, if◌then◌else◌}
use Rattle.lnfs_arguments.specs.Further.{Further}
use Rattle.lnfs_arguments.specs.declared.types.Op.{Op}
use Rattle.lnfs_arguments.specs.declared.types.Op.TheVariants as ops
use Rattle.lnfs_arguments.specs.declared.types.Compound.{Compound}
use Rattle.lnfs_arguments.specs.declared.statuses.TheConstants.{NFS4ERR_SEQUENCE_POS, NFS4ERR_NOT_ONLY_OP, NFS4ERR_OP_NOT_IN_SESSION, NFS4ERR_REP_TOO_BIG}
use Rattle.lnfs_results.specs.declared.types.OpResult.{OpResult}
use Rattle.lnfs_results.specs.Texts.{results_text}
use Rattle.lnfs_results.specs.Answering.{op_bound}
use Rattle.lnfs_world.specs.World.{Session, World, session_at}
use Rattle.lnfs_world.specs.Outcome.{Place}
use Rattle.lnfs_operations.specs.declared.Gate.{Gate}
use Rattle.lnfs_operations.specs.declared.Gate.TheVariants as gates
use Rattle.lnfs_operations.specs.declared.numbers.TheConstants.{RESERVED_ROOM}
use Rattle.lnfs_operations.specs.Chain.{Refusal}

-- ---- place

abbrev pub is_first : List OpResult → Bool
is_first [] = true
is_first (r ∷ rs) = false

-- the only operation of its COMPOUND
abbrev pub is_alone : Compound → (so_far : List OpResult) → Bool
is_alone c so_far = is_first so_far && c.count == 1

abbrev pub unless : Bool → Gate → ℕ → Option Refusal
unless test gate status = if test then None else Some (record { gate = gate; status = status })

-- SEQUENCE is the first operation, those that make and end clients and sessions are the only one, and all
-- others stand behind a SEQUENCE. What is outside of the profile fails wherever it stands.
abbrev pub place_refusal : Compound → (so_far : List OpResult) → Op → Option Refusal
place_refusal c so_far (ops.Sequence args) = unless (is_first so_far) gates.Session NFS4ERR_SEQUENCE_POS
place_refusal c so_far (ops.ExchangeId verifier owner flags implementation) = unless (is_alone c so_far) gates.Session NFS4ERR_NOT_ONLY_OP
place_refusal c so_far (ops.CreateSession args) = unless (is_alone c so_far) gates.Session NFS4ERR_NOT_ONLY_OP
place_refusal c so_far (ops.DestroySession session) = unless (is_alone c so_far) gates.Session NFS4ERR_NOT_ONLY_OP
place_refusal c so_far (ops.DestroyClientId client) = unless (is_alone c so_far) gates.Session NFS4ERR_NOT_ONLY_OP
place_refusal c so_far (ops.Outside number status) = None
place_refusal c so_far op = if is_first so_far then Some (record { gate = gates.Session; status = NFS4ERR_OP_NOT_IN_SESSION }) else None

-- ---- room

-- the bytes of the COMPOUND's result so far
abbrev pub used : Compound → (so_far : List OpResult) → ℕ
used c so_far = length (results_text (record { status = 0; tag = c.tag; results = so_far }))

-- What is used, the bound of the operation and what is reserved fit in a response of the session.
abbrev pub fits : ℕ → Option Session → Bool
fits room None = true
fits room (Some x) = nat_le room x.channel.max_response

-- the session behind whose SEQUENCE an operation stands
abbrev pub session_behind : Place → Option ℕ → List Session → Option Session
session_behind p None sessions = None
session_behind p (Some number) sessions = session_at sessions (record { level = p.subject; number = number })

abbrev pub room_refusal : Further → Compound → (so_far : List OpResult) → Op → Place → World → Option Refusal
room_refusal x c so_far op p w = unless (fits (RESERVED_ROOM + used c so_far + op_bound x op) (session_behind p p.session w.sessions)) gates.Room NFS4ERR_REP_TOO_BIG

-- ---- both

abbrev pub or_else : Option Refusal → Option Refusal → Option Refusal
or_else (Some why) other = Some why
or_else None other = other

-- what refuses an operation before its own tests
abbrev pub admission : Further → Compound → (so_far : List OpResult) → Op → Place → World → Option Refusal
admission x c so_far op p w = or_else (place_refusal c so_far op) (room_refusal x c so_far op p w)
