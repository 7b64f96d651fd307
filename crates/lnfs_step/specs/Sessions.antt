-- A COMPOUND that comes on a slot of a session, or as a CREATE_SESSION to the record of its client, and one that is
-- answered again: on any state, and after a journal; and one of a journal that got what is kept. Each may come as a
-- guest's call, or in a context.
use Rattle.std.specs.Prelude.{◌≡◌, ℕ, true, List, [], ◌∷◌, ◌++◌, Some, None}
use Rattle.lnfs_types.specs.declared.event.Event.{Event}
use Rattle.lnfs_arguments.specs.declared.types.Op.{Op}
use Rattle.lnfs_arguments.specs.declared.types.Op.TheVariants as ops
use Rattle.lnfs_arguments.specs.declared.types.Compound.{Compound}
use Rattle.lnfs_arguments.specs.declared.types.CreateSession.{CreateSession}
use Rattle.lnfs_arguments.specs.declared.types.Sequence.{Sequence}
use Rattle.lnfs_policy.specs.Policy.{Policy}
use Rattle.lnfs_world.specs.World.{Client, Kept, Slot, Session, client_at}
use Rattle.lnfs_world.specs.Both.{Both}
use Rattle.lnfs_operations.specs.Extra.{Extra}
use Rattle.lnfs_operations.specs.Identifiers.{client_named}
use Rattle.lnfs_operations.specs.Retries.{Names}
use Rattle.lnfs_gss3.specs.Mechanism.{Signing}
use Rattle.lnfs_step.specs.Wrapping.{answer_text}
use Rattle.lnfs_step.specs.Request.{Call, Run, Asked, request_with}
use Rattle.lnfs_step.specs.Contexts.{is_there}
use Rattle.lnfs_step.specs.Step.{sent_of, step_with}
use Rattle.lnfs_step.specs.Journal.{state_after, reply_with, line_with}

-- a COMPOUND of NFS 4.2, with its first operation
pub record Begins (c : Compound) (op : Op) : Type 0 where
  pub minor : c.minor ≡ 2
  pub rest : List Op
  pub first : c.ops ≡ op ∷ rest

-- ---- on any state

-- An event asks a COMPOUND, in a context that is there if it comes in one.
pub record AsksAt (X : Extra) (m : Signing) (p : Policy) (b : Both X.Row) (event : Event) (call : Call) (arguments : List ℕ) (c : Compound) : Type 0 where
  pub request : request_with X.grammar m p event.class event.message ≡ Asked call (Run arguments c)
  pub there : is_there b.world.contexts call.level call.context ≡ true

-- Its SEQUENCE names a slot of a session.
pub record ComesOnSlotAt (X : Extra) (m : Signing) (p : Policy) (b : Both X.Row) (event : Event) (call : Call) (arguments : List ℕ) (c : Compound) (args : Sequence) (x : Session) (slot : Slot) : Type 0 where
  pub asks : AsksAt X m p b event call arguments c
  pub begins : Begins c (ops.Sequence args)
  pub names : Names call.level b.world args (sent_of event arguments c) x slot

-- It is a CREATE_SESSION alone, for the record of a client of the level.
pub record ComesToClientAt (X : Extra) (m : Signing) (p : Policy) (b : Both X.Row) (event : Event) (call : Call) (arguments : List ℕ) (c : Compound) (args : CreateSession) (client : Client) : Type 0 where
  pub asks : AsksAt X m p b event call arguments c
  pub begins : Begins c (ops.CreateSession args)
  pub alone : c.count ≡ 1
  pub own : (client_named args.client).level ≡ call.level
  pub record_of : client_at b.world.clients (client_named args.client) ≡ Some client

-- An event gets a result, wrapped as its own call asks, and the world stays, with the rows of further operations.
pub record IsGivenAt (X : Extra) (m : Signing) (p : Policy) (b : Both X.Row) (event : Event) (call : Call) (result : List ℕ) : Type 0 where
  pub reply : (step_with X m p b event).reply ≡ Some (answer_text m call.wrapping call.xid result)
  pub state : (step_with X m p b event).state ≡ b

-- An event that is given a result is refused nothing.
pub record IsAnsweredAt (X : Extra) (m : Signing) (p : Policy) (b : Both X.Row) (event : Event) (call : Call) (result : List ℕ) : Type 0 where
  pub given : IsGivenAt X m p b event call result
  pub line : (step_with X m p b event).line ≡ None

-- An event and one directly behind it get one result, each wrapped as its own call asks, and what stands is what the
-- first one left.
pub record ActsOnceAt (X : Extra) (m : Signing) (p : Policy) (b : Both X.Row) (event later : Event) (call other : Call) : Type 0 where
  pub result : List ℕ
  pub first : (step_with X m p b event).reply ≡ Some (answer_text m call.wrapping call.xid result)
  pub again : IsGivenAt X m p (step_with X m p b event).state later other result

-- ---- after a journal

abbrev pub Asks : (X : Extra) → Signing → Policy → (journal : List Event) → Event → Call → (arguments : List ℕ) → Compound → Type 0
Asks X m p journal event call arguments c = AsksAt X m p (state_after X m p journal) event call arguments c

abbrev pub ComesOnSlot : (X : Extra) → Signing → Policy → (journal : List Event) → Event → Call → (arguments : List ℕ) → Compound → Sequence → Session → Slot → Type 0
ComesOnSlot X m p journal event call arguments c args x slot = ComesOnSlotAt X m p (state_after X m p journal) event call arguments c args x slot

abbrev pub ComesToClient : (X : Extra) → Signing → Policy → (journal : List Event) → Event → Call → (arguments : List ℕ) → Compound → CreateSession → Client → Type 0
ComesToClient X m p journal event call arguments c args client = ComesToClientAt X m p (state_after X m p journal) event call arguments c args client

-- After a journal an event gets a result, wrapped as its own call asks, and the world stays, with the rows of further
-- operations.
pub record IsGiven (X : Extra) (m : Signing) (p : Policy) (journal : List Event) (event : Event) (call : Call) (result : List ℕ) : Type 0 where
  pub reply : reply_with X m p journal event ≡ Some (answer_text m call.wrapping call.xid result)
  pub state : state_after X m p (journal ++ event ∷ []) ≡ state_after X m p journal

-- An event that is given a result is refused nothing.
pub record IsAnswered (X : Extra) (m : Signing) (p : Policy) (journal : List Event) (event : Event) (call : Call) (result : List ℕ) : Type 0 where
  pub given : IsGiven X m p journal event call result
  pub line : line_with X m p journal event ≡ None

-- An event of a journal asked these arguments at a level, and got this result, however it was wrapped.
pub record HasOrigin (X : Extra) (m : Signing) (p : Policy) (journal : List Event) (level : ℕ) (kept : Kept) : Type 0 where
  pub before : List Event
  pub event : Event
  pub behind : List Event
  pub place : journal ≡ before ++ event ∷ behind
  pub call : Call
  pub compound : Compound
  pub own : call.level ≡ level
  pub asks : Asks X m p before event call kept.arguments compound
  pub reply : reply_with X m p before event ≡ Some (answer_text m call.wrapping call.xid kept.reply)
