-- The client's requests as packets: what each is made of, and what the client reads from the reply to it.
use Rattle.std.specs.Prelude.{◌≡◌, ◌≤◌, ◌<◌, ℕ, ◌+◌, ◌/◌, ◌%◌, ◌^◌, Bool, true, false, cond, not, ◌&&◌, ◌||◌, ◌==◌, nat_lt, nat_le, List, [], ◌∷◌, length, take, drop, replicate, Option, Some, None, IfSome, Result, Ok, Err}
use Rattle.std.specs.Int.{w64, from_be_bytes}
use Rattle.std.specs.Str.{bytes_eq}
use Rattle.lnfs_xdr.specs.Message.{parse}
use Rattle.lnfs_attrs.specs.declared.view.LabelValue.{LabelValue}
use Rattle.lnfs_arguments.specs.declared.numbers.TheConstants.{OWNER_LIMIT}
use Rattle.lnfs_arguments.specs.declared.statuses.TheConstants.{NFS4ERR_BADSESSION, NFS4ERR_STALE_CLIENTID}
use Rattle.lnfs_arguments.specs.declared.types.CreateSession.{CreateSession}
use Rattle.lnfs_arguments.specs.declared.types.Compound.{Compound}
use Rattle.lnfs_arguments.specs.declared.types.Op.{Op}
use Rattle.lnfs_arguments.specs.declared.types.Op.TheVariants as ops
use Rattle.lnfs_arguments.specs.declared.types.Sequence.{Sequence}
use Rattle.lnfs_arguments.specs.Identifiers.{client_id, session_id}
use Rattle.lnfs_arguments.specs.Whole.{compound}
use Rattle.lnfs_requests.specs.Texts.{compound_text}
use Rattle.lnfs_results.specs.declared.types.OpResult.TheVariants as results
use Rattle.lnfs_format.specs.declared.formats.ReadError.{ReadError}
use Rattle.lnfs_format.specs.LevelRead.{level_read}
use Rattle.lnfs_policy.specs.declared.mode.Mode.{Mode}
use Rattle.lnfs_policy.specs.declared.mode.Mode.TheVariants.{Enforcing, Limited}
use Rattle.lnfs_policy.specs.declared.rows.Parent.{Parent}
use Rattle.lnfs_policy.specs.Policy.{Policy, guest_level, parent_at}
use Rattle.lnfs_gss3.specs.Grammar.{handle_text}
use Rattle.lnfs_gss3.specs.Mechanism.{Signing}
use Rattle.lnfs_gss3.specs.Who.{is_cleared}
use Rattle.lnfs_answers.specs.declared.types.Told.{Told}
use Rattle.lnfs_answers.specs.declared.types.Told.TheVariants as told
use Rattle.lnfs_answers.specs.declared.types.Said.{Said}
use Rattle.lnfs_answers.specs.declared.request.Heard.{Heard}
use Rattle.lnfs_answers.specs.declared.request.Heard.TheVariants as heards
use Rattle.lnfs_answers.specs.Replies.{Asked, heard}
use Rattle.lnfs_script.specs.declared.identity.Identity.{Identity}
use Rattle.lnfs_script.specs.declared.identity.Identity.TheVariants as identities
use Rattle.lnfs_script.specs.Fits.{IdentitySuits}
use Rattle.lnfs_asking.specs.declared.plan.Plan.{Plan}
use Rattle.lnfs_asking.specs.declared.plan.Plan.TheVariants as plans
use Rattle.lnfs_asking.specs.declared.sent.Sent.{Sent}
use Rattle.lnfs_asking.specs.Labels.{spelled}
use Rattle.lnfs_asking.specs.Sending.{compound_of, sent_of, wanted_of}
use Rattle.lnfs_client.specs.Told.{last_in}
use Rattle.lnfs_client.specs.Requests.{channel}
use Rattle.lnfs_client.specs.Machine.{signer_of, speaker_under}
use Rattle.lnfs_world.specs.declared.numbers.TheConstants.{LAST_NUMBER}
use Rattle.lnfs_operations.specs.Extra.{Extra}
use Rattle.lnfs_operations.specs.Identifiers.{session_named}
use Rattle.lnfs_operations.specs.SlotRule.{new_result}
use Rattle.lnfs_operations.specs.Results.{failed}
use Rattle.lnfs_step.specs.Request.{signed_under}
use Rattle.lnfs_once.specs.Client.{Kind, Assert, Exchange, Create, Compound as ACompound, Destroy, Leave, End, Packet, Tells, Known, Made, Ran, Granted, Nothing}
use Rattle.lnfs_slots.specs.OneClient.{longest_request, most_operations, Writer}

-- A client: the class of its link, its level, as whom it comes, and the name under which it makes itself known.
pub record Setting : Type 0 where
  pub class : ℕ
  pub level : ℕ
  pub who : Identity
  pub owner : List ℕ

-- ---- the level that the server gives it

abbrev pub cleared_level : Policy → Parent → Result ℕ ReadError → Option ℕ
cleared_level p parent (Ok level) = cond (is_cleared p parent level) (Some level) None
cleared_level p parent (Err e) = None

-- that of the label that it asserts, where its parent may assert it
abbrev pub asserted_level : Policy → LabelValue → Option Parent → Option ℕ
asserted_level p label None = None
asserted_level p label (Some parent) = cleared_level p parent (level_read p.formats p.labels label.lfs label.pi label.bytes)

-- Guests get that of their line. Where the clients enforce, all guests are of level 0, and nobody asserts a label.
abbrev pub level_by : Mode → Policy → Setting → Identity → Option ℕ
level_by Enforcing p s (identities.Guest uid) = guest_level p s.class (Some uid)
level_by Enforcing p s (identities.Full number) = asserted_level p (spelled p s.level) (parent_at p number)
level_by Limited p s (identities.Guest uid) = Some 0
level_by Limited p s (identities.Full number) = None

-- the level that the server gives the client, if it gives one
abbrev pub served_level : Policy → Setting → Option ℕ
served_level p s = level_by p.mode p s s.who

-- ---- what a packet asks

abbrev pub number_of_parent : Option Parent → ℕ
number_of_parent None = 0
number_of_parent (Some parent) = parent.number

-- the handle of a context of a parent and a level; before the first the client has 16 zero bytes
abbrev pub handle_in : (parent level number : ℕ) → List ℕ
handle_in parent level number = cond (number == 0) (replicate 16 0) (handle_text (record { parent = parent; level = record { 0 = level }; number = number }))

-- the SEQUENCE of a COMPOUND, always in the first slot
abbrev pub sequence_in : (level number sequence : ℕ) → Sequence
sequence_in level number sequence = record { session = session_id level number; sequence = sequence; slot = 0; highest = 0; cachethis = true }

abbrev pub creating : (level number sequence : ℕ) → CreateSession
creating level number sequence = record { client = client_id level number; sequence = sequence; flags = 0; fore = channel; back = channel; program = 0; callbacks = [] }

-- the operations of a packet; its payload are those behind the SEQUENCE of a COMPOUND
abbrev pub ops_as : Setting → (level : ℕ) → Kind → Packet (List Op) → List Op
ops_as s level Assert q = []
ops_as s level Exchange q = ops.ExchangeId (replicate 8 0) s.owner 0 None ∷ []
ops_as s level Create q = ops.CreateSession (creating level q.place.number q.sequence) ∷ []
ops_as s level ACompound q = ops.Sequence (sequence_in level q.place.number q.sequence) ∷ q.payload
ops_as s level Destroy q = ops.DestroySession (session_id level q.place.number) ∷ []
ops_as s level Leave q = ops.DestroyClientId (client_id level q.place.number) ∷ []
ops_as s level End q = []

abbrev pub plan_as : Policy → Setting → (level : ℕ) → Kind → Packet (List Op) → Plan
plan_as p s level Assert q = plans.Assert (spelled p s.level)
plan_as p s level Exchange q = plans.Ask (ops_as s level Exchange q)
plan_as p s level Create q = plans.Ask (ops_as s level Create q)
plan_as p s level ACompound q = plans.Ask (ops_as s level ACompound q)
plan_as p s level Destroy q = plans.Ask (ops_as s level Destroy q)
plan_as p s level Leave q = plans.Ask (ops_as s level Leave q)
plan_as p s level End q = plans.End

-- ---- what is read from a reply

-- The record of a client that EXCHANGE_ID tells. One of another level, or with a sequence that is no word, which the server
-- never tells, counts as one that nobody has.
abbrev pub known_by : (level : ℕ) → Option Told → Tells
known_by level (Some (told.Other (results.ExchangeId client sequence flags minor major scope))) = Known (cond (client / 2 ^ 32 == level && nat_lt sequence (2 ^ 32)) (client % 2 ^ 32) (LAST_NUMBER + 1)) sequence
known_by level last = Known (LAST_NUMBER + 1) 0

-- The session that CREATE_SESSION tells. One of another level counts as number 0, which nobody has.
abbrev pub made_number : (level : ℕ) → List ℕ → ℕ
made_number level session = let number = (session_named session).number in cond (bytes_eq session (session_id level number) && nat_lt number (2 ^ 64)) number 0

abbrev pub made_by : (level : ℕ) → Option Told → Tells
made_by level (Some (told.Other (results.CreateSession session sequence flags fore back))) = Made (made_number level session)
made_by level last = Made 0

-- a COMPOUND has passed its SEQUENCE
abbrev pub ran_by : List Told → Tells
ran_by [] = Nothing
ran_by (told.Other (results.Sequence session sequence slot highest target flags) ∷ more) = Ran
ran_by (first ∷ more) = Nothing

-- the context that a handle is of
abbrev pub granted_by : (parent level : ℕ) → List ℕ → Tells
granted_by parent level handle = let number = from_be_bytes w64 (drop 8 handle) in cond (nat_lt 0 number && bytes_eq handle (handle_in parent level number)) (Granted number) Nothing

abbrev pub said_by : (level : ℕ) → Kind → Said → Tells
said_by level Assert s = Nothing
said_by level Exchange s = cond (s.status == 0) (known_by level (last_in s.results)) Nothing
said_by level Create s = cond (s.status == 0) (made_by level (last_in s.results)) Nothing
said_by level ACompound s = ran_by s.results
said_by level Destroy s = Nothing
said_by level Leave s = Nothing
said_by level End s = Nothing

abbrev pub told_by : (parent level : ℕ) → Kind → Heard → Tells
told_by parent level Assert (heards.Granted handle) = granted_by parent level handle
told_by parent level k (heards.Said said) = said_by level k said
told_by parent level k heard = Nothing

-- ---- the client as one that writes packets

-- the status where its record or its session is not there
abbrev pub lost_status : Kind → ℕ
lost_status Create = NFS4ERR_STALE_CLIENTID
lost_status k = NFS4ERR_BADSESSION

abbrev pub first_in : List Op → Op
first_in [] = ops.PutRootFh
first_in (op ∷ more) = op

-- the arguments were read as a COMPOUND whose SEQUENCE names this session, in its first slot, under this sequence
abbrev pub is_sequence : (level number sequence : ℕ) → List Op → Bool
is_sequence level number sequence (ops.Sequence args ∷ more) =
    (session_named args.session).level == level && ((session_named args.session).number == number && (bytes_eq (drop 12 args.session) (0 ∷ 0 ∷ 0 ∷ 0 ∷ []) && (args.slot == 0 && args.sequence == sequence)))
is_sequence level number sequence asked = false

abbrev pub is_asked : (level number sequence : ℕ) → Result Compound (List ℕ) → Bool
is_asked level number sequence (Ok c) = c.minor == 2 && (nat_le c.count most_operations && (length c.tag == 0 && is_sequence level number sequence c.ops))
is_asked level number sequence (Err stuck) = false

abbrev pub is_assert : Kind → Bool
is_assert Assert = true
is_assert k = false

abbrev pub is_end : Kind → Bool
is_end End = true
is_end k = false

-- Guests come in no context. All others do, but where they ask for one.
abbrev pub suits_context : Option Parent → Kind → (context : ℕ) → Bool
suits_context None k context = context == 0 && not (is_assert k || is_end k)
suits_context (Some parent) k context = is_assert k || (nat_lt 0 context && nat_lt context (2 ^ 64))

module _ (X : Extra) (m : Signing) (p : Policy) (s : Setting) (level : ℕ) (signer : Option Parent) where
  -- the request that the client makes of a packet
  abbrev pub sent_as : Packet (List Op) → Sent
  sent_as q = sent_of m (speaker_under (handle_in (number_of_parent signer) level q.place.context) signer s.who) q.xid (plan_as p s level q.kind q)

  abbrev pub arguments_as : Packet (List Op) → List ℕ
  arguments_as q = compound_text (compound_of (ops_as s level q.kind q))

  -- a call from its transaction through its credential
  abbrev pub header_of : Sent → List ℕ
  header_of sent = take sent.header sent.message

  -- what a reply is compared with
  abbrev pub asked_as : Sent → Asked
  asked_as sent = record { xid = sent.xid; signer = signer; header = header_of sent; wants = wanted_of sent.sought }

  -- the numbers of a packet are those of the client
  abbrev pub suits_at : Kind → Packet (List Op) → Bool
  suits_at Assert q = true
  suits_at Exchange q = true
  suits_at Create q = nat_lt q.place.number (2 ^ 32) && nat_lt q.sequence (2 ^ 32)
  suits_at ACompound q = nat_le (length (sent_as q).message) longest_request && (nat_le (length (arguments_as q)) longest_request && is_asked level q.place.number q.sequence (parse (compound X.grammar) (arguments_as q)))
  suits_at Destroy q = nat_lt q.place.number (2 ^ 64)
  suits_at Leave q = nat_lt q.place.number (2 ^ 32)
  suits_at End q = true

  abbrev pub suits : Packet (List Op) → Bool
  suits q = nat_lt q.xid (2 ^ 32) && (suits_context signer q.kind q.place.context && suits_at q.kind q)

  abbrev pub reads : Packet (List Op) → Option (List ℕ) → Tells
  reads q None = Nothing
  reads q (Some reply) = cond (suits q) (told_by (number_of_parent signer) level q.kind (heard m (asked_as (sent_as q)) reply)) Nothing

  -- Of the end of a context no results are signed, so no sequence number is said.
  abbrev pub writer_under : Writer (List Op)
  writer_under = record {
    class = s.class;
    level = level;
    parent = number_of_parent signer;
    owner = s.owner;
    verifier = replicate 8 0;
    text = λ q. (sent_as q).message;
    arguments = arguments_as;
    wrapping = λ q. signed_under signer (header_of (sent_as q)) (cond (is_end q.kind) 0 q.xid);
    stale = λ q. new_result (compound_of (ops_as s level q.kind q)) (failed (first_in (ops_as s level q.kind q)) (lost_status q.kind) ∷ []);
    suits = suits;
    reads = reads;
  }

-- the client of a setting, which the server takes for one of a level
abbrev pub client_writer : Extra → Signing → Policy → Setting → (level : ℕ) → Writer (List Op)
client_writer X m p s level = writer_under X m p s level (signer_of p s.who)

-- ---- what is known of the policy and of the client: numbers that are sent as words fit one

abbrev pub UserFits : Identity → Type 0
UserFits (identities.Guest uid) = uid < 2 ^ 32
UserFits (identities.Full number) = Unit {0}

abbrev pub ParentFits : Policy → Parent → Type 0
ParentFits p parent = (parent_at p parent.number ≡ Some parent) × (parent.number < 2 ^ 32)

pub record HasWords (p : Policy) (s : Setting) : Type 0 where
  pub owner : length s.owner ≤ OWNER_LIMIT
  pub user : UserFits s.who
  pub parent : IfSome (signer_of p s.who) (ParentFits p)
  pub label : ((spelled p s.level).lfs < 2 ^ 32) × ((spelled p s.level).pi < 2 ^ 32)
  pub level : IfSome (served_level p s) (λ (level : ℕ). level < 2 ^ 32)

-- a client that the policy has a parent for, if it comes under one
pub record MayCome (p : Policy) (s : Setting) : Type 0 where
  pub known : IdentitySuits p s.who
  pub words : HasWords p s
