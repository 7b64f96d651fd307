-- The client as a machine: an action begins, requests are made, replies are taken.
use Rattle.std.specs.Prelude.{◌≡◌, ℕ, ◌+◌, ◌%◌, ◌^◌, Bool, true, false, ◌==◌, ◌&&◌, not, if◌then◌else◌, List, [], ◌++◌, map, take, replicate, Option, Some, None, Result, Ok, Err, is_none}
use Rattle.lnfs_calipso.specs.declared.Level.{Level}
use Rattle.lnfs_policy.specs.Policy.{Policy, dominance, parent_at}
use Rattle.lnfs_policy.specs.declared.rows.Parent.{Parent}
use Rattle.lnfs_gss3.specs.Mechanism.{Signing}
use Rattle.lnfs_results.specs.declared.types.OpResult.TheVariants as results
use Rattle.lnfs_answers.specs.declared.types.Told.{Told}
use Rattle.lnfs_answers.specs.declared.types.Told.TheVariants as told
use Rattle.lnfs_answers.specs.declared.types.Said.{Said}
use Rattle.lnfs_answers.specs.declared.request.Heard.{Heard}
use Rattle.lnfs_answers.specs.declared.request.Heard.TheVariants as heards
use Rattle.lnfs_answers.specs.Replies.{Asked, heard}
use Rattle.lnfs_script.specs.declared.identity.Identity.{Identity}
use Rattle.lnfs_script.specs.declared.identity.Identity.TheVariants as identities
use Rattle.lnfs_script.specs.declared.action.Action.{Action}
use Rattle.lnfs_script.specs.declared.action.Action.TheVariants as actions
use Rattle.lnfs_asking.specs.declared.plan.Speaker.{Speaker}
use Rattle.lnfs_asking.specs.declared.plan.Speaker.TheVariants as speakers
use Rattle.lnfs_asking.specs.declared.sent.Sent.{Sent}
use Rattle.lnfs_asking.specs.Labels.{level_of}
use Rattle.lnfs_asking.specs.Sending.{sent_of, wanted_of}
use Rattle.lnfs_client.specs.declared.stage.Stage.{Stage}
use Rattle.lnfs_client.specs.declared.stage.Stage.TheVariants.{Asserting, Exchanging, Creating, Reclaiming, Asking, Changing, Closing, EndingSession, EndingClient, EndingContext}
use Rattle.lnfs_client.specs.declared.known.Known.{Known}
use Rattle.lnfs_client.specs.declared.known.Running.{Running}
use Rattle.lnfs_attrs.specs.declared.view.LabelValue.{LabelValue}
use Rattle.lnfs_client.specs.declared.answer.Answer.{Answer}
use Rattle.lnfs_client.specs.declared.answer.Answer.TheVariants as answers
use Rattle.lnfs_client.specs.declared.answer.Progress.{Progress}
use Rattle.lnfs_client.specs.declared.answer.Progress.TheVariants.{More, Done}
use Rattle.lnfs_client.specs.declared.answer.Refusal.{Refusal}
use Rattle.lnfs_client.specs.declared.answer.Refusal.TheVariants as refusals
use Rattle.lnfs_client.specs.Enforcing.{enforced}
use Rattle.lnfs_client.specs.Told.{label_in, last_in, data_of, entries_of, is_end, count_of, shown_as, last_cookie}
use Rattle.lnfs_client.specs.Stages.{first_stage, is_reading}
use Rattle.lnfs_client.specs.Requests.{plan, anonymous}

-- ---- the beginning

abbrev pub started : (level : ℕ) → Identity → (owner : List ℕ) → Known
started level who owner = record {
  level = record { 0 = level };
  identity = who;
  owner = owner;
  sent = 0;
  context = replicate 16 0;
  client = 0;
  creating = 0;
  session = replicate 16 0;
  sequence = 0;
  mounted = false;
  running = None;
}

abbrev pub beginning : Stage → Action → Running
beginning stage action = record { action = action; stage = stage; label = None; cookie = 0; shown = []; opened = anonymous; awaited = None }

abbrev pub is_mount : Action → Bool
is_mount actions.Mount = true
is_mount action = false

-- A client that mounts anew isn't mounted until that is answered.
abbrev pub begun : Action → Known → Known
begun action k = record k { mounted = not (is_mount action) && k.mounted; running = Some (beginning (first_stage k.identity action) action) }

-- ---- requests

-- The next number of a slot or of a client's sessions (RFC 8881 section 2.10.6.1).
abbrev pub number_after : ℕ → ℕ
number_after n = (n + 1) % 2 ^ 32

-- A number is spent with the request that has it.
abbrev pub spent : Stage → Known → Known
spent Creating k = record k { creating = number_after k.creating }
spent Reclaiming k = record k { sequence = number_after k.sequence }
spent Asking k = record k { sequence = number_after k.sequence }
spent Changing k = record k { sequence = number_after k.sequence }
spent Closing k = record k { sequence = number_after k.sequence }
spent stage k = k

-- the parent under which the client comes
abbrev pub signer_of : Policy → Identity → Option Parent
signer_of p (identities.Guest uid) = None
signer_of p (identities.Full parent) = parent_at p parent

abbrev pub speaker_under : (context : List ℕ) → Option Parent → Identity → Speaker
speaker_under context (Some parent) who = speakers.Member parent context
speaker_under context None (identities.Guest uid) = speakers.Guest uid
speaker_under context None (identities.Full parent) = speakers.Guest 0

abbrev pub speaker_of : Policy → Known → Speaker
speaker_of p k = speaker_under k.context (signer_of p k.identity) k.identity

abbrev pub awaited_in : Option Running → Option Sent
awaited_in None = None
awaited_in (Some r) = r.awaited

-- the request that is unanswered
abbrev pub awaited : Known → Option Sent
awaited k = awaited_in k.running

abbrev pub may_ask_in : Option Running → Bool
may_ask_in None = false
may_ask_in (Some r) = is_none r.awaited

-- an action is under way, and no request is unanswered
abbrev pub may_ask : Known → Bool
may_ask k = may_ask_in k.running

abbrev pub request_by : Signing → Policy → Known → Running → Option Sent → Option Sent
request_by m p k r (Some sent) = None
request_by m p k r None = Some (sent_of m (speaker_of p k) (k.sent + 1) (plan p k r))

abbrev pub request_for : Signing → Policy → Known → Option Running → Option Sent
request_for m p k None = None
request_for m p k (Some r) = request_by m p k r r.awaited

-- the next request, where an action is under way and no request is unanswered
unfoldable pub request_in : Signing → Policy → Known → Option Sent
request_in m p k = request_for m p k k.running

abbrev pub posted : Known → Sent → Option Running → Known
posted k sent None = k
posted k sent (Some r) = record (spent r.stage k) { sent = k.sent + 1; running = Some (record r { awaited = Some sent }) }

abbrev pub asked_with : Known → Option Sent → Known
asked_with k None = k
asked_with k (Some sent) = posted k sent k.running

-- the client when it has made its next request, where there is one
unfoldable pub asked : Signing → Policy → Known → Known
asked m p k = asked_with k (request_in m p k)

-- ---- replies

-- what a reply leads to: the client, and what is told
pub record Turn : Type 0 where
  pub client : Known
  pub told : Result Progress Refusal

-- the action is no more under way
abbrev pub ended : Known → Known
ended k = record k { running = None }

abbrev pub refuses : Known → Refusal → Turn
refuses k cause = record { client = ended k; told = Err cause }

abbrev pub stays : Known → Running → Turn
stays k r = record { client = record k { running = Some r }; told = Ok More }

abbrev pub goes_on : Known → Running → Turn
goes_on k r = record { client = record k { running = Some (record r { awaited = None }) }; told = Ok More }

abbrev pub answered : Known → Answer → Turn
answered k answer = record { client = ended k; told = Ok (Done answer) }

abbrev pub goes_to : Known → Running → Stage → Turn
goes_to k r stage = goes_on k (record r { stage = stage })

-- ---- what is kept of an answer

-- the client that EXCHANGE_ID tells
unfoldable pub exchanged : Known → Option Told → Known
exchanged k (Some (told.Other (results.ExchangeId client sequence flags minor major scope))) = record k { client = client; creating = sequence }
exchanged k last = k

-- The session that CREATE_SESSION tells; the first number of each slot is 1 (RFC 8881 section 2.10.6.1).
unfoldable pub created : Known → Option Told → Known
created k (Some (told.Other (results.CreateSession session sequence flags fore back))) = record k { session = session; sequence = 1 }
created k last = k

-- the state id that OPEN tells
unfoldable pub opened_by : Running → Option Told → Running
opened_by r (Some (told.Other (results.Open id info rflags set delegation))) = record r { opened = id }
opened_by r last = r

-- the entries that READDIR tells
abbrev pub listed : Policy → Running → Option Told → Running
listed p r last = record r { shown = r.shown ++ map (shown_as p) (entries_of last); cookie = last_cookie r.cookie (entries_of last) }

-- what is kept of what is asked at a node; a label, for a comparison alone
abbrev pub kept_at : Policy → Running → List Told → Action → Running
kept_at p r rs (actions.List path) = listed p r (last_in rs)
kept_at p r rs (actions.Read path offset count) = r
kept_at p r rs action = record r { label = label_in rs }

unfoldable pub kept_in : Policy → Running → List Told → Stage → Running
kept_in p r rs Asking = kept_at p r rs r.action
kept_in p r rs stage = r

-- ---- the next stage, or the answer

-- behind the label
abbrev pub at_target : Known → Running → Option Told → Action → Turn
at_target k r last (actions.List path) = if is_end last then answered k (answers.Entries r.shown) else goes_to k r Asking
at_target k r last (actions.Read path offset count) = answered k (answers.Data (data_of last))
at_target k r last action = goes_to k r Changing

-- A file that was made is closed.
abbrev pub changed : Known → Running → Option Told → Action → Turn
changed k r last (actions.Write path offset content) = answered k (answers.Wrote (count_of last))
changed k r last (actions.Mkdir path level) = answered k answers.Made
changed k r last (actions.Remove path) = answered k answers.Removed
changed k r last (actions.Raise path level) = answered k answers.Raised
changed k r last action = goes_to k (opened_by r last) Closing

abbrev pub mounted : Known → Turn
mounted k = answered (record k { mounted = true }) answers.Mounted

abbrev pub left : Known → Turn
left k = answered (record k { mounted = false }) answers.Left

-- A context has to be ended too.
abbrev pub without_client : Known → Running → Identity → Turn
without_client k r (identities.Guest uid) = left k
without_client k r (identities.Full parent) = goes_to k r EndingContext

unfoldable pub moved : Known → Running → Option Told → Stage → Turn
moved k r last Asserting = goes_to k r Exchanging
moved k r last Exchanging = goes_to (exchanged k last) r Creating
moved k r last Creating = goes_to (created k last) r Reclaiming
moved k r last Reclaiming = mounted k
moved k r last Asking = at_target k r last r.action
moved k r last Changing = changed k r last r.action
moved k r last Closing = answered k answers.Made
moved k r last EndingSession = goes_to k r EndingClient
moved k r last EndingClient = without_client k r k.identity
moved k r last EndingContext = left k

-- ---- the judgement: at a label that was asked, by this label alone

abbrev pub level_told : Policy → Option LabelValue → Option Level
level_told p None = None
level_told p (Some label) = level_of p label

abbrev pub judged_at : Policy → Known → Action → List Told → Result (Unit {0}) Refusal
judged_at p k action rs = enforced (dominance p) k.level.0 (level_told p (label_in rs)) (not (is_reading action))

abbrev pub judged : Policy → Known → Action → Stage → List Told → Result (Unit {0}) Refusal
judged p k action Asking rs = judged_at p k action rs
judged p k action stage rs = Ok tt

abbrev pub succeeded_by : Policy → Known → Running → List Told → Result (Unit {0}) Refusal → Turn
succeeded_by p k r rs (Err cause) = refuses k cause
succeeded_by p k r rs (Ok fine) = moved k (kept_in p r rs r.stage) (last_in rs) r.stage

abbrev pub succeeded : Policy → Known → Running → List Told → Turn
succeeded p k r rs = succeeded_by p k r rs (judged p k r.action r.stage rs)

abbrev pub said : Policy → Known → Running → Said → Turn
said p k r s = if s.status == 0 then succeeded p k r s.results else refuses k (refusals.ServerSaid s.status)

-- What a record leads to that is heard as this; k is the client beside its action r. To a record with another transaction the
-- action stays as it is. In a context that is granted the client makes itself known.
unfoldable pub next : Policy → Known → Running → Heard → Turn
next p k r heards.Other = stays k r
next p k r (heards.Denied auth) = refuses k (refusals.Denied auth)
next p k r (heards.Bad at) = refuses k (refusals.BadReply at)
next p k r (heards.Said s) = said p k r s
next p k r (heards.Granted handle) = goes_to (record k { context = handle }) r Exchanging
next p k r heards.Ended = left k

-- what a function answers that takes a reply: exactly that, or that memory is wanting; then the action has ended, and no more
abbrev pub Turns : Result Progress Refusal → (old new : Known) → Turn → Type 0
Turns (Err refusals.Memory) old new t = new ≡ ended old
Turns told old new t = (new ≡ t.client) × (told ≡ t.told)

abbrev pub Judges : Result (Unit {0}) Refusal → Result (Unit {0}) Refusal → Type 0
Judges (Err refusals.Memory) verdict = Unit {0}
Judges told verdict = told ≡ verdict

-- ---- a record that comes

abbrev pub asked_of : Policy → Known → Sent → Asked
asked_of p k sent = record { xid = sent.xid; signer = signer_of p k.identity; header = take sent.header sent.message; wants = wanted_of sent.sought }

abbrev pub heard_in : Signing → Policy → Known → List ℕ → Option Sent → Heard
heard_in m p k bytes None = heards.Other
heard_in m p k bytes (Some sent) = heard m (asked_of p k sent) bytes

-- what a record is to the request that is unanswered; to none it is that of another
unfoldable pub heard_by : Signing → Policy → Known → List ℕ → Heard
heard_by m p k bytes = heard_in m p k bytes (awaited k)

abbrev pub turn_by : Policy → Known → Heard → Option Running → Turn
turn_by p k h None = record { client = k; told = Ok More }
turn_by p k h (Some r) = next p (ended k) r h

unfoldable pub turn : Signing → Policy → Known → List ℕ → Turn
turn m p k bytes = turn_by p k (heard_by m p k bytes) k.running
