-- The dialogue of a script with a server: a fold over the records that come, one after another.
use Rattle.std.specs.Prelude.{ℕ, Bool, true, false, cond, List, [], ◌∷◌, ◌++◌, fold, Option, Some, None, Result, Ok, Err, codes}
use Rattle.lnfs_policy.specs.Policy.{Policy}
use Rattle.lnfs_gss3.specs.Mechanism.{Signing}
use Rattle.lnfs_script.specs.declared.action.Action.{Action}
use Rattle.lnfs_script.specs.declared.action.Action.TheVariants.{Mount, Leave}
use Rattle.lnfs_script.specs.declared.script.Script.{Script}
use Rattle.lnfs_asking.specs.declared.sent.Sent.{Sent}
use Rattle.lnfs_client.specs.declared.known.Known.{Known}
use Rattle.lnfs_client.specs.declared.answer.Progress.{Progress}
use Rattle.lnfs_client.specs.declared.answer.Progress.TheVariants.{More, Done}
use Rattle.lnfs_client.specs.declared.answer.Refusal.{Refusal}
use Rattle.lnfs_client.specs.declared.answer.Refusal.TheVariants as refusals
use Rattle.lnfs_client.specs.Machine.{Turn, started, begun, asked, request_in, turn}
use Rattle.lnfs_talk.specs.Texts.{answer_text, refusal_text}

-- the client, the actions that are still to begin, and whether nothing more is asked
pub record State : Type 0 where
  pub client : Known
  pub actions : List Action
  pub is_over : Bool

-- with the requests made so far, and the texts shown
pub record Talk : Type 0 where
  pub state : State
  pub requests : List (List ℕ)
  pub texts : List (List ℕ)

-- ---- the beginning

-- the name under which the client makes itself known
abbrev pub owner : List ℕ
owner = codes "client"

-- It mounts first and leaves last.
abbrev pub beginning : (level : ℕ) → Script → State
beginning level s = record { client = begun Mount (started level s.identity owner); actions = s.actions ++ Leave ∷ []; is_over = false }

-- ---- what a reply leads to

abbrev pub over : State → State
over s = record s { is_over = true }

abbrev pub proceeded_to : State → List Action → State
proceeded_to s [] = over s
proceeded_to s (action ∷ more) = cond s.client.mounted (record s { client = begun action s.client; actions = more }) (over (record s { actions = more }))

-- The next action begins, where there is one and the client is mounted. So a refused mount ends the script.
abbrev pub proceeded : State → State
proceeded s = proceeded_to s s.actions

-- A reply that is no answer ends the script; after another refusal the next action follows.
abbrev pub led : State → Result Progress Refusal → State
led s (Ok More) = s
led s (Ok (Done answer)) = proceeded s
led s (Err (refusals.BadReply at)) = over s
led s (Err cause) = proceeded s

-- what is shown then
abbrev pub shown_of : Result Progress Refusal → List (List ℕ)
shown_of (Ok More) = []
shown_of (Ok (Done answer)) = answer_text answer ∷ []
shown_of (Err cause) = refusal_text cause ∷ []

abbrev pub turned : Talk → Turn → Talk
turned t next = record t { state = led (record t.state { client = next.client }) next.told; texts = t.texts ++ shown_of next.told }

-- ---- what is asked

abbrev pub message_of : Option Sent → List (List ℕ)
message_of None = []
message_of (Some sent) = sent.message ∷ []

-- the next request, where there is one
abbrev pub asks : Signing → Policy → Talk → Talk
asks m p t = record t { state = record t.state { client = asked m p t.state.client }; requests = t.requests ++ message_of (request_in m p t.state.client) }

-- ---- the whole

-- A record comes, and the next request is made. What comes when all is over is not looked at.
unfoldable pub heard : Signing → Policy → Talk → (message : List ℕ) → Talk
heard m p t message = cond t.state.is_over t (asks m p (turned t (turn m p t.state.client message)))

-- with nothing asked and nothing shown
abbrev pub fresh : State → Talk
fresh s = record { state = s; requests = []; texts = [] }

-- before a record has come
unfoldable pub opened : Signing → Policy → (level : ℕ) → Script → Talk
opened m p level s = asks m p (fresh (beginning level s))

-- the dialogue when these records have come
unfoldable pub talk : Signing → Policy → (level : ℕ) → Script → (records : List (List ℕ)) → Talk
talk m p level s records = fold (heard m p) (opened m p level s) records
