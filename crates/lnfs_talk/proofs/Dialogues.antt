-- Dialogues, step by step.
use Rattle.std.proofs.Common.{◌≡◌, ◌≤◌, ◌+◌, ℕ, Bool, true, false, List, [], ◌∷◌, ◌++◌, All, refl, arith}
use Rattle.std.specs.Prelude.{cond, if◌then◌else◌, ◌==◌, Option, Some, None, Result, Ok, Err}
use Rattle.std.proofs.lemmas.List.Elements.{All-append, All-cons, All-nil, All-tail}
use Rattle.std.proofs.lemmas.List.Sums.{fold-append}
use Rattle.lnfs_policy.specs.Policy.{Policy}
use Rattle.lnfs_gss3.specs.Mechanism.{Signing}
use Rattle.lnfs_answers.specs.declared.types.Told.{Told}
use Rattle.lnfs_answers.specs.declared.types.Told.TheVariants as told
use Rattle.lnfs_results.specs.declared.types.OpResult.TheVariants as results
use Rattle.lnfs_client.specs.declared.answer.Answer.TheVariants as answers
use Rattle.lnfs_script.specs.declared.script.Script.{Script}
use Rattle.lnfs_answers.specs.declared.request.Heard.{Heard}
use Rattle.lnfs_answers.specs.declared.request.Heard.TheVariants as heards
use Rattle.lnfs_asking.specs.declared.sent.Sent.{Sent}
use Rattle.lnfs_script.specs.Fits.{ActionSuits}
use Rattle.lnfs_script.specs.declared.action.Action.{Action}
use Rattle.lnfs_script.specs.declared.action.Action.TheVariants as actions
use Rattle.lnfs_script.specs.declared.identity.Identity.{Identity}
use Rattle.lnfs_script.specs.declared.identity.Identity.TheVariants as identities
use Rattle.lnfs_client.specs.declared.stage.Stage.{Stage}
use Rattle.lnfs_client.specs.declared.stage.Stage.TheVariants as stages
use Rattle.lnfs_client.specs.declared.known.Known.{Known}
use Rattle.lnfs_client.specs.declared.known.Running.{Running}
use Rattle.lnfs_client.specs.declared.answer.Progress.{Progress}
use Rattle.lnfs_client.specs.declared.answer.Progress.TheVariants.{More, Done}
use Rattle.lnfs_client.specs.declared.answer.Refusal.{Refusal}
use Rattle.lnfs_client.specs.declared.answer.Refusal.TheVariants as refusals
use Rattle.lnfs_client.specs.Fits.{Suits}
use Rattle.lnfs_client.specs.Runs.{MayStart}
use Rattle.lnfs_client.specs.Machine.{begun, started, posted, asked_with, asked, request_in, Turn, next, refuses, answered, goes_to, succeeded, succeeded_by, judged, moved, kept_in, at_target, changed, without_client, exchanged, created, turn, turn_by, heard_by, ended}
use Rattle.lnfs_client.specs.Told.{last_in, is_end}
use Rattle.lnfs_talk.specs.Talk.{State, Talk, beginning, owner, over, proceeded, proceeded_to, led, turned, asks, fresh, opened, heard, talk}
use Rattle.lnfs_talk.specs.Fits.{Goes}
use Rattle.lnfs_talk.specs.Talks.{MayTalk}

-- ---- what a policy has to hold

head : {A : Type 0} (P : A → Type 0) (x : A) (xs : List A) → All P (x ∷ xs) → P x
head P x xs a = a 0 x (omega arith)

module _ (p : Policy) (begins : (k : Known) (action : Action) → Suits p k → ActionSuits p action → Suits p (begun action k)) where
  begun_goes : (b : Bool) (s : State) (action : Action) (more : List Action) → Suits p s.client → All (ActionSuits p) (action ∷ more)
      → Goes p (cond b (record s { client = begun action s.client; actions = more }) (over (record s { actions = more })))
  begun_goes true s action more suits a = record { client = begins s.client action suits (head (ActionSuits p) action more a); actions = All-tail (ActionSuits p) action more a }
  begun_goes false s action more suits a = record { client = suits; actions = All-tail (ActionSuits p) action more a }

  to_goes : (s : State) (todo : List Action) → Goes p s → All (ActionSuits p) todo → Goes p (proceeded_to s todo)
  to_goes s [] g a = record { client = g.client; actions = g.actions }
  to_goes s (action ∷ more) g a = begun_goes s.client.mounted s action more g.client a

  pub proceeded_goes : (s : State) → Goes p s → Goes p (proceeded s)
  proceeded_goes s g = to_goes s s.actions g g.actions

-- a script's dialogue at its beginning
pub beginning_goes : (p : Policy) (level : ℕ) (s : Script) (starts : (who : Identity) (owner : List ℕ) → MayStart p level who → Suits p (started level who owner)) (begins : (k : Known) (action : Action) → Suits p k → ActionSuits p action → Suits p (begun action k))
    → MayTalk p level s → Goes p (beginning level s)
beginning_goes p level s starts begins may = record {
  client = begins (started level s.identity owner) actions.Mount (starts s.identity owner (record { level_is = may.level_is; identity = may.identity })) tt;
  actions = All-append (ActionSuits p) s.actions (actions.Leave ∷ []) may.suits (All-cons (ActionSuits p) actions.Leave [] tt (All-nil (ActionSuits p)));
}

pub led_goes : (p : Policy) (begins : (k : Known) (action : Action) → Suits p k → ActionSuits p action → Suits p (begun action k)) (s : State) (told : Result Progress Refusal) → Goes p s → Goes p (led s told)
led_goes p begins s (Ok More) g = g
led_goes p begins s (Ok (Done answer)) g = proceeded_goes p begins s g
led_goes p begins s (Err (refusals.BadReply at)) g = record { client = g.client; actions = g.actions }
led_goes p begins s (Err cause) g = proceeded_goes p begins s g

-- ---- how many requests

exchanged_sent : (k : Known) (last : Option Told) → (exchanged k last).sent ≡ k.sent
unfolding exchanged
exchanged_sent k (Some (told.Other (results.ExchangeId client sequence flags minor major scope))) = refl
exchanged_sent k last = refl

created_sent : (k : Known) (last : Option Told) → (created k last).sent ≡ k.sent
unfolding created
created_sent k (Some (told.Other (results.CreateSession session sequence flags fore back))) = refl
created_sent k last = refl

either_sent : (b : Bool) (k : Known) (x y : Turn) → x.client.sent ≡ k.sent → y.client.sent ≡ k.sent → (if b then x else y).client.sent ≡ k.sent
either_sent true k x y e f = e
either_sent false k x y e f = f

target_sent : (k : Known) (r : Running) (last : Option Told) (action : Action) → (at_target k r last action).client.sent ≡ k.sent
target_sent k r last (actions.List path) = either_sent (is_end last) k (answered k (answers.Entries r.shown)) (goes_to k r stages.Asking) refl refl
target_sent k r last (actions.Read path offset count) = refl
target_sent k r last action = refl

changed_sent : (k : Known) (r : Running) (last : Option Told) (action : Action) → (changed k r last action).client.sent ≡ k.sent
changed_sent k r last (actions.Write path offset content) = refl
changed_sent k r last (actions.Mkdir path level) = refl
changed_sent k r last (actions.Remove path) = refl
changed_sent k r last (actions.Raise path level) = refl
changed_sent k r last action = refl

without_sent : (k : Known) (r : Running) (who : Identity) → (without_client k r who).client.sent ≡ k.sent
without_sent k r (identities.Guest uid) = refl
without_sent k r (identities.Full parent) = refl

moved_sent : (k : Known) (r : Running) (last : Option Told) (stage : Stage) → (moved k r last stage).client.sent ≡ k.sent
unfolding moved
moved_sent k r last stages.Asserting = refl
moved_sent k r last stages.Exchanging = exchanged_sent k last
moved_sent k r last stages.Creating = created_sent k last
moved_sent k r last stages.Reclaiming = refl
moved_sent k r last stages.Asking = target_sent k r last r.action
moved_sent k r last stages.Changing = changed_sent k r last r.action
moved_sent k r last stages.Closing = refl
moved_sent k r last stages.EndingSession = refl
moved_sent k r last stages.EndingClient = without_sent k r k.identity
moved_sent k r last stages.EndingContext = refl

succeeded_sent : (p : Policy) (k : Known) (r : Running) (rs : List Told) (judgement : Result (Unit {0}) Refusal) → (succeeded_by p k r rs judgement).client.sent ≡ k.sent
succeeded_sent p k r rs (Err cause) = refl
succeeded_sent p k r rs (Ok fine) = moved_sent k (kept_in p r rs r.stage) (last_in rs) r.stage

next_sent : (p : Policy) (k : Known) (r : Running) (h : Heard) → (next p k r h).client.sent ≡ k.sent
unfolding next
next_sent p k r heards.Other = refl
next_sent p k r (heards.Denied auth) = refl
next_sent p k r (heards.Bad at) = refl
next_sent p k r (heards.Said s) = either_sent (s.status == 0) k (succeeded p k r s.results) (refuses k (refusals.ServerSaid s.status)) (succeeded_sent p k r s.results (judged p k r.action r.stage s.results)) refl
next_sent p k r (heards.Granted handle) = refl
next_sent p k r heards.Ended = refl

turn_by_sent : (p : Policy) (k : Known) (h : Heard) (running : Option Running) → (turn_by p k h running).client.sent ≡ k.sent
turn_by_sent p k h None = refl
turn_by_sent p k h (Some r) = next_sent p (ended k) r h

-- a reply makes none
pub turn_sent : (m : Signing) (p : Policy) (k : Known) (bytes : List ℕ) → (turn m p k bytes).client.sent ≡ k.sent
unfolding turn
turn_sent m p k bytes = turn_by_sent p k (heard_by m p k bytes) k.running

posted_sent : (k : Known) (sent : Sent) (running : Option Running) → (posted k sent running).sent ≤ k.sent + 1
posted_sent k sent None = omega arith
posted_sent k sent (Some r) = omega arith

asked_with_sent : (k : Known) (sent : Option Sent) → (asked_with k sent).sent ≤ k.sent + 1
asked_with_sent k None = omega arith
asked_with_sent k (Some sent) = posted_sent k sent k.running

pub asked_sent : (m : Signing) (p : Policy) (k : Known) → (asked m p k).sent ≤ k.sent + 1
unfolding asked
asked_sent m p k = asked_with_sent k (request_in m p k)

-- nor does what follows it
cond_sent : (b : Bool) (k : Known) (x y : State) → x.client.sent ≡ k.sent → y.client.sent ≡ k.sent → (cond b x y).client.sent ≡ k.sent
cond_sent true k x y e f = e
cond_sent false k x y e f = f

to_sent : (s : State) (todo : List Action) → (proceeded_to s todo).client.sent ≡ s.client.sent
to_sent s [] = refl
to_sent s (action ∷ more) = cond_sent s.client.mounted s.client (record s { client = begun action s.client; actions = more }) (over (record s { actions = more })) refl refl

pub led_sent : (s : State) (told : Result Progress Refusal) → (led s told).client.sent ≡ s.client.sent
led_sent s (Ok More) = refl
led_sent s (Ok (Done answer)) = to_sent s s.actions
led_sent s (Err (refusals.BadReply at)) = refl
led_sent s (Err cause) = to_sent s s.actions

-- ---- the dialogue goes on

on_by : (m : Signing) (p : Policy) (b : Bool) (t : Talk) (message : List ℕ) → b ≡ false
    → cond b t (asks m p (turned t (turn m p t.state.client message))) ≡ record { state = (cond b (fresh t.state) (asks m p (turned (fresh t.state) (turn m p t.state.client message)))).state; requests = t.requests ++ (cond b (fresh t.state) (asks m p (turned (fresh t.state) (turn m p t.state.client message)))).requests; texts = t.texts ++ (cond b (fresh t.state) (asks m p (turned (fresh t.state) (turn m p t.state.client message)))).texts }
on_by m p true t message is = let h : ⊥ = cc in absurd h
on_by m p false t message is = refl

-- what a record adds
pub heard_on : (m : Signing) (p : Policy) (t : Talk) (message : List ℕ) → t.state.is_over ≡ false
    → heard m p t message ≡ record { state = (heard m p (fresh t.state) message).state; requests = t.requests ++ (heard m p (fresh t.state) message).requests; texts = t.texts ++ (heard m p (fresh t.state) message).texts }
unfolding heard
heard_on m p t message is = on_by m p t.state.is_over t message is

pub talk_on : (m : Signing) (p : Policy) (level : ℕ) (s : Script) (records : List (List ℕ)) (message : List ℕ) → talk m p level s (records ++ message ∷ []) ≡ heard m p (talk m p level s records) message
unfolding talk
talk_on m p level s records message = fold-append (heard m p) (opened m p level s) records (message ∷ [])
