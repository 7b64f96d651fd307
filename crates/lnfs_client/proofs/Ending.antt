-- Where an action has ended, and whether the client is mounted then.
use Rattle.std.proofs.Common.{◌≡◌, true, false, ◌==◌, List, Option, Some, None, Result, Ok, Err, refl}
use Rattle.std.specs.Prelude.{if◌then◌else◌}
use Rattle.lnfs_policy.specs.Policy.{Policy}
use Rattle.lnfs_answers.specs.declared.types.Told.{Told}
use Rattle.lnfs_answers.specs.declared.types.Told.TheVariants as told
use Rattle.lnfs_answers.specs.declared.types.Said.{Said}
use Rattle.lnfs_answers.specs.declared.request.Heard.{Heard}
use Rattle.lnfs_answers.specs.declared.request.Heard.TheVariants as heards
use Rattle.lnfs_results.specs.declared.types.OpResult.TheVariants as results
use Rattle.lnfs_script.specs.declared.identity.Identity.{Identity}
use Rattle.lnfs_script.specs.declared.identity.Identity.TheVariants as identities
use Rattle.lnfs_script.specs.declared.action.Action.{Action}
use Rattle.lnfs_script.specs.declared.action.Action.TheVariants as actions
use Rattle.lnfs_client.specs.declared.stage.Stage.{Stage}
use Rattle.lnfs_client.specs.declared.stage.Stage.TheVariants.{Asserting, Exchanging, Creating, Reclaiming, Asking, Changing, Closing, EndingSession, EndingClient, EndingContext}
use Rattle.lnfs_client.specs.declared.known.Known.{Known}
use Rattle.lnfs_client.specs.declared.known.Running.{Running}
use Rattle.lnfs_client.specs.declared.answer.Answer.TheVariants as answers
use Rattle.lnfs_client.specs.declared.answer.Progress.{Progress}
use Rattle.lnfs_client.specs.declared.answer.Refusal.{Refusal}
use Rattle.lnfs_client.specs.declared.answer.Refusal.TheVariants as refusals
use Rattle.lnfs_client.specs.Told.{last_in, is_end}
use Rattle.lnfs_client.specs.Machine.{Turn, refuses, answered, goes_to, ended, exchanged, created, at_target, changed, without_client, moved, kept_in, judged, succeeded_by, succeeded, said, next, turn_by}
use Rattle.lnfs_client.specs.Fits.{IfEnded, mounted_by}

-- an action that has ended is no more under way, and the answer tells whether the client is mounted
abbrev pub Ends : Known → Known → Result Progress Refusal → Type 0
Ends k n told = IfEnded told (n.running ≡ None) × (n.mounted ≡ mounted_by told k.mounted)

abbrev Turned : Known → Turn → Type 0
Turned k t = Ends k t.client t.told

exchanged_mounted : (k : Known) (last : Option Told) → (exchanged k last).mounted ≡ k.mounted
unfolding exchanged
exchanged_mounted k (Some (told.Other (results.ExchangeId client sequence flags minor major scope))) = refl
exchanged_mounted k last = refl

created_mounted : (k : Known) (last : Option Told) → (created k last).mounted ≡ k.mounted
unfolding created
created_mounted k (Some (told.Other (results.CreateSession session sequence flags fore back))) = refl
created_mounted k last = refl

target_ends : (k : Known) (s : Running) (last : Option Told) (action : Action) → Turned k (at_target k s last action)
target_ends k s last (actions.List path) =
    elim (is_end last) as (λ b. Turned k (if b then answered k (answers.Entries s.shown) else goes_to k s Asking)) [ true ↦ (refl, refl) | false ↦ (tt, refl) ]
target_ends k s last (actions.Read path offset count) = (refl, refl)
target_ends k s last action = (tt, refl)

changed_ends : (k : Known) (s : Running) (last : Option Told) (action : Action) → Turned k (changed k s last action)
changed_ends k s last (actions.Write path offset content) = (refl, refl)
changed_ends k s last (actions.Mkdir path level) = (refl, refl)
changed_ends k s last (actions.Remove path) = (refl, refl)
changed_ends k s last (actions.Raise path level) = (refl, refl)
changed_ends k s last action = (tt, refl)

client_ends : (k : Known) (s : Running) (who : Identity) → Turned k (without_client k s who)
client_ends k s (identities.Guest uid) = (refl, refl)
client_ends k s (identities.Full parent) = (tt, refl)

moved_ends : (k : Known) (s : Running) (last : Option Told) (stage : Stage) → Turned k (moved k s last stage)
unfolding moved
moved_ends k s last Asserting = (tt, refl)
moved_ends k s last Exchanging = (tt, exchanged_mounted k last)
moved_ends k s last Creating = (tt, created_mounted k last)
moved_ends k s last Reclaiming = (refl, refl)
moved_ends k s last Asking = target_ends k s last s.action
moved_ends k s last Changing = changed_ends k s last s.action
moved_ends k s last Closing = (refl, refl)
moved_ends k s last EndingSession = (tt, refl)
moved_ends k s last EndingClient = client_ends k s k.identity
moved_ends k s last EndingContext = (refl, refl)

verdict_ends : (p : Policy) (k : Known) (r : Running) (rs : List Told) (verdict : Result (Unit {0}) Refusal) → Turned k (succeeded_by p k r rs verdict)
verdict_ends p k r rs (Err cause) = (refl, refl)
verdict_ends p k r rs (Ok fine) = moved_ends k (kept_in p r rs r.stage) (last_in rs) r.stage

said_ends : (p : Policy) (k : Known) (r : Running) (s : Said) → Turned k (said p k r s)
said_ends p k r s =
    elim (s.status == 0) as (λ b. Turned k (if b then succeeded p k r s.results else refuses k (refusals.ServerSaid s.status))) [
      | true ↦ verdict_ends p k r s.results (judged p k r.action r.stage s.results)
      | false ↦ (refl, refl)
    ]

next_ends : (p : Policy) (k : Known) (r : Running) (h : Heard) → Turned k (next p k r h)
unfolding next
next_ends p k r heards.Other = (tt, refl)
next_ends p k r (heards.Denied auth) = (refl, refl)
next_ends p k r (heards.Bad at) = (refl, refl)
next_ends p k r (heards.Said s) = said_ends p k r s
next_ends p k r (heards.Granted handle) = (tt, refl)
next_ends p k r heards.Ended = (refl, refl)

pub turn_ends : (p : Policy) (k : Known) (h : Heard) (o : Option Running) → Turned k (turn_by p k h o)
turn_ends p k h None = (tt, refl)
turn_ends p k h (Some r) = next_ends p (ended k) r h
