-- An action that is about to change something has read a label that tells the client's own level.
use Rattle.std.proofs.Common.{◌≡◌, ℕ, Bool, true, false, ◌==◌, List, Option, Some, None, Result, Ok, Err, refl, sym, ap, ◌∙◌, subst}
use Rattle.std.specs.Prelude.{if◌then◌else◌}
use Rattle.std.proofs.lemmas.Bool.{eqb-true}
use Rattle.lnfs_calipso.specs.declared.Level.{Level}
use Rattle.lnfs_format.specs.declared.formats.ReadError.{ReadError}
use Rattle.lnfs_policy.specs.Policy.{Policy, dominance}
use Rattle.lnfs_attrs.specs.declared.view.LabelValue.{LabelValue}
use Rattle.lnfs_answers.specs.declared.types.Told.{Told}
use Rattle.lnfs_answers.specs.declared.types.Said.{Said}
use Rattle.lnfs_answers.specs.declared.request.Heard.{Heard}
use Rattle.lnfs_answers.specs.declared.request.Heard.TheVariants as heards
use Rattle.lnfs_script.specs.declared.identity.Identity.{Identity}
use Rattle.lnfs_script.specs.declared.identity.Identity.TheVariants as identities
use Rattle.lnfs_script.specs.declared.action.Action.{Action}
use Rattle.lnfs_script.specs.declared.action.Action.TheVariants as actions
use Rattle.lnfs_asking.specs.declared.sent.Sent.{Sent}
use Rattle.lnfs_client.specs.declared.stage.Stage.{Stage}
use Rattle.lnfs_client.specs.declared.stage.Stage.TheVariants.{Asserting, Exchanging, Creating, Reclaiming, Asking, Changing, Closing, EndingSession, EndingClient, EndingContext}
use Rattle.lnfs_client.specs.declared.known.Known.{Known}
use Rattle.lnfs_client.specs.declared.known.Running.{Running}
use Rattle.lnfs_client.specs.declared.answer.Answer.TheVariants as answers
use Rattle.lnfs_client.specs.declared.answer.Refusal.{Refusal}
use Rattle.lnfs_client.specs.declared.answer.Refusal.TheVariants as refusals
use Rattle.lnfs_client.specs.Enforcing.{enforced}
use Rattle.lnfs_client.specs.Told.{label_in, last_in, is_end}
use Rattle.lnfs_client.specs.Machine.{refuses, answered, goes_to, kept_at, kept_in, at_target, changed, without_client, moved, level_told, judged, succeeded_by, succeeded, said, next, spent, posted}
use Rattle.lnfs_client.specs.Promises.{IsReady, IfChanging, ReadyIn}
use Rattle.lnfs_client.proofs.Steps.{level_parts, level_judged}

-- ---- what is judged for writing

abbrev pub Ready : Policy → Known → Type 0
Ready p n = ReadyIn p n.level n.running

put : (subject level : ℕ) (fine : Unit {0}) (b : Bool) → (subject == level) ≡ b → ◌≡◌ {A = Result (Unit {0}) Refusal} (if b then Ok tt else Err refusals.NotEqual) (Ok fine) → subject ≡ level
put subject level fine true e h = eqb-true _ _ e
put subject level fine false e h = absurd cc

writes_well : (p : Policy) (k : Known) (r : Running) (label : Option LabelValue) (fine : Unit {0}) → enforced (dominance p) k.level.0 (level_told p label) true ≡ Ok fine → IsReady p k.level (record r { label = label })
writes_well p k r None fine h = absurd cc
writes_well p k r (Some v) fine h =
    let known = level_judged (dominance p) k.level.0 (level_told p (Some v)) true fine h in
    let at : enforced (dominance p) k.level.0 (Some known.0) true ≡ Ok fine = ap (λ (o : Option Level). enforced (dominance p) k.level.0 o true) (sym known.1) ∙ h in
    let same : k.level.0 ≡ known.0.0 = put k.level.0 known.0.0 fine (k.level.0 == known.0.0) refl at in
    let told : ℕ → Result ℕ ReadError = λ n. Ok n in
    (v, refl, (level_parts p v known.0 known.1).1 ∙ ap told (sym same))

-- ---- where an action moves

target_ready : (p : Policy) (k : Known) (r : Running) (rs : List Told) (action : Action) (fine : Unit {0}) → judged p k action Asking rs ≡ Ok fine → Ready p (at_target k (kept_at p r rs action) (last_in rs) action).client
target_ready p k r rs (actions.List path) fine ok =
    elim (is_end (last_in rs)) as (λ b. Ready p (if b then answered k (answers.Entries (kept_at p r rs (actions.List path)).shown) else goes_to k (kept_at p r rs (actions.List path)) Asking).client) [
      | true ↦ tt
      | false ↦ tt
    ]
target_ready p k r rs (actions.Read path offset count) fine ok = tt
target_ready p k r rs action fine ok = writes_well p k r (label_in rs) fine ok

changed_ready : (p : Policy) (k : Known) (s : Running) (last : Option Told) (action : Action) → Ready p (changed k s last action).client
changed_ready p k s last (actions.Write path offset content) = tt
changed_ready p k s last (actions.Mkdir path level) = tt
changed_ready p k s last (actions.Remove path) = tt
changed_ready p k s last (actions.Raise path level) = tt
changed_ready p k s last action = tt

ended_ready : (p : Policy) (k : Known) (s : Running) (who : Identity) → Ready p (without_client k s who).client
ended_ready p k s (identities.Guest uid) = tt
ended_ready p k s (identities.Full parent) = tt

-- the action that is kept is the same
pub kept_action : (p : Policy) (r : Running) (rs : List Told) (action : Action) → (kept_at p r rs action).action ≡ r.action
kept_action p r rs (actions.List path) = refl
kept_action p r rs (actions.Read path offset count) = refl
kept_action p r rs action = refl

moved_ready : (p : Policy) (k : Known) (r : Running) (rs : List Told) (stage : Stage) (fine : Unit {0}) → judged p k r.action stage rs ≡ Ok fine → Ready p (moved k (kept_in p r rs stage) (last_in rs) stage).client
unfolding moved kept_in
moved_ready p k r rs Asserting fine ok = tt
moved_ready p k r rs Exchanging fine ok = tt
moved_ready p k r rs Creating fine ok = tt
moved_ready p k r rs Reclaiming fine ok = tt
moved_ready p k r rs Asking fine ok =
    subst (λ (a : Action). Ready p (at_target k (kept_at p r rs r.action) (last_in rs) a).client) (sym (kept_action p r rs r.action)) (target_ready p k r rs r.action fine ok)
moved_ready p k r rs Changing fine ok = changed_ready p k r (last_in rs) r.action
moved_ready p k r rs Closing fine ok = tt
moved_ready p k r rs EndingSession fine ok = tt
moved_ready p k r rs EndingClient fine ok = ended_ready p k r k.identity
moved_ready p k r rs EndingContext fine ok = tt

-- ---- what a record leads to

verdict_ready : (p : Policy) (k : Known) (r : Running) (rs : List Told) (verdict : Result (Unit {0}) Refusal) → judged p k r.action r.stage rs ≡ verdict → Ready p (succeeded_by p k r rs verdict).client
verdict_ready p k r rs (Err cause) e = tt
verdict_ready p k r rs (Ok fine) e = moved_ready p k r rs r.stage fine e

said_ready : (p : Policy) (k : Known) (r : Running) (s : Said) → Ready p (said p k r s).client
said_ready p k r s =
    elim (s.status == 0) as (λ b. Ready p (if b then succeeded p k r s.results else refuses k (refusals.ServerSaid s.status)).client) [
      | true ↦ verdict_ready p k r s.results (judged p k r.action r.stage s.results) refl
      | false ↦ tt
    ]

pub next_ready : (p : Policy) (k : Known) (r : Running) (h : Heard) → IfChanging r.stage (IsReady p k.level r) → Ready p (next p k r h).client
unfolding next
next_ready p k r heards.Other ready = ready
next_ready p k r (heards.Denied auth) ready = tt
next_ready p k r (heards.Bad at) ready = tt
next_ready p k r (heards.Said s) ready = said_ready p k r s
next_ready p k r (heards.Granted handle) ready = tt
next_ready p k r heards.Ended ready = tt

-- ---- requests

at_stage : (p : Policy) (level : Level) (r s : Running) (stage : Stage) → s.label ≡ r.label → IfChanging stage (IsReady p level r) → IfChanging stage (IsReady p level s)
at_stage p level r s Changing same ready = (ready.0, same ∙ ready.1, ready.2)
at_stage p level r s stage same ready = tt

spent_level : (stage : Stage) (k : Known) → (spent stage k).level ≡ k.level
spent_level Creating k = refl
spent_level Reclaiming k = refl
spent_level Asking k = refl
spent_level Changing k = refl
spent_level Closing k = refl
spent_level stage k = refl

pub posted_ready : (p : Policy) (k : Known) (sent : Sent) (r : Running) → IfChanging r.stage (IsReady p k.level r) → Ready p (posted k sent (Some r))
posted_ready p k sent r ready =
    let s : Running = record r { awaited = Some sent } in
    subst (λ (l : Level). IfChanging r.stage (IsReady p l s)) (sym (spent_level r.stage k)) (at_stage p k.level r s r.stage refl ready)
