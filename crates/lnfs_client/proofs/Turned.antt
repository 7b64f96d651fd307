-- What the parts of a turn come to, for the functions that take a reply.
use Rattle.std.proofs.Common.{◌≡◌, List, Option, None, Result, Ok, Err, refl, sym, ap, ◌∙◌, subst}
use Rattle.lnfs_policy.specs.Policy.{Policy}
use Rattle.lnfs_answers.specs.declared.types.Told.{Told}
use Rattle.lnfs_script.specs.declared.action.Action.{Action}
use Rattle.lnfs_script.specs.declared.action.Action.TheVariants as actions
use Rattle.lnfs_client.specs.declared.stage.Stage.{Stage}
use Rattle.lnfs_client.specs.declared.stage.Stage.TheVariants.{Asking}
use Rattle.lnfs_client.specs.declared.known.Known.{Known}
use Rattle.lnfs_client.specs.declared.known.Running.{Running}
use Rattle.lnfs_client.specs.declared.answer.Progress.{Progress}
use Rattle.lnfs_client.specs.declared.answer.Refusal.{Refusal}
use Rattle.lnfs_client.specs.declared.answer.Refusal.TheVariants as refusals
use Rattle.lnfs_client.specs.Told.{last_in}
use Rattle.lnfs_client.specs.Machine.{Turn, Turns, Judges, ended, kept_at, kept_in, moved, judged, succeeded_by, succeeded}

-- a client beside which no action is under way
pub idle_is : (k : Known) → k.running ≡ None → k ≡ ended k
idle_is k idle = ap (λ (o : Option Running). record k { running = o }) idle

-- what holds of a client without its action holds of it with the action
pub beside : (result : Result Progress Refusal) (k n : Known) (t : Turn) → Turns result (ended k) n t → Turns result k n t
beside (Err refusals.Memory) k n t turns = turns
beside result k n t turns = turns

-- ---- a stage that is over

pub led : (result : Progress) (k n : Known) (t : Turn) → record { client = n; told = Ok result } ≡ t → Turns (Ok result) k n t
led result k n t e = (ap (λ (x : Turn). x.client) e, ap (λ (x : Turn). x.told) e)

-- what is answered, and what is led to, by the stage in which the action is
pub led_from : (result : Progress) (k n : Known) (r : Running) (last : Option Told) (stage : Stage) → r.stage ≡ stage → record { client = n; told = Ok result } ≡ moved k r last stage → Turns (Ok result) k n (moved k r last r.stage)
led_from result k n r last stage at e = subst (λ (s : Stage). Turns (Ok result) k n (moved k r last s)) (sym at) (led result k n (moved k r last stage) e)

pub turned_from : (result : Result Progress Refusal) (k n : Known) (r : Running) (last : Option Told) (stage : Stage) → r.stage ≡ stage → Turns result k n (moved k r last stage) → Turns result k n (moved k r last r.stage)
turned_from result k n r last stage at turns = subst (λ (s : Stage). Turns result k n (moved k r last s)) (sym at) turns

-- ---- a COMPOUND that has succeeded

-- what is kept doesn't change the stage
kept_at_stage : (p : Policy) (r : Running) (rs : List Told) (action : Action) → (kept_at p r rs action).stage ≡ r.stage
kept_at_stage p r rs (actions.List path) = refl
kept_at_stage p r rs (actions.Read path offset count) = refl
kept_at_stage p r rs action = refl

kept_stage : (p : Policy) (r : Running) (rs : List Told) (stage : Stage) → (kept_in p r rs stage).stage ≡ r.stage
unfolding kept_in
kept_stage p r rs Asking = kept_at_stage p r rs r.action
kept_stage p r rs stage = refl

-- the judgement refuses
pub refused : (p : Policy) (k : Known) (r : Running) (rs : List Told) (cause : Refusal) → k.running ≡ None → Judges (Err cause) (judged p k r.action r.stage rs) → Turns (Err cause) k k (succeeded p k r rs)
refused p k r rs refusals.Memory idle judges = idle_is k idle
refused p k r rs cause idle judges = subst (λ (verdict : Result (Unit {0}) Refusal). Turns (Err cause) k k (succeeded_by p k r rs verdict)) judges (idle_is k idle, refl)

-- the action goes on with what is kept
pub goes : (p : Policy) (k n : Known) (r s : Running) (rs : List Told) (last : Option Told) (result : Result Progress Refusal) → Judges (Ok tt) (judged p k r.action r.stage rs) → s ≡ kept_in p r rs r.stage → last ≡ last_in rs → Turns result k n (moved k s last s.stage) → Turns result k n (succeeded p k r rs)
goes p k n r s rs last result judges kept at turns =
    let same : s.stage ≡ r.stage = ap (λ (x : Running). x.stage) kept ∙ kept_stage p r rs r.stage in
    let staged = subst (λ (stage : Stage). Turns result k n (moved k s last stage)) same turns in
    let told = subst (λ (o : Option Told). Turns result k n (moved k s o r.stage)) at staged in
    let own = subst (λ (x : Running). Turns result k n (moved k x (last_in rs) r.stage)) kept told in
    subst (λ (verdict : Result (Unit {0}) Refusal). Turns result k n (succeeded_by p k r rs verdict)) judges own
