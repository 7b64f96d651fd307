-- What is shown comes of one reply, whose own label the client's level dominates.
use Rattle.std.proofs.Common.{◌≡◌, ℕ, Bool, true, false, ◌==◌, List, Option, Some, None, Result, Ok, Err, refl, sym, ap, ◌∙◌, subst}
use Rattle.std.specs.Prelude.{if◌then◌else◌}
use Rattle.std.proofs.lemmas.Bool.{eqb-true}
use Rattle.lnfs_calipso.specs.declared.Level.{Level}
use Rattle.lnfs_policy.specs.Policy.{Policy, dominance}
use Rattle.lnfs_gss3.specs.Mechanism.{Signing}
use Rattle.lnfs_attrs.specs.declared.view.LabelValue.{LabelValue}
use Rattle.lnfs_answers.specs.declared.types.Told.{Told}
use Rattle.lnfs_answers.specs.declared.types.Said.{Said}
use Rattle.lnfs_answers.specs.declared.request.Heard.{Heard}
use Rattle.lnfs_answers.specs.declared.request.Heard.TheVariants as heards
use Rattle.lnfs_script.specs.declared.identity.Identity.{Identity}
use Rattle.lnfs_script.specs.declared.identity.Identity.TheVariants as identities
use Rattle.lnfs_script.specs.declared.action.Action.{Action}
use Rattle.lnfs_script.specs.declared.action.Action.TheVariants as actions
use Rattle.lnfs_client.specs.declared.stage.Stage.{Stage}
use Rattle.lnfs_client.specs.declared.stage.Stage.TheVariants.{Asserting, Exchanging, Creating, Reclaiming, Asking, Changing, Closing, EndingSession, EndingClient, EndingContext}
use Rattle.lnfs_client.specs.declared.known.Known.{Known}
use Rattle.lnfs_client.specs.declared.known.Running.{Running}
use Rattle.lnfs_client.specs.declared.answer.Answer.TheVariants as answers
use Rattle.lnfs_client.specs.declared.answer.Progress.{Progress}
use Rattle.lnfs_client.specs.declared.answer.Refusal.{Refusal}
use Rattle.lnfs_client.specs.declared.answer.Refusal.TheVariants as refusals
use Rattle.lnfs_client.specs.Enforcing.{enforced}
use Rattle.lnfs_client.specs.Told.{label_in, last_in, is_end}
use Rattle.lnfs_client.specs.Machine.{Turn, refuses, answered, goes_to, ended, at_target, changed, without_client, moved, kept_at, kept_in, level_told, judged, succeeded_by, succeeded, next, heard_by, turn_by, turn}
use Rattle.lnfs_client.specs.Promises.{Tells, IsJudged, IsShownOf, IfShown}
use Rattle.lnfs_client.proofs.Steps.{level_parts, level_judged}
use Rattle.lnfs_client.proofs.Ready.{kept_action}

-- ---- what is judged for reading

taken : (dom : ℕ → ℕ → Bool) (subject level : ℕ) (fine : Unit {0}) (b : Bool) → dom subject level ≡ b → ◌≡◌ {A = Result (Unit {0}) Refusal} (if b then Ok tt else Err refusals.NotDominated) (Ok fine) → dom subject level ≡ true
taken dom subject level fine true e h = e
taken dom subject level fine false e h = absurd cc

-- the label is there, tells a level, and the level is dominated
pub record ReadsWell (p : Policy) (subject : ℕ) (label : Option LabelValue) : Type 0 where
  pub value : LabelValue
  pub level : Level
  pub is : label ≡ Some value
  pub tells : Tells p value level
  pub dominated : dominance p subject level.0 ≡ true

pub reads_well : (p : Policy) (subject : ℕ) (label : Option LabelValue) (fine : Unit {0}) → enforced (dominance p) subject (level_told p label) false ≡ Ok fine → ReadsWell p subject label
reads_well p subject None fine h = absurd cc
reads_well p subject (Some v) fine h =
    let known = level_judged (dominance p) subject (level_told p (Some v)) false fine h in
    let at : enforced (dominance p) subject (Some known.0) false ≡ Ok fine = ap (λ (o : Option Level). enforced (dominance p) subject o false) (sym known.1) ∙ h in
    record {
      value = v;
      level = known.0;
      is = refl;
      tells = (level_parts p v known.0 known.1).1;
      dominated = taken (dominance p) subject known.0.0 fine (dominance p subject known.0.0) refl at;
    }

pub judged_of : (m : Signing) (p : Policy) (k : Known) (bytes : List ℕ) (rs : List Told) → heard_by m p k bytes ≡ heards.Said (record { status = 0; results = rs }) → ReadsWell p k.level.0 (label_in rs) → IsJudged m p k bytes rs
judged_of m p k bytes rs h well = record { label = well.value; level = well.level; is_answer = h; has_label = well.is; tells = well.tells; dominated = well.dominated }

-- ---- where nothing is shown

-- nothing that an object holds is told
abbrev IsQuiet : Signing → Policy → Known → List ℕ → Turn → Type 0
IsQuiet m p k bytes t = IfShown t.told (IsShownOf m p k bytes)

changed_quiet : (m : Signing) (p : Policy) (k : Known) (bytes : List ℕ) (e : Known) (s : Running) (last : Option Told) (action : Action) → IsQuiet m p k bytes (changed e s last action)
changed_quiet m p k bytes e s last (actions.Write path offset content) = tt
changed_quiet m p k bytes e s last (actions.Mkdir path level) = tt
changed_quiet m p k bytes e s last (actions.Remove path) = tt
changed_quiet m p k bytes e s last (actions.Raise path level) = tt
changed_quiet m p k bytes e s last action = tt

ended_quiet : (m : Signing) (p : Policy) (k : Known) (bytes : List ℕ) (e : Known) (s : Running) (who : Identity) → IsQuiet m p k bytes (without_client e s who)
ended_quiet m p k bytes e s (identities.Guest uid) = tt
ended_quiet m p k bytes e s (identities.Full parent) = tt

-- ---- where something is

-- the action and the stage of r, where its results are judged
at_target_shown : (m : Signing) (p : Policy) (k : Known) (bytes : List ℕ) (r : Running) (rs : List Told) (action : Action) (fine : Unit {0})
    → heard_by m p k bytes ≡ heards.Said (record { status = 0; results = rs })
    → judged p (ended k) action Asking rs ≡ Ok fine
    → IsQuiet m p k bytes (at_target (ended k) (kept_at p r rs action) (last_in rs) action)
at_target_shown m p k bytes r rs (actions.List path) fine h ok =
    let judged = judged_of m p k bytes rs h (reads_well p k.level.0 (label_in rs) fine ok) in
    elim (is_end (last_in rs)) as (λ b. IsQuiet m p k bytes (if b then answered (ended k) (answers.Entries (kept_at p r rs (actions.List path)).shown) else goes_to (ended k) (kept_at p r rs (actions.List path)) Asking)) [
      | true ↦ (rs, judged, (r.shown, refl))
      | false ↦ tt
    ]
at_target_shown m p k bytes r rs (actions.Read path offset count) fine h ok = (rs, judged_of m p k bytes rs h (reads_well p k.level.0 (label_in rs) fine ok), refl)
at_target_shown m p k bytes r rs action fine h ok = tt

moved_shown : (m : Signing) (p : Policy) (k : Known) (bytes : List ℕ) (r : Running) (rs : List Told) (stage : Stage) (fine : Unit {0})
    → heard_by m p k bytes ≡ heards.Said (record { status = 0; results = rs })
    → judged p (ended k) r.action stage rs ≡ Ok fine
    → IsQuiet m p k bytes (moved (ended k) (kept_in p r rs stage) (last_in rs) stage)
unfolding moved kept_in
moved_shown m p k bytes r rs Asserting fine h ok = tt
moved_shown m p k bytes r rs Exchanging fine h ok = tt
moved_shown m p k bytes r rs Creating fine h ok = tt
moved_shown m p k bytes r rs Reclaiming fine h ok = tt
moved_shown m p k bytes r rs Asking fine h ok =
    let at = at_target_shown m p k bytes r rs r.action fine h ok in
    subst (λ (a : Action). IsQuiet m p k bytes (at_target (ended k) (kept_at p r rs r.action) (last_in rs) a)) (sym (kept_action p r rs r.action)) at
moved_shown m p k bytes r rs Changing fine h ok = changed_quiet m p k bytes (ended k) r (last_in rs) r.action
moved_shown m p k bytes r rs Closing fine h ok = tt
moved_shown m p k bytes r rs EndingSession fine h ok = tt
moved_shown m p k bytes r rs EndingClient fine h ok = ended_quiet m p k bytes (ended k) r k.identity
moved_shown m p k bytes r rs EndingContext fine h ok = tt

verdict_shown : (m : Signing) (p : Policy) (k : Known) (bytes : List ℕ) (r : Running) (rs : List Told) (verdict : Result (Unit {0}) Refusal)
    → heard_by m p k bytes ≡ heards.Said (record { status = 0; results = rs })
    → judged p (ended k) r.action r.stage rs ≡ verdict
    → IsQuiet m p k bytes (succeeded_by p (ended k) r rs verdict)
verdict_shown m p k bytes r rs (Err cause) h e = tt
verdict_shown m p k bytes r rs (Ok fine) h e = moved_shown m p k bytes r rs r.stage fine h e

said_shown : (m : Signing) (p : Policy) (k : Known) (bytes : List ℕ) (r : Running) (s : Said) (b : Bool)
    → heard_by m p k bytes ≡ heards.Said s → (s.status == 0) ≡ b
    → IsQuiet m p k bytes (if b then succeeded p (ended k) r s.results else refuses (ended k) (refusals.ServerSaid s.status))
said_shown m p k bytes r s true h e =
    let with_status : ℕ → Said = λ n. record { status = n; results = s.results } in
    let ok : s ≡ with_status 0 = ap with_status (eqb-true _ _ e) in
    verdict_shown m p k bytes r s.results (judged p (ended k) r.action r.stage s.results) (h ∙ ap (λ (x : Said). heards.Said x) ok) refl
said_shown m p k bytes r s false h e = tt

next_shown : (m : Signing) (p : Policy) (k : Known) (bytes : List ℕ) (r : Running) (h : Heard) → heard_by m p k bytes ≡ h → IsQuiet m p k bytes (next p (ended k) r h)
unfolding next
next_shown m p k bytes r heards.Other e = tt
next_shown m p k bytes r (heards.Denied auth) e = tt
next_shown m p k bytes r (heards.Bad at) e = tt
next_shown m p k bytes r (heards.Said s) e = said_shown m p k bytes r s (s.status == 0) e refl
next_shown m p k bytes r (heards.Granted handle) e = tt
next_shown m p k bytes r heards.Ended e = tt

turn_shown : (m : Signing) (p : Policy) (k : Known) (bytes : List ℕ) (o : Option Running) → IsQuiet m p k bytes (turn_by p k (heard_by m p k bytes) o)
turn_shown m p k bytes None = tt
turn_shown m p k bytes (Some r) = next_shown m p k bytes r (heard_by m p k bytes) refl

pub shown_of : (m : Signing) (p : Policy) (k : Known) (bytes : List ℕ) → IfShown (turn m p k bytes).told (IsShownOf m p k bytes)
unfolding turn
shown_of m p k bytes = turn_shown m p k bytes k.running

-- for what take_reply answers
pub told_shown : (m : Signing) (p : Policy) (k : Known) (bytes : List ℕ) (told : Result Progress Refusal) → told ≡ (turn m p k bytes).told → IfShown told (IsShownOf m p k bytes)
told_shown m p k bytes told e =
    let P : Result Progress Refusal → Type 0 = λ x. IfShown x (IsShownOf m p k bytes) in
    subst P (sym e) (shown_of m p k bytes)
