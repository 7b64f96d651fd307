-- What a client shows, and what it changes, in the words of the labels.
use Rattle.std.specs.Prelude.{◌≡◌, ℕ, Bool, true, false, List, ◌∷◌, ◌++◌, map, Option, Some, None, Result, Ok}
use Rattle.std.specs.List.{list_any}
use Rattle.lnfs_calipso.specs.declared.Level.{Level}
use Rattle.lnfs_format.specs.LevelRead.{level_read}
use Rattle.lnfs_policy.specs.Policy.{Policy, dominance}
use Rattle.lnfs_gss3.specs.Mechanism.{Signing}
use Rattle.lnfs_attrs.specs.declared.view.LabelValue.{LabelValue}
use Rattle.lnfs_arguments.specs.declared.types.Op.{Op}
use Rattle.lnfs_arguments.specs.declared.types.Op.TheVariants as ops
use Rattle.lnfs_answers.specs.declared.types.Told.{Told}
use Rattle.lnfs_answers.specs.declared.request.Heard.TheVariants as heards
use Rattle.lnfs_asking.specs.Labels.{as_attributes}
use Rattle.lnfs_asking.specs.declared.plan.Plan.TheVariants.{Ask}
use Rattle.lnfs_client.specs.declared.stage.Stage.{Stage}
use Rattle.lnfs_client.specs.declared.stage.Stage.TheVariants.{Changing}
use Rattle.lnfs_client.specs.declared.known.Known.{Known}
use Rattle.lnfs_client.specs.declared.known.Running.{Running}
use Rattle.lnfs_client.specs.declared.answer.Shown.{Shown}
use Rattle.lnfs_client.specs.declared.answer.Answer.{Answer}
use Rattle.lnfs_client.specs.declared.answer.Answer.TheVariants as answers
use Rattle.lnfs_client.specs.declared.answer.Progress.{Progress}
use Rattle.lnfs_client.specs.declared.answer.Progress.TheVariants.{Done}
use Rattle.lnfs_client.specs.declared.answer.Refusal.{Refusal}
use Rattle.lnfs_client.specs.Told.{label_in, last_in, data_of, entries_of, shown_as}
use Rattle.lnfs_client.specs.Requests.{in_session, to_target, change, plan}
use Rattle.lnfs_client.specs.Machine.{heard_by}

-- ---- what is shown

-- A label tells a level, in a format of the policy.
abbrev pub Tells : Policy → LabelValue → Level → Type 0
Tells p v level = level_read p.formats p.labels v.lfs v.pi v.bytes ≡ Ok level.0

-- A record is the answer to the request that is unanswered, a COMPOUND that succeeded, with these results. The label among
-- them tells a level that the client's dominates.
pub record IsJudged (m : Signing) (p : Policy) (k : Known) (bytes : List ℕ) (rs : List Told) : Type 0 where
  pub label : LabelValue
  pub level : Level
  pub is_answer : heard_by m p k bytes ≡ heards.Said (record { status = 0; results = rs })
  pub has_label : label_in rs ≡ Some label
  pub tells : Tells p label level
  pub dominated : dominance p k.level.0 level.0 ≡ true

-- bytes are those that the same results give; entries end with those that the same results give
abbrev pub IsOfResults : Policy → List Told → Answer → Type 0
IsOfResults p rs (answers.Data bytes) = bytes ≡ data_of (last_in rs)
IsOfResults p rs (answers.Entries entries) = (before : List Shown) × (entries ≡ before ++ map (shown_as p) (entries_of (last_in rs)))
IsOfResults p rs answer = Unit {0}

abbrev pub IsShownOf : Signing → Policy → Known → (bytes : List ℕ) → Answer → Type 0
IsShownOf m p k bytes answer = (rs : List Told) × IsJudged m p k bytes rs × IsOfResults p rs answer

-- a claim of an answer that shows what an object holds
abbrev pub IfShown : Result Progress Refusal → (Answer → Type 0) → Type 0
IfShown (Ok (Done (answers.Data bytes))) claim = claim (answers.Data bytes)
IfShown (Ok (Done (answers.Entries entries))) claim = claim (answers.Entries entries)
IfShown told claim = Unit {0}

-- ---- what is changed

-- operations that write, make, remove or raise something; an OPEN may make a file
abbrev pub is_change : Op → Bool
is_change (ops.Create what name attrs) = true
is_change (ops.Link name) = true
is_change (ops.Open seqid access deny client owner making claim) = true
is_change (ops.Remove name) = true
is_change (ops.Rename old new) = true
is_change (ops.SetAttr id attrs) = true
is_change (ops.Write id offset stable content) = true
is_change op = false

-- A label was read that tells this level, and is kept for the comparison.
abbrev pub IsReady : Policy → Level → Running → Type 0
IsReady p level r = (label : LabelValue) × (r.label ≡ Some label) × Tells p label level

abbrev pub IfChanging : Stage → Type 0 → Type 0
IfChanging Changing claim = claim
IfChanging stage claim = Unit {0}

-- an action that is about to change something has read such a label
abbrev pub ReadyIn : Policy → Level → Option Running → Type 0
ReadyIn p level None = Unit {0}
ReadyIn p level (Some r) = IfChanging r.stage (IsReady p level r)

-- The operations verify, in one COMPOUND, a label that tells the client's own level on the node that they change, or change something in.
pub record IsGuarded (p : Policy) (k : Known) (r : Running) (asked : List Op) : Type 0 where
  pub label : LabelValue
  pub tells : Tells p label k.level
  pub shape : asked ≡ in_session k ∷ to_target r.action ++ ops.Verify (as_attributes label) ∷ change p k r.action

-- Whatever the next request asks that is a change is guarded.
abbrev pub ChangesAreGuarded : Policy → Known → Type 0
ChangesAreGuarded p k = (r : Running) (asked : List Op) → k.running ≡ Some r → plan p k r ≡ Ask asked → list_any is_change asked ≡ true → IsGuarded p k r asked
