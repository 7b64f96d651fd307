-- What stays of the client and of its action from one turn to the next.
use Rattle.std.proofs.Common.{◌≡◌, ℕ, Bool, true, false, ◌==◌, not, List, length, Option, Some, None, Result, Ok, Err, refl, ap}
use Rattle.std.specs.Prelude.{nat_le, IfSome, if◌then◌else◌}
use Rattle.std.proofs.lemmas.Bool.{leb-true}
use Rattle.lnfs_types.specs.declared.limits.TheConstants.{LABEL_LIMIT}
use Rattle.lnfs_calipso.specs.declared.Level.{Level}
use Rattle.lnfs_format.specs.declared.formats.ReadError.{ReadError}
use Rattle.lnfs_format.specs.LevelRead.{level_read}
use Rattle.lnfs_policy.specs.Policy.{Policy, dominance}
use Rattle.lnfs_attrs.specs.declared.view.LabelValue.{LabelValue}
use Rattle.lnfs_results.specs.declared.types.OpResult.TheVariants as results
use Rattle.lnfs_answers.specs.declared.types.Told.{Told}
use Rattle.lnfs_answers.specs.declared.types.Told.TheVariants as told
use Rattle.lnfs_answers.specs.declared.types.Said.{Said}
use Rattle.lnfs_answers.specs.declared.request.Heard.{Heard}
use Rattle.lnfs_answers.specs.declared.request.Heard.TheVariants as heards
use Rattle.lnfs_script.specs.declared.identity.Identity.{Identity}
use Rattle.lnfs_script.specs.declared.identity.Identity.TheVariants as identities
use Rattle.lnfs_script.specs.declared.action.Action.{Action}
use Rattle.lnfs_script.specs.declared.action.Action.TheVariants as actions
use Rattle.lnfs_asking.specs.declared.sent.Sent.{Sent}
use Rattle.lnfs_asking.specs.Labels.{IsShort, known_level, level_of}
use Rattle.lnfs_client.specs.declared.stage.Stage.{Stage}
use Rattle.lnfs_client.specs.declared.stage.Stage.TheVariants.{Asserting, Exchanging, Creating, Reclaiming, Asking, Changing, Closing, EndingSession, EndingClient, EndingContext}
use Rattle.lnfs_client.specs.declared.known.Known.{Known}
use Rattle.lnfs_client.specs.declared.known.Running.{Running}
use Rattle.lnfs_client.specs.declared.answer.Answer.TheVariants as answers
use Rattle.lnfs_client.specs.declared.answer.Refusal.{Refusal}
use Rattle.lnfs_client.specs.declared.answer.Refusal.TheVariants as refusals
use Rattle.lnfs_client.specs.Enforcing.{enforced}
use Rattle.lnfs_client.specs.Stages.{is_reading}
use Rattle.lnfs_client.specs.Told.{label_in, last_in, is_end}
use Rattle.lnfs_client.specs.Machine.{refuses, answered, goes_to, exchanged, created, opened_by, kept_at, kept_in, at_target, changed, without_client, moved, level_told, judged, succeeded_by, succeeded, said, next, spent, posted}

abbrev pub HasShort : Running → Type 0
HasShort r = IfSome r.label IsShort

-- the action is the same, and a label that is kept isn't too long
abbrev pub SameAction : Running → Running → Type 0
SameAction r s = (s.action ≡ r.action) × HasShort s

abbrev pub SameClient : Known → Known → Type 0
SameClient k n = (n.level ≡ k.level) × (n.identity ≡ k.identity) × (n.owner ≡ k.owner)

pub record Keeps (k : Known) (r : Running) (n : Known) : Type 0 where
  pub client : SameClient k n
  pub running : IfSome n.running (SameAction r)

-- ---- the label that is kept

-- what a label tells that is of a level
pub known_told : (r : Result ℕ ReadError) (l : Level) → known_level r ≡ Some l → r ≡ Ok l.0
known_told (Ok n) l h =
    let m : Level = record { 0 = n } in
    let e : m ≡ l = cc in
    let told : Level → Result ℕ ReadError = λ x. Ok x.0 in
    ap told e
known_told (Err e) l h = absurd cc

short_if : (v : LabelValue) (level : Option Level) (l : Level) (b : Bool) → nat_le (length v.bytes) LABEL_LIMIT ≡ b → (if b then level else None) ≡ Some l → IsShort v × (level ≡ Some l)
short_if v level l true e h = (leb-true _ _ e, h)
short_if v level l false e h = absurd cc

pub level_parts : (p : Policy) (v : LabelValue) (l : Level) → level_of p v ≡ Some l → IsShort v × (level_read p.formats p.labels v.lfs v.pi v.bytes ≡ Ok l.0)
unfolding level_of
level_parts p v l h =
    let parts = short_if v (known_level (level_read p.formats p.labels v.lfs v.pi v.bytes)) l (nat_le (length v.bytes) LABEL_LIMIT) refl h in
    (parts.0, known_told (level_read p.formats p.labels v.lfs v.pi v.bytes) l parts.1)

-- what is judged well has a level
pub level_judged : (dom : ℕ → ℕ → Bool) (subject : ℕ) (level : Option Level) (write : Bool) (fine : Unit {0}) → enforced dom subject level write ≡ Ok fine → (l : Level) × (level ≡ Some l)
level_judged dom subject None write fine h = absurd cc
level_judged dom subject (Some l) write fine h = (l, refl)

label_short : (p : Policy) (label : Option LabelValue) (l : Level) → level_told p label ≡ Some l → IfSome label IsShort
label_short p None l h = tt
label_short p (Some v) l h = (level_parts p v l h).0

-- ---- what is kept of an answer

kept_at_same : (p : Policy) (r : Running) (rs : List Told) (action : Action) → HasShort r → IfSome (label_in rs) IsShort → SameAction r (kept_at p r rs action)
kept_at_same p r rs (actions.List path) old new = (refl, old)
kept_at_same p r rs (actions.Read path offset count) old new = (refl, old)
kept_at_same p r rs action old new = (refl, new)

kept_same : (p : Policy) (k : Known) (r : Running) (rs : List Told) (stage : Stage) (fine : Unit {0}) → HasShort r → judged p k r.action stage rs ≡ Ok fine → SameAction r (kept_in p r rs stage)
unfolding kept_in
kept_same p k r rs Asking fine short ok =
    let known = level_judged (dominance p) k.level.0 (level_told p (label_in rs)) (not (is_reading r.action)) fine ok in
    kept_at_same p r rs r.action short (label_short p (label_in rs) known.0 known.1)
kept_same p k r rs stage fine short ok = (refl, short)

exchanged_same : (k : Known) (last : Option Told) → SameClient k (exchanged k last)
unfolding exchanged
exchanged_same k (Some (told.Other (results.ExchangeId client sequence flags minor major scope))) = (refl, refl, refl)
exchanged_same k last = (refl, refl, refl)

created_same : (k : Known) (last : Option Told) → SameClient k (created k last)
unfolding created
created_same k (Some (told.Other (results.CreateSession session sequence flags fore back))) = (refl, refl, refl)
created_same k last = (refl, refl, refl)

opened_same : (r s : Running) (last : Option Told) → SameAction r s → SameAction r (opened_by s last)
unfolding opened_by
opened_same r s (Some (told.Other (results.Open id info rflags set delegation))) same = same
opened_same r s last same = same

-- ---- where an action moves

target_keeps : (k : Known) (r s : Running) (last : Option Told) (action : Action) → SameAction r s → Keeps k r (at_target k s last action).client
target_keeps k r s last (actions.List path) same =
    elim (is_end last) as (λ b. Keeps k r (if b then answered k (answers.Entries s.shown) else goes_to k s Asking).client) [
      | true ↦ record { client = (refl, refl, refl); running = tt }
      | false ↦ record { client = (refl, refl, refl); running = same }
    ]
target_keeps k r s last (actions.Read path offset count) same = record { client = (refl, refl, refl); running = tt }
target_keeps k r s last action same = record { client = (refl, refl, refl); running = same }

changed_keeps : (k : Known) (r s : Running) (last : Option Told) (action : Action) → SameAction r s → Keeps k r (changed k s last action).client
changed_keeps k r s last (actions.Write path offset content) same = record { client = (refl, refl, refl); running = tt }
changed_keeps k r s last (actions.Mkdir path level) same = record { client = (refl, refl, refl); running = tt }
changed_keeps k r s last (actions.Remove path) same = record { client = (refl, refl, refl); running = tt }
changed_keeps k r s last (actions.Raise path level) same = record { client = (refl, refl, refl); running = tt }
changed_keeps k r s last action same = record { client = (refl, refl, refl); running = opened_same r s last same }

ended_keeps : (k : Known) (r s : Running) (who : Identity) → SameAction r s → Keeps k r (without_client k s who).client
ended_keeps k r s (identities.Guest uid) same = record { client = (refl, refl, refl); running = tt }
ended_keeps k r s (identities.Full parent) same = record { client = (refl, refl, refl); running = same }

moved_keeps : (k : Known) (r s : Running) (last : Option Told) (stage : Stage) → SameAction r s → Keeps k r (moved k s last stage).client
unfolding moved
moved_keeps k r s last Asserting same = record { client = (refl, refl, refl); running = same }
moved_keeps k r s last Exchanging same = record { client = exchanged_same k last; running = same }
moved_keeps k r s last Creating same = record { client = created_same k last; running = same }
moved_keeps k r s last Reclaiming same = record { client = (refl, refl, refl); running = tt }
moved_keeps k r s last Asking same = target_keeps k r s last s.action same
moved_keeps k r s last Changing same = changed_keeps k r s last s.action same
moved_keeps k r s last Closing same = record { client = (refl, refl, refl); running = tt }
moved_keeps k r s last EndingSession same = record { client = (refl, refl, refl); running = same }
moved_keeps k r s last EndingClient same = ended_keeps k r s k.identity same
moved_keeps k r s last EndingContext same = record { client = (refl, refl, refl); running = tt }

-- ---- what a record leads to

verdict_keeps : (p : Policy) (k : Known) (r : Running) (rs : List Told) (verdict : Result (Unit {0}) Refusal) → HasShort r → judged p k r.action r.stage rs ≡ verdict → Keeps k r (succeeded_by p k r rs verdict).client
verdict_keeps p k r rs (Err cause) short e = record { client = (refl, refl, refl); running = tt }
verdict_keeps p k r rs (Ok fine) short e = moved_keeps k r (kept_in p r rs r.stage) (last_in rs) r.stage (kept_same p k r rs r.stage fine short e)

succeeded_keeps : (p : Policy) (k : Known) (r : Running) (rs : List Told) → HasShort r → Keeps k r (succeeded p k r rs).client
succeeded_keeps p k r rs short = verdict_keeps p k r rs (judged p k r.action r.stage rs) short refl

said_keeps : (p : Policy) (k : Known) (r : Running) (s : Said) → HasShort r → Keeps k r (said p k r s).client
said_keeps p k r s short =
    elim (s.status == 0) as (λ b. Keeps k r (if b then succeeded p k r s.results else refuses k (refusals.ServerSaid s.status)).client) [
      | true ↦ succeeded_keeps p k r s.results short
      | false ↦ record { client = (refl, refl, refl); running = tt }
    ]

pub next_keeps : (p : Policy) (k : Known) (r : Running) (h : Heard) → HasShort r → Keeps k r (next p k r h).client
unfolding next
next_keeps p k r heards.Other short = record { client = (refl, refl, refl); running = (refl, short) }
next_keeps p k r (heards.Denied auth) short = record { client = (refl, refl, refl); running = tt }
next_keeps p k r (heards.Bad at) short = record { client = (refl, refl, refl); running = tt }
next_keeps p k r (heards.Said s) short = said_keeps p k r s short
next_keeps p k r (heards.Granted handle) short = record { client = (refl, refl, refl); running = (refl, short) }
next_keeps p k r heards.Ended short = record { client = (refl, refl, refl); running = tt }

-- ---- requests

spent_same : (stage : Stage) (k : Known) → SameClient k (spent stage k)
spent_same Creating k = (refl, refl, refl)
spent_same Reclaiming k = (refl, refl, refl)
spent_same Asking k = (refl, refl, refl)
spent_same Changing k = (refl, refl, refl)
spent_same Closing k = (refl, refl, refl)
spent_same stage k = (refl, refl, refl)

pub posted_keeps : (k : Known) (sent : Sent) (r : Running) → HasShort r → Keeps k r (posted k sent (Some r))
posted_keeps k sent r short = record { client = spent_same r.stage k; running = (refl, short) }
