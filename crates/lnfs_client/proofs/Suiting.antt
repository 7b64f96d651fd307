-- A policy suits a client over time.
use Rattle.std.proofs.Common.{◌≡◌, ℕ, true, false, List, [], ◌∷◌, Option, Some, None}
use Rattle.std.specs.Prelude.{if◌then◌else◌, IfSome, nat_lt}
use Rattle.lnfs_policy.specs.Policy.{Policy}
use Rattle.lnfs_gss3.specs.Mechanism.{Signing}
use Rattle.lnfs_answers.specs.declared.request.Heard.{Heard}
use Rattle.lnfs_script.specs.declared.action.Action.{Action}
use Rattle.lnfs_script.specs.declared.action.Action.TheVariants as actions
use Rattle.lnfs_script.specs.declared.identity.Identity.{Identity}
use Rattle.lnfs_script.specs.declared.identity.Identity.TheVariants as identities
use Rattle.lnfs_script.specs.Fits.{ActionSuits}
use Rattle.lnfs_asking.specs.declared.sent.Sent.{Sent}
use Rattle.lnfs_client.specs.declared.known.Known.{Known}
use Rattle.lnfs_client.specs.declared.known.Running.{Running}
use Rattle.lnfs_client.specs.Stages.{first_stage}
use Rattle.lnfs_client.specs.Machine.{started, beginning, begun, next, heard_by, turn_by, turn, ended, posted, asked_with, request_in, asked}
use Rattle.lnfs_client.specs.Promises.{IsReady, IfChanging, ReadyIn, ChangesAreGuarded}
use Rattle.lnfs_client.specs.Fits.{RunningSuits, Suits}
use Rattle.lnfs_client.specs.Runs.{Deed, begins, asks, takes, may_begin, most_requests, after, run, DeedSuits, DeedsSuit, MayStart}
use Rattle.lnfs_client.proofs.Steps.{HasShort, Keeps, next_keeps, posted_keeps}
use Rattle.lnfs_client.proofs.Ready.{next_ready, posted_ready}
use Rattle.lnfs_client.proofs.Bounds.{kept_suits}
use Rattle.lnfs_client.proofs.Guarding.{changes_guarded}

-- ---- the beginning

pub started_suits : (p : Policy) (level : ℕ) (who : Identity) (owner : List ℕ) → MayStart p level who → Suits p (started level who owner)
started_suits p level who owner may = record { level = may.level_is; identity = may.identity; action = tt; ready = tt }

-- no action begins with a change
first_quiet : (p : Policy) (k : Known) (r : Running) (who : Identity) (action : Action) → IfChanging (first_stage who action) (IsReady p k.level r)
first_quiet p k r (identities.Guest uid) actions.Mount = tt
first_quiet p k r (identities.Full parent) actions.Mount = tt
first_quiet p k r who actions.Leave = tt
first_quiet p k r who action = tt

pub begun_suits : (p : Policy) (k : Known) (action : Action) → Suits p k → ActionSuits p action → Suits p (begun action k)
begun_suits p k action suits own = record { level = suits.level; identity = suits.identity; action = own; ready = first_quiet p k (beginning (first_stage k.identity action) action) k.identity action }

-- ---- a label that is kept isn't too long

abbrev pub Short : Known → Type 0
Short k = IfSome k.running HasShort

kept_short : (k n : Known) (r : Running) → Keeps k r n → Short n
kept_short k n r kept = of n.running kept.running
  where
    of : (o : Option Running) → IfSome o (λ (s : Running). (s.action ≡ r.action) × HasShort s) → IfSome o HasShort
    of None same = tt
    of (Some s) same = same.1

-- ---- what holds of each client of a run

pub record IsSound (p : Policy) (k : Known) : Type 0 where
  pub short : Short k
  pub suits : Suits p k

next_sound : (p : Policy) (k : Known) (r : Running) (h : Heard) → HasShort r → Suits p (ended k) → ActionSuits p r.action → IfChanging r.stage (IsReady p k.level r) → IsSound p (next p (ended k) r h).client
next_sound p k r h short suits own ready =
    let kept = next_keeps p (ended k) r h short in
    record { short = kept_short (ended k) (next p (ended k) r h).client r kept; suits = kept_suits p (ended k) (next p (ended k) r h).client r suits own (next_ready p (ended k) r h ready) kept }

pub ended_suits : (p : Policy) (k : Known) → Suits p k → Suits p (ended k)
ended_suits p k suits = record { level = suits.level; identity = suits.identity; action = tt; ready = tt }

turn_by_sound : (p : Policy) (k : Known) (h : Heard) (o : Option Running) → IsSound p k → IfSome o HasShort → RunningSuits p o → ReadyIn p k.level o → IsSound p (turn_by p k h o).client
turn_by_sound p k h None sound short own ready = sound
turn_by_sound p k h (Some r) sound short own ready = next_sound p k r h short (ended_suits p k sound.suits) own ready

turn_sound : (m : Signing) (p : Policy) (k : Known) (bytes : List ℕ) → IsSound p k → IsSound p (turn m p k bytes).client
unfolding turn
turn_sound m p k bytes sound = turn_by_sound p k (heard_by m p k bytes) k.running sound sound.short sound.suits.action sound.suits.ready

posted_sound : (p : Policy) (k : Known) (sent : Sent) (o : Option Running) → IsSound p k → IfSome o HasShort → RunningSuits p o → ReadyIn p k.level o → IsSound p (posted k sent o)
posted_sound p k sent None sound short own ready = sound
posted_sound p k sent (Some r) sound short own ready =
    let kept = posted_keeps k sent r short in
    record { short = kept_short k (posted k sent (Some r)) r kept; suits = kept_suits p k (posted k sent (Some r)) r sound.suits own (posted_ready p k sent r ready) kept }

asked_with_sound : (p : Policy) (k : Known) (sent : Option Sent) → IsSound p k → IsSound p (asked_with k sent)
asked_with_sound p k None sound = sound
asked_with_sound p k (Some sent) sound = posted_sound p k sent k.running sound sound.short sound.suits.action sound.suits.ready

asked_sound : (m : Signing) (p : Policy) (k : Known) → IsSound p k → IsSound p (asked m p k)
unfolding asked
asked_sound m p k sound = asked_with_sound p k (request_in m p k) sound

after_sound : (m : Signing) (p : Policy) (k : Known) (deed : Deed) → DeedSuits p deed → IsSound p k → IsSound p (after m p k deed)
after_sound m p k (begins action) own sound =
    elim (may_begin k action) as (λ b. IsSound p (if b then begun action k else k)) [
      | true ↦ record { short = tt; suits = begun_suits p k action sound.suits own }
      | false ↦ sound
    ]
after_sound m p k asks own sound =
    elim (nat_lt k.sent most_requests) as (λ b. IsSound p (if b then asked m p k else k)) [ true ↦ asked_sound m p k sound | false ↦ sound ]
after_sound m p k (takes bytes) own sound = turn_sound m p k bytes sound

run_sound : (m : Signing) (p : Policy) (k : Known) (deeds : List Deed) → DeedsSuit p deeds → IsSound p k → IsSound p (run m p k deeds)
unfolding run
run_sound m p k [] own sound = sound
run_sound m p k (deed ∷ deeds) own sound = run_sound m p (after m p k deed) deeds own.1 (after_sound m p k deed own.0 sound)

pub run_guarded : (m : Signing) (p : Policy) (level : ℕ) (who : Identity) (owner : List ℕ) → MayStart p level who → (deeds : List Deed) → DeedsSuit p deeds → ChangesAreGuarded p (run m p (started level who owner) deeds)
run_guarded m p level who owner may deeds own =
    let sound = run_sound m p (started level who owner) deeds own (record { short = tt; suits = started_suits p level who owner may }) in
    changes_guarded p (run m p (started level who owner) deeds) sound.suits.ready
