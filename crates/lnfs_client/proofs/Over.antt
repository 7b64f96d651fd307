-- What holds of a client over time.
use Rattle.std.proofs.Common.{◌≡◌, ℕ, Bool, true, false, ◌==◌, List, [], ◌∷◌, ◌++◌, Option, Some, None, Result, Ok, Err, refl, sym, ap, ◌∙◌, subst, append_assoc}
use Rattle.std.specs.Prelude.{if◌then◌else◌, IfSome, nat_lt}
use Rattle.std.proofs.lemmas.List.{append-nil}
use Rattle.std.proofs.lemmas.Bool.{eqb-true}
use Rattle.lnfs_policy.specs.Policy.{Policy}
use Rattle.lnfs_gss3.specs.Mechanism.{Signing}
use Rattle.lnfs_answers.specs.declared.types.Told.{Told}
use Rattle.lnfs_answers.specs.declared.types.Told.TheVariants as told
use Rattle.lnfs_answers.specs.declared.types.Said.{Said}
use Rattle.lnfs_answers.specs.declared.request.Heard.{Heard}
use Rattle.lnfs_answers.specs.declared.request.Heard.TheVariants as heards
use Rattle.lnfs_results.specs.declared.types.OpResult.TheVariants as results
use Rattle.lnfs_script.specs.declared.identity.Identity.{Identity}
use Rattle.lnfs_script.specs.declared.identity.Identity.TheVariants as identities
use Rattle.lnfs_script.specs.declared.action.Action.{Action}
use Rattle.lnfs_script.specs.declared.action.Action.TheVariants as actions
use Rattle.lnfs_asking.specs.declared.sent.Sent.{Sent}
use Rattle.lnfs_client.specs.declared.stage.Stage.{Stage}
use Rattle.lnfs_client.specs.declared.stage.Stage.TheVariants.{Asserting, Exchanging, Creating, Reclaiming, Asking, Changing, Closing, EndingSession, EndingClient, EndingContext}
use Rattle.lnfs_client.specs.declared.known.Known.{Known}
use Rattle.lnfs_client.specs.declared.known.Running.{Running}
use Rattle.lnfs_client.specs.declared.answer.Answer.TheVariants as answers
use Rattle.lnfs_client.specs.declared.answer.Refusal.{Refusal}
use Rattle.lnfs_client.specs.declared.answer.Refusal.TheVariants as refusals
use Rattle.lnfs_client.specs.Told.{label_in, last_in, is_end}
use Rattle.lnfs_client.specs.Machine.{refuses, answered, goes_to, ended, opened_by, kept_at, kept_in, at_target, changed, without_client, moved, judged, succeeded_by, succeeded, next, heard_by, turn_by, turn, begun, posted, asked_with, request_in, asked}
use Rattle.lnfs_client.specs.Runs.{Deed, begins, asks, takes, may_begin, most_requests, after, run, AreJudged, nothing, further}
use Rattle.lnfs_client.proofs.Ready.{kept_action}
use Rattle.lnfs_client.proofs.Showing.{judged_of, reads_well}

-- ---- runs

pub run-after : (m : Signing) (p : Policy) (k : Known) (deeds : List Deed) (deed : Deed) → run m p k (deeds ++ deed ∷ []) ≡ after m p (run m p k deeds) deed
unfolding run
run-after m p k [] deed = refl
run-after m p k (first ∷ deeds) deed = run-after m p (after m p k first) deeds deed

-- ---- entries that are kept

module _ (m : Signing) (p : Policy) (start : Known) (deeds : List Deed) (bytes : List ℕ) where
  -- the client when the record comes
  abbrev K : Known
  K = run m p start deeds

  abbrev Holds : Option Running → Type 0
  Holds o = IfSome o (λ (r : Running). AreJudged m p start r.shown)

  opened_holds : (s : Running) (last : Option Told) → AreJudged m p start s.shown → AreJudged m p start (opened_by s last).shown
  unfolding opened_by
  opened_holds s (Some (told.Other (results.Open id info rflags set delegation))) all = all
  opened_holds s last all = all

  target_holds : (r : Running) (rs : List Told) (action : Action) (fine : Unit {0}) → heard_by m p K bytes ≡ heards.Said (record { status = 0; results = rs }) → judged p (ended K) action Asking rs ≡ Ok fine → AreJudged m p start r.shown
      → Holds (at_target (ended K) (kept_at p r rs action) (last_in rs) action).client.running
  target_holds r rs (actions.List path) fine h ok all =
      elim (is_end (last_in rs)) as (λ b. Holds (if b then answered (ended K) (answers.Entries (kept_at p r rs (actions.List path)).shown) else goes_to (ended K) (kept_at p r rs (actions.List path)) Asking).client.running) [
        | true ↦ tt
        | false ↦ further r.shown all deeds bytes rs (judged_of m p K bytes rs h (reads_well p K.level.0 (label_in rs) fine ok))
      ]
  target_holds r rs (actions.Read path offset count) fine h ok all = tt
  target_holds r rs action fine h ok all = all

  changed_holds : (s : Running) (last : Option Told) (action : Action) → AreJudged m p start s.shown → Holds (changed (ended K) s last action).client.running
  changed_holds s last (actions.Write path offset content) all = tt
  changed_holds s last (actions.Mkdir path level) all = tt
  changed_holds s last (actions.Remove path) all = tt
  changed_holds s last (actions.Raise path level) all = tt
  changed_holds s last action all = opened_holds s last all

  ended_holds : (s : Running) (who : Identity) → AreJudged m p start s.shown → Holds (without_client (ended K) s who).client.running
  ended_holds s (identities.Guest uid) all = tt
  ended_holds s (identities.Full parent) all = all

  moved_holds : (r : Running) (rs : List Told) (stage : Stage) (fine : Unit {0}) → heard_by m p K bytes ≡ heards.Said (record { status = 0; results = rs }) → judged p (ended K) r.action stage rs ≡ Ok fine → AreJudged m p start r.shown
      → Holds (moved (ended K) (kept_in p r rs stage) (last_in rs) stage).client.running
  unfolding moved kept_in
  moved_holds r rs Asserting fine h ok all = all
  moved_holds r rs Exchanging fine h ok all = all
  moved_holds r rs Creating fine h ok all = all
  moved_holds r rs Reclaiming fine h ok all = tt
  moved_holds r rs Asking fine h ok all =
      subst (λ (a : Action). Holds (at_target (ended K) (kept_at p r rs r.action) (last_in rs) a).client.running) (sym (kept_action p r rs r.action)) (target_holds r rs r.action fine h ok all)
  moved_holds r rs Changing fine h ok all = changed_holds r (last_in rs) r.action all
  moved_holds r rs Closing fine h ok all = tt
  moved_holds r rs EndingSession fine h ok all = all
  moved_holds r rs EndingClient fine h ok all = ended_holds r K.identity all
  moved_holds r rs EndingContext fine h ok all = tt

  verdict_holds : (r : Running) (rs : List Told) (verdict : Result (Unit {0}) Refusal) → heard_by m p K bytes ≡ heards.Said (record { status = 0; results = rs }) → judged p (ended K) r.action r.stage rs ≡ verdict → AreJudged m p start r.shown
      → Holds (succeeded_by p (ended K) r rs verdict).client.running
  verdict_holds r rs (Err cause) h e all = tt
  verdict_holds r rs (Ok fine) h e all = moved_holds r rs r.stage fine h e all

  said_holds : (r : Running) (s : Said) (b : Bool) → heard_by m p K bytes ≡ heards.Said s → (s.status == 0) ≡ b → AreJudged m p start r.shown
      → Holds (if b then succeeded p (ended K) r s.results else refuses (ended K) (refusals.ServerSaid s.status)).client.running
  said_holds r s true h e all =
      let with_status : ℕ → Said = λ n. record { status = n; results = s.results } in
      let ok : s ≡ with_status 0 = ap with_status (eqb-true _ _ e) in
      verdict_holds r s.results (judged p (ended K) r.action r.stage s.results) (h ∙ ap (λ (x : Said). heards.Said x) ok) refl all
  said_holds r s false h e all = tt

  next_holds : (r : Running) (h : Heard) → heard_by m p K bytes ≡ h → AreJudged m p start r.shown → Holds (next p (ended K) r h).client.running
  unfolding next
  next_holds r heards.Other e all = all
  next_holds r (heards.Denied auth) e all = tt
  next_holds r (heards.Bad at) e all = tt
  next_holds r (heards.Said s) e all = said_holds r s (s.status == 0) e refl all
  next_holds r (heards.Granted handle) e all = all
  next_holds r heards.Ended e all = tt

  turn_by_holds : (o : Option Running) → K.running ≡ o → Holds K.running → Holds (turn_by p K (heard_by m p K bytes) o).client.running
  turn_by_holds None e all = all
  turn_by_holds (Some r) e all = next_holds r (heard_by m p K bytes) refl (subst Holds e all)

  turn_holds : Holds K.running → Holds (turn m p K bytes).client.running
  unfolding turn
  turn_holds all = turn_by_holds K.running refl all

posted_holds : (m : Signing) (p : Policy) (start k : Known) (sent : Sent) (o : Option Running) → k.running ≡ o → IfSome k.running (λ (r : Running). AreJudged m p start r.shown) → IfSome (posted k sent o).running (λ (r : Running). AreJudged m p start r.shown)
posted_holds m p start k sent None e all = all
posted_holds m p start k sent (Some r) e all = subst (λ (o : Option Running). IfSome o (λ (r : Running). AreJudged m p start r.shown)) e all

asked_with_holds : (m : Signing) (p : Policy) (start k : Known) (sent : Option Sent) → IfSome k.running (λ (r : Running). AreJudged m p start r.shown) → IfSome (asked_with k sent).running (λ (r : Running). AreJudged m p start r.shown)
asked_with_holds m p start k None all = all
asked_with_holds m p start k (Some sent) all = posted_holds m p start k sent k.running refl all

asked_holds : (m : Signing) (p : Policy) (start k : Known) → IfSome k.running (λ (r : Running). AreJudged m p start r.shown) → IfSome (asked m p k).running (λ (r : Running). AreJudged m p start r.shown)
unfolding asked
asked_holds m p start k all = asked_with_holds m p start k (request_in m p k) all

abbrev Entries : Signing → Policy → Known → Known → Type 0
Entries m p start k = IfSome k.running (λ (r : Running). AreJudged m p start r.shown)

after_holds : (m : Signing) (p : Policy) (start : Known) (deeds : List Deed) (deed : Deed) → Entries m p start (run m p start deeds) → Entries m p start (after m p (run m p start deeds) deed)
after_holds m p start deeds (begins action) all =
    let k = run m p start deeds in
    elim (may_begin k action) as (λ b. Entries m p start (if b then begun action k else k)) [ true ↦ nothing | false ↦ all ]
after_holds m p start deeds asks all =
    let k = run m p start deeds in
    elim (nat_lt k.sent most_requests) as (λ b. Entries m p start (if b then asked m p k else k)) [ true ↦ asked_holds m p start k all | false ↦ all ]
after_holds m p start deeds (takes bytes) all = turn_holds m p start deeds bytes all

-- from the beginning, a deed after the other
run_holds : (m : Signing) (p : Policy) (start : Known) (before deeds : List Deed) → Entries m p start (run m p start before) → Entries m p start (run m p start (before ++ deeds))
run_holds m p start before [] all = subst (λ (ds : List Deed). Entries m p start (run m p start ds)) (sym (append-nil before)) all
run_holds m p start before (deed ∷ deeds) all =
    let one : Entries m p start (run m p start (before ++ deed ∷ [])) = subst (Entries m p start) (sym (run-after m p start before deed)) (after_holds m p start before deed all) in
    subst (λ (ds : List Deed). Entries m p start (run m p start ds)) (append_assoc before (deed ∷ []) deeds) (run_holds m p start (before ++ deed ∷ []) deeds one)

some_is : (o : Option Running) (r : Running) (P : Running → Type 0) → o ≡ Some r → IfSome o P → P r
some_is o r P e all = subst (λ (o : Option Running). IfSome o P) e all

pub entries_judged : (m : Signing) (p : Policy) (start : Known) (deeds : List Deed) (r : Running) → start.running ≡ None → (run m p start deeds).running ≡ Some r → AreJudged m p start r.shown
unfolding run
entries_judged m p start deeds r idle e =
    let first : Entries m p start (run m p start []) = subst (λ (o : Option Running). IfSome o (λ (r : Running). AreJudged m p start r.shown)) (sym idle) tt in
    some_is (run m p start deeds).running r (λ (r : Running). AreJudged m p start r.shown) e (run_holds m p start [] deeds first)
