-- Each request in a session has a higher number than all before it.
use Rattle.std.proofs.Common.{◌≡◌, ℕ, ◌+◌, ◌^◌, ◌<◌, ◌≤◌, Bool, true, false, ◌&&◌, ◌==◌, List, [], ◌∷◌, ◌++◌, All, Option, Some, None, Result, Ok, Err, refl, sym, ◌∙◌, subst, arith}
use Rattle.std.specs.Prelude.{if◌then◌else◌, IfSome, nat_lt, is_none}
use Rattle.std.specs.List.{AllPairs}
use Rattle.std.proofs.lemmas.Bool.{ltb-true}
use Rattle.std.proofs.lemmas.List.Elements.{All-nil, All-cons, All-weaker}
use Rattle.std.proofs.lemmas.List.Kept.{AllPairs-cons}
use Rattle.lnfs_policy.specs.Policy.{Policy}
use Rattle.lnfs_gss3.specs.Mechanism.{Signing}
use Rattle.lnfs_arguments.specs.declared.types.Sequence.{Sequence}
use Rattle.lnfs_results.specs.declared.types.OpResult.TheVariants as results
use Rattle.lnfs_answers.specs.declared.types.Told.{Told}
use Rattle.lnfs_answers.specs.declared.types.Told.TheVariants as told
use Rattle.lnfs_answers.specs.declared.types.Said.{Said}
use Rattle.lnfs_answers.specs.declared.request.Heard.{Heard}
use Rattle.lnfs_answers.specs.declared.request.Heard.TheVariants as heards
use Rattle.lnfs_script.specs.declared.identity.Identity.{Identity}
use Rattle.lnfs_script.specs.declared.identity.Identity.TheVariants as identities
use Rattle.lnfs_script.specs.declared.action.Action.{Action}
use Rattle.lnfs_script.specs.declared.action.Action.TheVariants as actions
use Rattle.lnfs_asking.specs.declared.sent.Sent.{Sent}
use Rattle.lnfs_asking.specs.Sending.{sent_of}
use Rattle.lnfs_client.specs.declared.stage.Stage.{Stage}
use Rattle.lnfs_client.specs.declared.stage.Stage.TheVariants.{Asserting, Exchanging, Creating, Reclaiming, Asking, Changing, Closing, EndingSession, EndingClient, EndingContext}
use Rattle.lnfs_client.specs.declared.known.Known.{Known}
use Rattle.lnfs_client.specs.declared.known.Running.{Running}
use Rattle.lnfs_client.specs.declared.answer.Answer.TheVariants as answers
use Rattle.lnfs_client.specs.declared.answer.Refusal.{Refusal}
use Rattle.lnfs_client.specs.declared.answer.Refusal.TheVariants as refusals
use Rattle.lnfs_client.specs.Told.{last_in, is_end}
use Rattle.lnfs_client.specs.Requests.{ops_of, plan_in, plan}
use Rattle.lnfs_client.specs.Machine.{started, begun, number_after, spent, speaker_of, awaited_in, awaited, request_by, request_for, request_in, posted, asked_with, asked, refuses, answered, goes_to, ended, exchanged, created, at_target, changed, without_client, moved, kept_in, judged, succeeded_by, succeeded, said, next, heard_in, heard_by, turn_by, turn}
use Rattle.lnfs_client.specs.Runs.{Deed, begins, asks, takes, may_begin, most_requests, after}
use Rattle.lnfs_client.specs.Slot.{sequence_of, used_by, tells_session, makes_at, makes_session_in, makes_session, used_after, used, Follows}

-- of the slot of this session, and below this number
pub record IsBelow (session : List ℕ) (sequence : ℕ) (s : Sequence) : Type 0 where
  pub session_is : s.session ≡ session
  pub slot : s.slot ≡ 0
  pub number : s.sequence < sequence

abbrev HasSent : Option Sent → ℕ → Type 0
HasSent o sent = IfSome o (λ (s : Sent). 1 ≤ sent)

-- What was used is below the next number, and this isn't above the number of the requests made. So no number is used up.
pub record Counts (k : Known) (earlier : List Sequence) : Type 0 where
  pub sent : HasSent (awaited k) k.sent
  pub few : k.sequence ≤ k.sent
  pub below : All (IsBelow k.session k.sequence) earlier
  pub pairs : AllPairs Follows earlier

none_paired : AllPairs Follows []
none_paired = λ i j d lt most. absurd (omega arith)

nothing_used : (k : Known) → HasSent (awaited k) k.sent → k.sequence ≤ k.sent → Counts k []
nothing_used k sent few = record { sent = sent; few = few; below = All-nil (IsBelow k.session k.sequence); pairs = none_paired }

-- ---- requests

-- the next SEQUENCE
abbrev next_of : Known → Sequence
next_of k = record { session = k.session; sequence = k.sequence; slot = 0; highest = 0; cachethis = true }

number_grows : (n : ℕ) → n + 1 < 2 ^ 32 → number_after n ≡ n + 1
number_grows n lt = omega arith

used_one : (k n : Known) (earlier : List Sequence) → HasSent (awaited n) n.sent → n.session ≡ k.session → n.sequence ≡ number_after k.sequence → n.sent ≡ k.sent + 1 → k.sent < most_requests → Counts k earlier → Counts n (next_of k ∷ earlier)
used_one k n earlier sent session sequence more room counts =
    let grows : n.sequence ≡ k.sequence + 1 = sequence ∙ number_grows k.sequence (omega (arith, counts.few)) in
    let now : IsBelow n.session n.sequence (next_of k) = record { session_is = sym session; slot = refl; number = omega arith } in
    let was : (s : Sequence) → IsBelow k.session k.sequence s → IsBelow n.session n.sequence s = λ s b. record { session_is = b.session_is ∙ sym session; slot = b.slot; number = omega (arith, b.number) } in
    let above : (s : Sequence) → IsBelow k.session k.sequence s → Follows (next_of k) s = λ s b. record { session = sym b.session_is; slot = sym b.slot; number = b.number } in
    record {
      sent = sent;
      few = omega (arith, counts.few);
      below = All-cons (IsBelow n.session n.sequence) (next_of k) earlier now (All-weaker (IsBelow k.session k.sequence) (IsBelow n.session n.sequence) was earlier counts.below);
      pairs = AllPairs-cons Follows (next_of k) earlier (All-weaker (IsBelow k.session k.sequence) (Follows (next_of k)) above earlier counts.below) counts.pairs;
    }

used_none : (k n : Known) (earlier : List Sequence) → HasSent (awaited n) n.sent → n.session ≡ k.session → n.sequence ≡ k.sequence → n.sent ≡ k.sent + 1 → Counts k earlier → Counts n earlier
used_none k n earlier sent session sequence more counts =
    let was : (s : Sequence) → IsBelow k.session k.sequence s → IsBelow n.session n.sequence s = λ s b. record { session_is = b.session_is ∙ sym session; slot = b.slot; number = omega (arith, b.number) } in
    record {
      sent = sent;
      few = omega (arith, counts.few);
      below = All-weaker (IsBelow k.session k.sequence) (IsBelow n.session n.sequence) was earlier counts.below;
      pairs = counts.pairs;
    }

one_sent : (n : ℕ) → 1 ≤ n + 1
one_sent n = omega arith

-- the client when it has made a request in a stage
abbrev sent_at : Known → Sent → Running → Stage → Known
sent_at k sent r stage = record (spent stage k) { sent = k.sent + 1; running = Some (record r { awaited = Some sent }) }

stage_counts : (p : Policy) (k : Known) (sent : Sent) (r : Running) (earlier : List Sequence) (stage : Stage) → k.sent < most_requests → Counts k earlier → Counts (sent_at k sent r stage) (sequence_of (plan_in p k r stage) ++ earlier)
unfolding ops_of
stage_counts p k sent r earlier Asserting room counts = used_none k (sent_at k sent r Asserting) earlier (one_sent k.sent) refl refl refl counts
stage_counts p k sent r earlier Exchanging room counts = used_none k (sent_at k sent r Exchanging) earlier (one_sent k.sent) refl refl refl counts
stage_counts p k sent r earlier Creating room counts = used_none k (sent_at k sent r Creating) earlier (one_sent k.sent) refl refl refl counts
stage_counts p k sent r earlier Reclaiming room counts = used_one k (sent_at k sent r Reclaiming) earlier (one_sent k.sent) refl refl refl room counts
stage_counts p k sent r earlier Asking room counts = used_one k (sent_at k sent r Asking) earlier (one_sent k.sent) refl refl refl room counts
stage_counts p k sent r earlier Changing room counts = used_one k (sent_at k sent r Changing) earlier (one_sent k.sent) refl refl refl room counts
stage_counts p k sent r earlier Closing room counts = used_one k (sent_at k sent r Closing) earlier (one_sent k.sent) refl refl refl room counts
stage_counts p k sent r earlier EndingSession room counts = used_none k (sent_at k sent r EndingSession) earlier (one_sent k.sent) refl refl refl counts
stage_counts p k sent r earlier EndingClient room counts = used_none k (sent_at k sent r EndingClient) earlier (one_sent k.sent) refl refl refl counts
stage_counts p k sent r earlier EndingContext room counts = used_none k (sent_at k sent r EndingContext) earlier (one_sent k.sent) refl refl refl counts

by_counts : (m : Signing) (p : Policy) (k : Known) (r : Running) (o : Option Sent) (earlier : List Sequence) → k.running ≡ Some r → k.sent < most_requests → Counts k earlier → Counts (asked_with k (request_by m p k r o)) (if is_none o then sequence_of (plan p k r) ++ earlier else earlier)
by_counts m p k r (Some sent) earlier e room counts = counts
by_counts m p k r None earlier e room counts =
    let sent : Sent = sent_of m (speaker_of p k) (k.sent + 1) (plan p k r) in
    subst (λ (o : Option Running). Counts (posted k sent o) (sequence_of (plan p k r) ++ earlier)) (sym e) (stage_counts p k sent r earlier r.stage room counts)

for_counts : (m : Signing) (p : Policy) (k : Known) (o : Option Running) (earlier : List Sequence) → k.running ≡ o → k.sent < most_requests → Counts k earlier → Counts (asked_with k (request_for m p k o)) (used_by p k o earlier)
for_counts m p k None earlier e room counts = counts
for_counts m p k (Some r) earlier e room counts = by_counts m p k r r.awaited earlier e room counts

asked_counts : (m : Signing) (p : Policy) (k : Known) (earlier : List Sequence) → k.sent < most_requests → Counts k earlier → Counts (asked m p k) (used_by p k k.running earlier)
unfolding asked request_in
asked_counts m p k earlier room counts = for_counts m p k k.running earlier refl room counts

-- ---- a record that comes

-- No more requests were made than so many, and one that is unanswered was among them.
abbrev Goes : (sent : ℕ) → Known → Type 0
Goes sent n = (n.sent ≡ sent) × HasSent (awaited n) sent

abbrev SlotIs : Bool → (sent : ℕ) → (session : List ℕ) → (sequence : ℕ) → Known → Type 0
SlotIs true sent session sequence n = Goes sent n × (n.sequence ≡ 1)
SlotIs false sent session sequence n = Goes sent n × (n.session ≡ session) × (n.sequence ≡ sequence)

-- What a record leads to: a new session has a slot of its own, whose numbers begin with 1; or the slot stays as it is.
abbrev SlotBy : Bool → Known → Known → Type 0
SlotBy b k n = SlotIs b k.sent k.session k.sequence n

created_slot : (k : Known) (r : Running) (last : Option Told) → SlotBy (tells_session last) k (goes_to (created k last) r Reclaiming).client
unfolding created
created_slot k r (Some (told.Other (results.CreateSession session sequence flags fore back))) = ((refl, tt), refl)
created_slot k r last = ((refl, tt), refl, refl)

exchanged_slot : (k : Known) (r : Running) (last : Option Told) → SlotBy false k (goes_to (exchanged k last) r Creating).client
unfolding exchanged
exchanged_slot k r (Some (told.Other (results.ExchangeId client sequence flags minor major scope))) = ((refl, tt), refl, refl)
exchanged_slot k r last = ((refl, tt), refl, refl)

target_slot : (k : Known) (r : Running) (last : Option Told) (action : Action) → SlotBy false k (at_target k r last action).client
target_slot k r last (actions.List path) =
    elim (is_end last) as (λ b. SlotBy false k (if b then answered k (answers.Entries r.shown) else goes_to k r Asking).client) [
      | true ↦ ((refl, tt), refl, refl)
      | false ↦ ((refl, tt), refl, refl)
    ]
target_slot k r last (actions.Read path offset count) = ((refl, tt), refl, refl)
target_slot k r last action = ((refl, tt), refl, refl)

changed_slot : (k : Known) (r : Running) (last : Option Told) (action : Action) → SlotBy false k (changed k r last action).client
changed_slot k r last (actions.Write path offset content) = ((refl, tt), refl, refl)
changed_slot k r last (actions.Mkdir path level) = ((refl, tt), refl, refl)
changed_slot k r last (actions.Remove path) = ((refl, tt), refl, refl)
changed_slot k r last (actions.Raise path level) = ((refl, tt), refl, refl)
changed_slot k r last action = ((refl, tt), refl, refl)

ended_slot : (k : Known) (r : Running) (who : Identity) → SlotBy false k (without_client k r who).client
ended_slot k r (identities.Guest uid) = ((refl, tt), refl, refl)
ended_slot k r (identities.Full parent) = ((refl, tt), refl, refl)

moved_slot : (k : Known) (r : Running) (last : Option Told) (stage : Stage) → SlotBy (makes_at stage last) k (moved k r last stage).client
unfolding moved
moved_slot k r last Asserting = ((refl, tt), refl, refl)
moved_slot k r last Exchanging = exchanged_slot k r last
moved_slot k r last Creating = created_slot k r last
moved_slot k r last Reclaiming = ((refl, tt), refl, refl)
moved_slot k r last Asking = target_slot k r last r.action
moved_slot k r last Changing = changed_slot k r last r.action
moved_slot k r last Closing = ((refl, tt), refl, refl)
moved_slot k r last EndingSession = ((refl, tt), refl, refl)
moved_slot k r last EndingClient = ended_slot k r k.identity
moved_slot k r last EndingContext = ((refl, tt), refl, refl)

-- where the label is refused, no session was asked for
refused_slot : (p : Policy) (k : Known) (action : Action) (rs : List Told) (cause : Refusal) (last : Option Told) (stage : Stage) → judged p k action stage rs ≡ Err cause → makes_at stage last ≡ false
refused_slot p k action rs cause last Creating e = absurd cc
refused_slot p k action rs cause last stage e = refl

verdict_slot : (p : Policy) (k : Known) (r : Running) (rs : List Told) (verdict : Result (Unit {0}) Refusal) → judged p k r.action r.stage rs ≡ verdict → SlotBy (makes_at r.stage (last_in rs)) k (succeeded_by p k r rs verdict).client
verdict_slot p k r rs (Err cause) e =
    subst (λ (b : Bool). SlotBy b k (refuses k cause).client) (sym (refused_slot p k r.action rs cause (last_in rs) r.stage e)) ((refl, tt), refl, refl)
verdict_slot p k r rs (Ok fine) e = moved_slot k (kept_in p r rs r.stage) (last_in rs) r.stage

said_slot : (p : Policy) (k : Known) (r : Running) (s : Said) → SlotBy (makes_session_in r.stage (heards.Said s)) k (said p k r s).client
said_slot p k r s =
    elim (s.status == 0) as (λ b. SlotBy (b && makes_at r.stage (last_in s.results)) k (if b then succeeded p k r s.results else refuses k (refusals.ServerSaid s.status)).client) [
      | true ↦ verdict_slot p k r s.results (judged p k r.action r.stage s.results) refl
      | false ↦ ((refl, tt), refl, refl)
    ]

next_slot : (p : Policy) (k : Known) (r : Running) (h : Heard) → HasSent r.awaited k.sent → SlotBy (makes_session_in r.stage h) k (next p k r h).client
unfolding next
next_slot p k r heards.Other had = ((refl, had), refl, refl)
next_slot p k r (heards.Denied auth) had = ((refl, tt), refl, refl)
next_slot p k r (heards.Bad at) had = ((refl, tt), refl, refl)
next_slot p k r (heards.Said s) had = said_slot p k r s
next_slot p k r (heards.Granted handle) had = ((refl, tt), refl, refl)
next_slot p k r heards.Ended had = ((refl, tt), refl, refl)

slot_by : (p : Policy) (k : Known) (h : Heard) (o : Option Running) → k.running ≡ o → HasSent (awaited k) k.sent → SlotBy (makes_session o h) k (turn_by p k h o).client
slot_by p k h None e had = ((refl, had), refl, refl)
slot_by p k h (Some r) e had = next_slot p (ended k) r h (subst (λ (o : Option Running). HasSent (awaited_in o) k.sent) e had)

-- what makes a session is an answer to a request
heard_sent : (m : Signing) (p : Policy) (k : Known) (bytes : List ℕ) (o : Option Sent) (r : Running) → HasSent o k.sent → makes_session_in r.stage (heard_in m p k bytes o) ≡ true → 1 ≤ k.sent
heard_sent m p k bytes None r had made = absurd cc
heard_sent m p k bytes (Some sent) r had made = had

made_sent : (m : Signing) (p : Policy) (k : Known) (bytes : List ℕ) (o : Option Running) → HasSent (awaited k) k.sent → makes_session o (heard_by m p k bytes) ≡ true → 1 ≤ k.sent
unfolding heard_by
made_sent m p k bytes None had made = absurd cc
made_sent m p k bytes (Some r) had made = heard_sent m p k bytes (awaited k) r had made

kept_counts : (k n : Known) (earlier : List Sequence) → Goes k.sent n → n.session ≡ k.session → n.sequence ≡ k.sequence → Counts k earlier → Counts n earlier
kept_counts k n earlier goes session sequence counts =
    let was : (s : Sequence) → IsBelow k.session k.sequence s → IsBelow n.session n.sequence s = λ s b. record { session_is = b.session_is ∙ sym session; slot = b.slot; number = omega (arith, b.number) } in
    record {
      sent = subst (HasSent (awaited n)) (sym goes.0) goes.1;
      few = omega (arith, counts.few, goes.0, sequence);
      below = All-weaker (IsBelow k.session k.sequence) (IsBelow n.session n.sequence) was earlier counts.below;
      pairs = counts.pairs;
    }

slot_counts : (k n : Known) (earlier : List Sequence) (b : Bool) → (b ≡ true → 1 ≤ k.sent) → SlotBy b k n → Counts k earlier → Counts n (if b then [] else earlier)
slot_counts k n earlier true sent slot counts =
    nothing_used n (subst (HasSent (awaited n)) (sym slot.0.0) slot.0.1) (omega (arith, sent refl, slot.1, slot.0.0))
slot_counts k n earlier false sent slot counts = kept_counts k n earlier slot.0 slot.1 slot.2 counts

turn_counts : (m : Signing) (p : Policy) (k : Known) (bytes : List ℕ) (earlier : List Sequence) → Counts k earlier → Counts (turn m p k bytes).client (if makes_session k.running (heard_by m p k bytes) then [] else earlier)
unfolding turn
turn_counts m p k bytes earlier counts =
    slot_counts k (turn_by p k (heard_by m p k bytes) k.running).client earlier (makes_session k.running (heard_by m p k bytes))
    (λ made. made_sent m p k bytes k.running counts.sent made)
    (slot_by p k (heard_by m p k bytes) k.running refl counts.sent) counts

-- ---- a run

after_counts : (m : Signing) (p : Policy) (k : Known) (deed : Deed) (earlier : List Sequence) → Counts k earlier → Counts (after m p k deed) (used_after m p k deed earlier)
after_counts m p k (begins action) earlier counts =
    elim (may_begin k action) as (λ b. Counts (if b then begun action k else k) earlier) [
      | true ↦ kept_counts k (begun action k) earlier ((refl, tt)) refl refl counts
      | false ↦ counts
    ]
after_counts m p k asks earlier counts = by (nat_lt k.sent most_requests) refl
  where
    by : (b : Bool) → nat_lt k.sent most_requests ≡ b → Counts (if b then asked m p k else k) (if b then used_by p k k.running earlier else earlier)
    by true e = asked_counts m p k earlier (ltb-true _ _ e) counts
    by false e = counts
after_counts m p k (takes bytes) earlier counts = turn_counts m p k bytes earlier counts

run_counts : (m : Signing) (p : Policy) (k : Known) (deeds : List Deed) (earlier : List Sequence) → Counts k earlier → AllPairs Follows (used m p k deeds earlier)
unfolding used
run_counts m p k [] earlier counts = counts.pairs
run_counts m p k (deed ∷ deeds) earlier counts = run_counts m p (after m p k deed) deeds (used_after m p k deed earlier) (after_counts m p k deed earlier counts)

pub run_follows : (m : Signing) (p : Policy) (level : ℕ) (who : Identity) (owner : List ℕ) (deeds : List Deed) → AllPairs Follows (used m p (started level who owner) deeds [])
run_follows m p level who owner deeds =
    run_counts m p (started level who owner) deeds [] (nothing_used (started level who owner) tt (omega arith))
