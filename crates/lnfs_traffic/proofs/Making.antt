-- One more event.
use Rattle.std.proofs.Common.{◌≡◌, ℕ, suc, ◌+◌, ◌<◌, ◌≤◌, ◌/◌, zero, replicate, List, [], ◌∷◌, ◌++◌, length, slice_index_or, slice_set, All, refl, sym, ap, subst, ◌∙◌, arith, add-one, length-set}
use Rattle.std.specs.BTreeMap.{BTreeMap}
use Rattle.std.proofs.lemmas.List.{get_or-replicate, length-replicate}
use Rattle.std.proofs.lemmas.List.Elements.{All-push, All-nil}
use Rattle.lnfs_types.specs.declared.event.Event.{Event}
use Rattle.lnfs_types.specs.Moments.{Fits}
use Rattle.lnfs_policy.specs.Policy.{Policy}
use Rattle.lnfs_traffic.specs.declared.guests.Row.{Row}
use Rattle.lnfs_traffic.specs.declared.turns.Past.{Past}
use Rattle.lnfs_calls.specs.CallTexts.{IsRequest}
use Rattle.lnfs_traffic.specs.Counts.{last_in, next_past, last_after}
use Rattle.lnfs_traffic.specs.Generated.{next_number, number, roll, rows, row_at, place_of, places, given, got, events_of, past_of, event_of, event_at, generated}
use Rattle.lnfs_traffic.proofs.Counting.{AreHad, had, had_more, next_is, one_more, given_more, given_within, events_within, nothing}

number_next : (seed e : ℕ) → number seed (e + 1) ≡ next_number (number seed e)
unfolding number
number_next seed e = rw add-one refl

places_next : (size seed e : ℕ) → places size seed (e + 1) ≡ place_of size (number seed (e + 1)) ∷ places size seed e
unfolding places
places_next size seed e = rw add-one refl

generated_next : (p : Policy) (seed e : ℕ) → generated p seed (e + 1) ≡ generated p seed e ++ event_at p (e + 1) (number seed (e + 1)) (place_of (length (rows p)) (number seed (e + 1))) (places (length (rows p)) seed e) ∷ []
unfolding generated
generated_next p seed e = rw add-one refl

pub places_length : (size seed e : ℕ) → length (places size seed e) ≡ e
unfolding places
places_length size seed zero = refl
places_length size seed (suc e) = ap (λ n. suc n) (places_length size seed e)

-- the levels of the guests
abbrev pub levels_of : Policy → ℕ → ℕ
levels_of p g = (row_at p g).level

-- what stands after so many events
pub record Stands (p : Policy) (seed e x : ℕ) (pasts : List Past) (clients sessions : BTreeMap ℕ ℕ) (events : List Event) : Type 0 where
  pub number_is : x ≡ number seed e
  pub each : length pasts ≡ length (rows p)
  pub past_are : AreHad (levels_of p) pasts (places (length (rows p)) seed e)
  pub clients_are : (level : ℕ) → last_in clients level ≡ given (levels_of p) 0 level (places (length (rows p)) seed e)
  pub sessions_are : (level : ℕ) → last_in sessions level ≡ given (levels_of p) 1 level (places (length (rows p)) seed e)
  pub made : events ≡ generated p seed e
  pub fit : All Fits events
  pub requests : All (λ event. IsRequest event.message) events

-- ---- no number has come to the number of events

pub few_clients : {p : Policy} {seed e x : ℕ} {pasts : List Past} {clients sessions : BTreeMap ℕ ℕ} {events : List Event} → Stands p seed e x pasts clients sessions events → (level : ℕ) → last_in clients level ≤ e
few_clients {p} {seed} {e} s level = omega (arith, s.clients_are level, given_within (levels_of p) 0 level (places (length (rows p)) seed e), places_length (length (rows p)) seed e)

pub few_sessions : {p : Policy} {seed e x : ℕ} {pasts : List Past} {clients sessions : BTreeMap ℕ ℕ} {events : List Event} → Stands p seed e x pasts clients sessions events → (level : ℕ) → last_in sessions level ≤ e
few_sessions {p} {seed} {e} s level = omega (arith, s.sessions_are level, given_within (levels_of p) 1 level (places (length (rows p)) seed e), places_length (length (rows p)) seed e)

pub few_events : {p : Policy} {seed e x : ℕ} {pasts : List Past} {clients sessions : BTreeMap ℕ ℕ} {events : List Event} → Stands p seed e x pasts clients sessions events → (g : ℕ) (was : Past) → g < length pasts → was ≡ slice_index_or pasts g was → was.events ≤ e
few_events {p} {seed} {e} s g was within is =
    omega (arith, ap (λ (w : Past). w.events) (is ∙ s.past_are.each g was within), events_within g (places (length (rows p)) seed e), places_length (length (rows p)) seed e)

-- ---- the beginning, and one more event

pub stands_first : (p : Policy) (seed : ℕ) (clients sessions : BTreeMap ℕ ℕ) → clients.entries ≡ [] → sessions.entries ≡ [] → Stands p seed 0 seed (replicate (length (rows p)) nothing) clients sessions []
unfolding number places generated given got
stands_first p seed clients sessions c s = record {
  number_is = refl;
  each = length-replicate (length (rows p)) nothing;
  past_are = record { each = λ g d short. get_or-replicate (length (rows p)) g nothing d (omega (arith, length-replicate (length (rows p)) nothing)) };
  clients_are = λ level. rw c refl;
  sessions_are = λ level. rw s refl;
  made = refl;
  fit = All-nil Fits;
  requests = All-nil (λ (event : Event). IsRequest event.message);
}

module _ (p : Policy) (seed e x : ℕ) (pasts : List Past) (clients sessions : BTreeMap ℕ ℕ) (events : List Event) (s : Stands p seed e x pasts clients sessions events)
    (y g : ℕ) (r : Row) (was now : Past) (more_clients more_sessions : BTreeMap ℕ ℕ) (event : Event)
    (is_y : y ≡ next_number x) (is_g : g ≡ place_of (length (rows p)) y) (within : g < length pasts) (is_r : r ≡ row_at p g) (is_was : was ≡ slice_index_or pasts g was)
    (is_now : now ≡ next_past was (last_in clients r.level) (last_in sessions r.level))
    (cs : (level : ℕ) → last_in more_clients level ≡ last_after was.events 0 r.level (last_in clients) level)
    (ss : (level : ℕ) → last_in more_sessions level ≡ last_after was.events 1 r.level (last_in sessions) level)
    (is_event : event ≡ event_of r (record { event = e + 1; place = g; pick = roll y / 1024; past = now })) (fits : Fits event) (request : IsRequest event.message) where
  abbrev earlier : List ℕ
  earlier = places (length (rows p)) seed e

  abbrev levels : ℕ → ℕ
  levels = levels_of p

  y_is : y ≡ number seed (e + 1)
  y_is = is_y ∙ ap next_number s.number_is ∙ sym (number_next seed e)

  g_is : g ≡ place_of (length (rows p)) (number seed (e + 1))
  g_is = is_g ∙ ap (place_of (length (rows p))) y_is

  places_are : g ∷ earlier ≡ places (length (rows p)) seed (e + 1)
  places_are = ap (λ k. k ∷ earlier) g_is ∙ sym (places_next (length (rows p)) seed e)

  level_is : r.level ≡ levels g
  level_is = ap (λ (r : Row). r.level) is_r

  was_is : was ≡ had levels g earlier
  was_is = is_was ∙ s.past_are.each g was within

  now_is : now ≡ past_of levels g earlier
  now_is =
      is_now ∙ ap (λ w. next_past w (last_in clients r.level) (last_in sessions r.level)) was_is
      ∙ ap (λ c. next_past (had levels g earlier) c (last_in sessions r.level)) (s.clients_are r.level ∙ ap (λ k. given levels 0 k earlier) level_is)
      ∙ ap (λ c. next_past (had levels g earlier) (given levels 0 (levels g) earlier) c) (s.sessions_are r.level ∙ ap (λ k. given levels 1 k earlier) level_is)
      ∙ next_is levels g earlier

  last_is : (before : ℕ) (last : ℕ → ℕ) (level : ℕ) → last_after was.events before r.level last level ≡ last_after (events_of g earlier) before (levels g) last level
  last_is before last level = ap (λ (w : Past). last_after w.events before r.level last level) was_is ∙ ap (λ k. last_after (events_of g earlier) before k last level) level_is

  event_is : event ≡ event_at p (e + 1) (number seed (e + 1)) (place_of (length (rows p)) (number seed (e + 1))) earlier
  event_is =
      is_event
      ∙ ap (λ r. event_of r (record { event = e + 1; place = g; pick = roll y / 1024; past = now })) is_r
      ∙ ap (λ n. event_of (row_at p g) (record { event = e + 1; place = g; pick = roll y / 1024; past = n })) now_is
      ∙ ap (λ z. event_at p (e + 1) z g earlier) y_is
      ∙ ap (λ k. event_at p (e + 1) (number seed (e + 1)) k earlier) g_is

  pub stands_more : Stands p seed (e + 1) y (slice_set pasts g (one_more now)) more_clients more_sessions (events ++ event ∷ [])
  stands_more = record {
    number_is = y_is;
    each = length-set pasts g (one_more now) ∙ s.each;
    past_are = subst (AreHad levels (slice_set pasts g (one_more now))) places_are (had_more levels pasts g earlier now s.past_are within now_is);
    clients_are = λ level. cs level ∙ last_is 0 (last_in clients) level ∙ given_more levels 0 g level earlier (last_in clients) (s.clients_are level) ∙ ap (given levels 0 level) places_are;
    sessions_are = λ level. ss level ∙ last_is 1 (last_in sessions) level ∙ given_more levels 1 g level earlier (last_in sessions) (s.sessions_are level) ∙ ap (given levels 1 level) places_are;
    made = ap (λ es. es ++ event ∷ []) s.made ∙ ap (λ v. generated p seed e ++ v ∷ []) event_is ∙ sym (generated_next p seed e);
    fit = All-push Fits events event s.fit fits;
    requests = All-push (λ (event : Event). IsRequest event.message) events event s.requests request;
  }
