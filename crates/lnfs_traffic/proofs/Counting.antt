-- What the code keeps of the guests is what the definitions count in the events so far.
use Rattle.std.proofs.Common.{◌≡◌, ◌≢◌, ℕ, ◌+◌, ◌<◌, ◌≤◌, Bool, true, false, cond, ◌&&◌, ◌==◌, List, [], ◌∷◌, length, slice_index_or, slice_set, refl, sym, ap, subst, ◌∙◌, arith, length-set}
use Rattle.std.proofs.lemmas.Bool.{eqb-true, eq-eqb}
use Rattle.std.proofs.lemmas.Bool.Decides.{nat_tests}
use Rattle.std.proofs.lemmas.List.{get_or-set_same, get_or-set_other}
use Rattle.std.proofs.lemmas.List.Sums.{count_by-le-length, sum_by-cons}
use Rattle.lnfs_traffic.specs.declared.turns.Past.{Past}
use Rattle.lnfs_traffic.specs.Counts.{next_past, last_after}
use Rattle.lnfs_traffic.specs.Generated.{events_of, given, got, past_of}

same_place : (n : ℕ) → (n == n) ≡ true
same_place n = eq-eqb n n refl

-- ---- no count is above the number of events

at_most_one : (b : Bool) → cond b 1 0 ≤ 1
at_most_one true = omega arith
at_most_one false = omega arith

pub given_within : (level : ℕ → ℕ) (before wanted : ℕ) (events : List ℕ) → given level before wanted events ≤ length events
unfolding given
given_within level before wanted [] = omega arith
given_within level before wanted (g ∷ earlier) =
    omega (arith, at_most_one (level g == wanted && events_of g earlier == before), given_within level before wanted earlier)

pub events_within : (g : ℕ) (events : List ℕ) → events_of g events ≤ length events
events_within g events = count_by-le-length (λ h. h == g) events

-- ---- one more event

counted : (b : Bool) (m n : ℕ) → cond b (cond b 1 0 + m) n ≡ cond b (m + 1) n
counted true m n = omega arith
counted false m n = refl

-- the number that the event gets
pub got_now : (level : ℕ → ℕ) (before g : ℕ) (earlier : List ℕ) → got level before g (g ∷ earlier) ≡ cond (events_of g earlier == before) (given level before (level g) earlier + 1) (got level before g earlier)
unfolding got given
got_now level before g earlier =
    rw (same_place g, same_place (level g)) (counted (events_of g earlier == before) (given level before (level g) earlier) (got level before g earlier))

got_other : (level : ℕ → ℕ) (before g h : ℕ) (earlier : List ℕ) → (g == h) ≡ false → got level before h (g ∷ earlier) ≡ got level before h earlier
unfolding got
got_other level before g h earlier e = rw e

events_now : (g : ℕ) (earlier : List ℕ) → events_of g (g ∷ earlier) ≡ events_of g earlier + 1
events_now g earlier = sum_by-cons (λ h. cond (h == g) 1 0) g earlier ∙ rw (same_place g) (omega arith)

events_other : (g h : ℕ) (earlier : List ℕ) → (g == h) ≡ false → events_of h (g ∷ earlier) ≡ events_of h earlier
events_other g h earlier e = sum_by-cons (λ k. cond (k == h) 1 0) g earlier ∙ rw e (omega arith)

swapped : (a b : Bool) (n : ℕ) → cond (a && b) (n + 1) n ≡ cond (b && a) 1 0 + n
swapped true true n = omega arith
swapped true false n = omega arith
swapped false true n = omega arith
swapped false false n = omega arith

pub given_more : (level : ℕ → ℕ) (before g other : ℕ) (earlier : List ℕ) (last : ℕ → ℕ) → last other ≡ given level before other earlier → last_after (events_of g earlier) before (level g) last other ≡ given level before other (g ∷ earlier)
unfolding given
given_more level before g other earlier last e = rw e (swapped (events_of g earlier == before) (level g == other) (given level before other earlier))

-- ---- what a guest has had

-- after these events
abbrev pub had : (level : ℕ → ℕ) → (g : ℕ) → (events : List ℕ) → Past
had level g events = record { events = events_of g events; client = got level 0 g events; session = got level 1 g events }

by_tests : (b c : Bool) (past : Past) (x y : ℕ) → (b ≡ true → c ≡ false) → cond b (record past { client = x }) (cond c (record past { session = y }) past) ≡ record { events = past.events; client = cond b x past.client; session = cond c y past.session }
by_tests true true past x y apart = absurd (let e = apart refl in cc)
by_tests true false past x y apart = refl
by_tests false true past x y apart = refl
by_tests false false past x y apart = refl

zero_or_one : (n : ℕ) → (n == 0) ≡ true → (n == 1) ≡ false
zero_or_one n e = grind (arith, nat_tests)

pub next_is : (level : ℕ → ℕ) (g : ℕ) (earlier : List ℕ) → next_past (had level g earlier) (given level 0 (level g) earlier) (given level 1 (level g) earlier) ≡ past_of level g earlier
next_is level g earlier =
    by_tests (events_of g earlier == 0) (events_of g earlier == 1) (had level g earlier) (given level 0 (level g) earlier + 1) (given level 1 (level g) earlier + 1) (zero_or_one (events_of g earlier))
    ∙ rw (got_now level 0 g earlier, got_now level 1 g earlier) refl

same_events : (b c : Bool) (past : Past) (x y : ℕ) → (cond b (record past { client = x }) (cond c (record past { session = y }) past)).events ≡ past.events
same_events true c past x y = refl
same_events false true past x y = refl
same_events false false past x y = refl

pub next_events : (past : Past) (clients sessions : ℕ) → (next_past past clients sessions).events ≡ past.events
next_events past clients sessions = same_events (past.events == 0) (past.events == 1) past (clients + 1) (sessions + 1)

-- before any event
abbrev pub nothing : Past
nothing = record { events = 0; client = 0; session = 0 }

-- the guest of the event has had one more
abbrev pub one_more : Past → Past
one_more past = record { events = past.events + 1; client = past.client; session = past.session }

had_now : (level : ℕ → ℕ) (g : ℕ) (earlier : List ℕ) → one_more (past_of level g earlier) ≡ had level g (g ∷ earlier)
had_now level g earlier = ap (λ n. record { events = n; client = got level 0 g (g ∷ earlier); session = got level 1 g (g ∷ earlier) }) (sym (events_now g earlier))

had_other : (level : ℕ → ℕ) (g h : ℕ) (earlier : List ℕ) → (g == h) ≡ false → had level h earlier ≡ had level h (g ∷ earlier)
had_other level g h earlier e = rw (events_other g h earlier e, got_other level 0 g h earlier e, got_other level 1 g h earlier e) refl

-- ---- all guests

-- the code's list after events in the rows at these places
pub record AreHad (level : ℕ → ℕ) (pasts : List Past) (events : List ℕ) : Type 0 where
  pub each : (g : ℕ) (d : Past) → g < length pasts → slice_index_or pasts g d ≡ had level g events

had_more_at : (level : ℕ → ℕ) (pasts : List Past) (g : ℕ) (earlier : List ℕ) (past : Past) → AreHad level pasts earlier → g < length pasts → past ≡ past_of level g earlier
    → (h : ℕ) (d : Past) → h < length pasts → (b : Bool) → (g == h) ≡ b → slice_index_or (slice_set pasts g (one_more past)) h d ≡ had level h (g ∷ earlier)
had_more_at level pasts g earlier past are within is h d short true e =
    let same : g ≡ h = eqb-true g h e in
    subst (λ k. slice_index_or (slice_set pasts g (one_more past)) k d ≡ had level k (g ∷ earlier)) same
    (get_or-set_same pasts g (one_more past) d within ∙ ap one_more is ∙ had_now level g earlier)
had_more_at level pasts g earlier past are within is h d short false e =
    let apart : h ≢ g = λ same. let t : (g == h) ≡ true = rw same (same_place g) in cc in
    get_or-set_other pasts g h (one_more past) d apart ∙ are.each h d short ∙ had_other level g h earlier e

pub had_more : (level : ℕ → ℕ) (pasts : List Past) (g : ℕ) (earlier : List ℕ) (past : Past) → AreHad level pasts earlier → g < length pasts → past ≡ past_of level g earlier → AreHad level (slice_set pasts g (one_more past)) (g ∷ earlier)
had_more level pasts g earlier past are within is = record {
  each = λ h d short. had_more_at level pasts g earlier past are within is h d (subst (λ n. h < n) (length-set pasts g (one_more past)) short) (g == h) refl;
}
