-- What a reader gives of the bytes that were fed.
use Rattle.std.proofs.Common.{◌≡◌, ℕ, ◌+◌, ◌-◌, ◌<◌, ◌≤◌, Bool, true, false, List, [], ◌∷◌, ◌++◌, length, take, drop, Result, Ok, Err, refl, sym, ap, subst, ◌∙◌, inl, inr, arith, append_assoc, append-nil, length-append, nat_eq, MatchResult}
use Rattle.std.specs.Result.{IsErr}
use Rattle.std.specs.Str.{bytes_eq}
use Rattle.std.specs.Cmp.Lexicographic.{same_text, bytes_decides}
use Rattle.std.proofs.lemmas.Grind.{common_steps}
use Rattle.std.proofs.lemmas.List.{take-append-drop, take_at, drop-drop, take-append-le}
use Rattle.std.proofs.lemmas.Bool.{cases_lt}
use Rattle.std.proofs.lemmas.Bool.Decides.{nat_tests}
use Rattle.lnfs_types.specs.declared.event.Event.{Event}
use Rattle.lnfs_xdr.specs.Format.{Spells}
use Rattle.lnfs_xdr.specs.Reading.{read}
use Rattle.lnfs_xdr.proofs.Fields.{IsBytes}
use Rattle.lnfs_xdr.proofs.Laws.{found}
use Rattle.lnfs_traffic.specs.Recording.{event, beginning, IsRecording}
use Rattle.lnfs_traffic.specs.Parts.{Parts, parts_of, begins, recorded, is_recording, place_of}
use Rattle.lnfs_traffic.specs.Stages.{Stage, Damage, stage_of}
use Rattle.lnfs_traffic.specs.Pieces.{Reads, IsBroken, Finishes, first_stage, stage}
use Rattle.lnfs_traffic.specs.declared.error.TrafficError.{TrafficError}
use Rattle.lnfs_traffic.specs.declared.error.TrafficError.TheVariants as error
use Rattle.lnfs_traffic.proofs.Cutting.{cut, left_length}
use Rattle.lnfs_traffic.proofs.Fronts.{outcome, parts_some}
use Rattle.lnfs_traffic.proofs.Whole.{begun, given, recording_none, recording_more, all_events, read_damaged}
use Rattle.lnfs_traffic.proofs.Steady.{Damaged, damage_err, stays, not_nothing}

-- these events are recorded in front of the rest, in so many bytes
pub record Behind (fed : List ℕ) (events : List Event) (place : ℕ) (rest : List ℕ) : Type 0 where
  pub front : List ℕ
  pub parts : fed ≡ front ++ rest
  pub place_is : length front ≡ place
  pub recording : IsRecording events front

pub behind_some : (fed : List ℕ) (events : List Event) (place : ℕ) (rest : List ℕ) → 0 < place → Reads fed events place rest → Behind fed events place rest
behind_some fed events place rest some r = record { front = r.front; parts = r.parts; place_is = r.place_is; recording = r.some some }

no_bytes : (bytes : List ℕ) → length bytes ≡ 0 → bytes ≡ []
no_bytes [] e = refl
no_bytes (b ∷ bytes) e = absurd (omega (arith, e))

-- before the first event all bytes are unread
pub all_unread : (fed : List ℕ) (events : List Event) (rest : List ℕ) → Reads fed events 0 rest → fed ≡ rest
all_unread fed events rest r = r.parts ∙ ap (λ (f : List ℕ). f ++ rest) (no_bytes r.front r.place_is)

pub behind_first : (fed : List ℕ) (events : List Event) (rest : List ℕ) → begins rest ≡ true → Reads fed events 0 rest → Behind fed events 8 (drop 8 rest)
behind_first fed events rest b r = record {
  front = beginning;
  parts = all_unread fed events rest r ∙ begun rest b;
  place_is = refl;
  recording = subst (λ (es : List Event). IsRecording es beginning) (sym (r.none refl)) recording_none;
}

-- the event at the front
pub record Front (bytes : List ℕ) (e : Event) (size : ℕ) : Type 0 where
  pub spelled : Spells event e (take size bytes)
  pub within : size ≤ length bytes
  pub some : 0 < size

pub front_is : (bytes : List ℕ) (e : Event) (rest : List ℕ) (size : ℕ) → IsBytes bytes → read event bytes ≡ Ok (e, rest) → size + length rest ≡ length bytes → Front bytes e size
front_is bytes e rest size fits r n =
    let t = found event bytes (e, rest) fits r in
    let c = cut bytes e rest r in
    let l : length bytes ≡ length t.front + length rest = ap length t.takes.parts ∙ length-append t.front rest in
    let long : length t.front ≡ size = omega (arith, l, n) in
    let front : take size bytes ≡ t.front = ap (take size) t.takes.parts ∙ take_at t.front rest size long in
    record { spelled = subst (Spells event e) (sym front) t.spelled; within = omega (arith, n); some = omega (arith, left_length c.left, c.whole, n) }

-- one more event is given
pub gives : (fed : List ℕ) (events : List Event) (place : ℕ) (rest : List ℕ) (e : Event) (size : ℕ) → Behind fed events place rest → Spells event e (take size rest) → size ≤ length rest → 0 < size
    → Reads fed (events ++ e ∷ []) (place + size) (drop size rest)
gives fed events place rest e size b spelled within some =
    let taken : length (take size rest) ≡ size = grind (arith, common_steps, within) in
    record {
      front = b.front ++ take size rest;
      parts = b.parts ∙ ap (λ (r : List ℕ). b.front ++ r) (sym (take-append-drop size rest)) ∙ sym (append_assoc b.front (take size rest) (drop size rest));
      place_is = length-append b.front (take size rest) ∙ omega (arith, taken, b.place_is);
      none = λ none. absurd (omega (arith, none, some));
      some = λ some. recording_more events e b.front (take size rest) b.recording spelled;
    }

pub gives_first : (fed : List ℕ) (events : List Event) (rest : List ℕ) (e : Event) (size at : ℕ) → at ≡ 8 + size → begins rest ≡ true → Reads fed events 0 rest → Spells event e (take size (drop 8 rest)) → size ≤ length (drop 8 rest) → 0 < size
    → Reads fed (events ++ e ∷ []) at (drop (8 + size) rest)
gives_first fed events rest e size at is b r spelled within some =
    rw is (subst (Reads fed (events ++ e ∷ []) (8 + size)) (drop-drop size 8 rest) (gives fed events 8 (drop 8 rest) e size (behind_first fed events rest b r) spelled within some))

-- no event is left
pub all_given : (fed : List ℕ) (events : List Event) (place : ℕ) (rest : List ℕ) → Behind fed events place rest → IsErr (read event rest) → events ≡ recorded fed
all_given fed events place rest b none =
    let g = given events b.front rest fed b.recording b.parts in
    sym (all_events fed (drop 8 fed) rest events g.begun refl g.events_are g.rest_is none)

-- what is left begins no event
pub left_over : (fed : List ℕ) (events : List Event) (place : ℕ) (rest : List ℕ) → Behind fed events place rest → IsErr (read event rest) → 0 < length rest → (is_recording fed ≡ false) × (place ≡ place_of fed)
left_over fed events place rest b none some =
    let g = given events b.front rest fed b.recording b.parts in
    let d = read_damaged fed (drop 8 fed) rest events g.begun refl g.events_are g.rest_is none (grind (arith, nat_tests, some)) in
    let all : length fed ≡ length b.front + length rest = ap length b.parts ∙ length-append b.front rest in
    let place_is : place ≡ length fed - length rest = let p = b.place_is in omega (arith, p, all) in
    (d.0, place_is ∙ d.1)

-- more bytes stand behind all
pub more_behind : (fed : List ℕ) (events : List Event) (place : ℕ) (rest more : List ℕ) → Behind fed events place rest → Behind (fed ++ more) events place (rest ++ more)
more_behind fed events place rest more b = record {
  front = b.front;
  parts = ap (λ (f : List ℕ). f ++ more) b.parts ∙ append_assoc b.front rest more;
  place_is = b.place_is;
  recording = b.recording;
}

longer : (rest more : List ℕ) → 0 < length rest → 0 < length (rest ++ more)
longer rest more some = rw (length-append rest more) (omega (arith, some))

pub broken : (fed : List ℕ) (events : List Event) (place : ℕ) (rest : List ℕ) → Behind fed events place rest → IsBytes rest → Damaged (read event rest) → IsBroken fed events place
broken fed events place rest b fits damage =
    let now : (more : List ℕ) → (is_recording (fed ++ more) ≡ false) × (place ≡ place_of (fed ++ more)) = λ more.
    left_over (fed ++ more) events place (rest ++ more) (more_behind fed events place rest more b) (damage_err (read event (rest ++ more)) (stays rest more fits damage)) (longer rest more (not_nothing rest damage)) in
    record {
      none = λ more. (now more).0;
      events_are = λ more. all_given (fed ++ more) events place (rest ++ more) (more_behind fed events place rest more b) (damage_err (read event (rest ++ more)) (stays rest more fits damage));
      place_is = λ more. (now more).1;
    }

-- ---- which stage it is

pub not_zero : (n : ℕ) → 0 < n → nat_eq n 0 ≡ false
not_zero n some = grind (arith, nat_tests, some)

pub stage_behind : (place : ℕ) (rest : List ℕ) → 0 < place → stage place rest ≡ stage_of (read event rest)
stage_behind place rest some = rw (not_zero place some) refl

pub first_begun : (rest : List ℕ) (s : Stage) → begins rest ≡ true → stage_of (read event (drop 8 rest)) ≡ s → first_stage rest ≡ s
first_begun rest s b e = rw b e

pub first_broken : (rest : List ℕ) → begins rest ≡ false → bytes_eq rest (take (length rest) beginning) ≡ false → first_stage rest ≡ Damage
first_broken rest b f = rw (b, f) refl

-- ---- before the beginning was there

-- what isn't a front of the beginning, and doesn't begin with it, does so whatever follows
otherwise : (b : Bool) → (b ≡ true → ⊥) → b ≡ false
otherwise true h = absurd (h refl)
otherwise false h = refl

cut_back : (k : ℕ) (bytes more : List ℕ) → length bytes ≤ k → take (length bytes) (take k (bytes ++ more)) ≡ bytes
cut_back k bytes more short = grind (arith, common_steps, short)

pub never_begins : (bytes more : List ℕ) → begins bytes ≡ false → bytes_eq bytes (take (length bytes) beginning) ≡ false → begins (bytes ++ more) ≡ false
never_begins bytes more b f = otherwise (begins (bytes ++ more)) (λ t.
    let front : take 8 (bytes ++ more) ≡ beginning = same_text (take 8 (bytes ++ more)) beginning (sym t) in
    elim (cases_lt (length bytes) 8) [
      | inr long ↦
          let same : take 8 bytes ≡ beginning = sym (take-append-le 8 bytes more long) ∙ front in
          let is : begins bytes ≡ true = (bytes_decides (take 8 bytes) beginning).1 same in
          absurd cc
      | inl short ↦
          let cut : take (length bytes) beginning ≡ take (length bytes) (take 8 (bytes ++ more)) = ap (take (length bytes)) (sym front) in
          let back : take (length bytes) (take 8 (bytes ++ more)) ≡ bytes = cut_back 8 bytes more (omega (arith, short)) in
          let is : bytes_eq bytes (take (length bytes) beginning) ≡ true = (bytes_decides bytes (take (length bytes) beginning)).1 (sym (cut ∙ back)) in
          absurd cc
    ])

pub broken_first : (fed : List ℕ) (events : List Event) (rest : List ℕ) → begins rest ≡ false → bytes_eq rest (take (length rest) beginning) ≡ false → Reads fed events 0 rest → IsBroken fed events 0
broken_first fed events rest b f r =
    let all = all_unread fed events rest r in
    let never : (more : List ℕ) → begins (fed ++ more) ≡ false = λ more. ap (λ (x : List ℕ). begins (x ++ more)) all ∙ never_begins rest more b f in
    record {
      none = λ more. rw (never more) refl;
      events_are = λ more. r.none refl ∙ rw (never more) refl;
      place_is = λ more. rw (never more) refl;
    }

-- ---- more bytes, and the end

pub nothing_fed : Reads [] [] 0 []
nothing_fed = record { front = []; parts = refl; place_is = refl; none = λ e. refl; some = λ some. absurd (omega (arith, some)) }

pub more_fed : (fed : List ℕ) (events : List Event) (place : ℕ) (rest piece : List ℕ) → Reads fed events place rest → Reads (fed ++ piece) events place (rest ++ piece)
more_fed fed events place rest piece r = record {
  front = r.front;
  parts = ap (λ (f : List ℕ). f ++ piece) r.parts ∙ append_assoc r.front rest piece;
  place_is = r.place_is;
  none = r.none;
  some = r.some;
}

-- all bytes are a recording where none is left
pub whole_end : (fed : List ℕ) (events : List Event) (place : ℕ) (rest : List ℕ) → rest ≡ [] → Behind fed events place rest → IsRecording events fed
whole_end fed events place rest none b = subst (IsRecording events) (sym (b.parts ∙ ap (λ (r : List ℕ). b.front ++ r) none ∙ append-nil b.front)) b.recording

-- where all events were given, what is left over begins none
same_end : (xs ys : List Event) → xs ≡ xs ++ ys → ys ≡ []
same_end [] ys e = sym e
same_end (x ∷ xs) ys e = same_end xs ys cc

begins_none : (rest : List ℕ) → (parts_of rest).events ≡ [] → IsErr (read event rest)
begins_none rest e = elim (outcome (read event rest)) [
  | inl x ↦
      let p : (parts_of rest).events ≡ x.0.0 ∷ (parts_of x.0.1).events = ap (λ (p : Parts). p.events) (parts_some rest x.0.0 x.0.1 x.1) in
      absurd (let q = sym e ∙ p in cc)
  | inr none ↦ none
]

pub refused_end : (fed : List ℕ) (events : List Event) (place : ℕ) (rest : List ℕ) → 0 < length rest → Behind fed events place rest → events ≡ recorded fed → (is_recording fed ≡ false) × (place ≡ place_of fed)
refused_end fed events place rest some b all =
    let g = given events b.front rest fed b.recording b.parts in
    let e : events ≡ events ++ (parts_of rest).events = all ∙ rw g.begun g.events_are in
    left_over fed events place rest b (begins_none rest (same_end events (parts_of rest).events e)) some

-- ---- what is answered at the end

pub ends_behind : {T : Type 0} (answer : Result T TrafficError) (place : ℕ) (rest : List ℕ) → 0 < place → MatchResult answer (λ _. rest ≡ []) (λ e. (0 < length rest) × (e ≡ error.Damaged place)) → Finishes answer place rest
ends_behind (Ok x) place rest some e = λ fed events r. whole_end fed events place rest e (behind_some fed events place rest some r)
ends_behind (Err (error.Damaged at)) place rest some e =
    let same : at ≡ place = let d = e.1 in cc in (
      rw (not_zero place some) same,
      λ fed events r all.
          let t = refused_end fed events place rest e.0 (behind_some fed events place rest some r) all in
          (t.0, same ∙ t.1),
    )
ends_behind (Err error.Memory) place rest some e = absurd (let d = e.1 in cc)

pub ends_first : {T : Type 0} (answer : Result T TrafficError) (place : ℕ) (rest : List ℕ) → place ≡ 0 → begins rest ≡ true → MatchResult answer (λ _. drop 8 rest ≡ []) (λ e. (0 < length (drop 8 rest)) × (e ≡ error.Damaged 8)) → Finishes answer place rest
ends_first (Ok x) place rest none b e = rw none (λ fed events r. whole_end fed events 8 (drop 8 rest) e (behind_first fed events rest b r))
ends_first (Err (error.Damaged at)) place rest none b e =
    let same : at ≡ 8 = let d = e.1 in cc in
    rw none (
      rw b same,
      λ fed events r all.
          let t = refused_end fed events 8 (drop 8 rest) e.0 (behind_first fed events rest b r) all in
          (t.0, same ∙ t.1),
    )
ends_first (Err error.Memory) place rest none b e = absurd (let d = e.1 in cc)
