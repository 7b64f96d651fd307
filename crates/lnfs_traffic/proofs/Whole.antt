-- Recordings, and the place where bytes are none.
use Rattle.std.proofs.Common.{◌≡◌, ℕ, ◌+◌, ◌-◌, ◌^◌, ◌<◌, ◌≤◌, true, false, List, [], ◌∷◌, ◌++◌, length, take, drop, refl, sym, subst, ap, ◌∙◌, arith, append_assoc, append-nil, length-append, nat_eq}
use Rattle.std.specs.Result.{IsErr}
use Rattle.std.specs.Cmp.Lexicographic.{same_text}
use Rattle.std.proofs.lemmas.List.{take-append-drop, take_at}
use Rattle.std.proofs.lemmas.Bool.Decides.{nat_tests}
use Rattle.std.proofs.Math.Seq.{take-length}
use Rattle.lnfs_types.specs.declared.event.Event.{Event}
use Rattle.lnfs_types.specs.Moments.{Fits, is_moment}
use Rattle.lnfs_types.specs.declared.limits.TheConstants.{RECORD_LIMIT}
use Rattle.lnfs_xdr.specs.Reading.{read}
use Rattle.lnfs_xdr.specs.Format.{Format, If, Raw, Spells}
use Rattle.lnfs_xdr.proofs.Spelled.{Spelled, ◌▸◌, last, grouped, word_spelled, long_spelled, count_spelled, done_spelled, on_true}
use Rattle.lnfs_xdr.proofs.Fields.{IsBytes, IsBytes-back, IsBytes-drop}
use Rattle.lnfs_traffic.specs.Recording.{event, beginning, IsRecording}
use Rattle.lnfs_traffic.specs.Parts.{Parts, parts_behind, parts_of, begins, recorded, is_recording, place_of}
use Rattle.lnfs_traffic.specs.Texts.{event_text}
use Rattle.lnfs_traffic.proofs.Fronts.{Front, front_of, all_again, last_more, parts_none}

-- bytes that begin as a recording
pub begun : (bytes : List ℕ) → begins bytes ≡ true → bytes ≡ beginning ++ drop 8 bytes
begun bytes e = sym (take-append-drop 8 bytes) ∙ ap (λ (t : List ℕ). t ++ drop 8 bytes) (same_text (take 8 bytes) beginning (sym e))

begins_so : (body : List ℕ) → begins (beginning ++ body) ≡ true
begins_so body = refl

-- the front up to the place is a recording
pub front_recording : (bytes : List ℕ) → IsBytes bytes → begins bytes ≡ true → IsRecording (recorded bytes) (take (place_of bytes) bytes)
front_recording bytes fits e =
    let f : Front (drop 8 bytes) (parts_of (drop 8 bytes)) = front_of (drop 8 bytes) (IsBytes-drop 8 bytes fits) in
    let all : bytes ≡ (beginning ++ f.front) ++ (parts_of (drop 8 bytes)).rest = begun bytes e ∙ ap (λ (b : List ℕ). beginning ++ b) f.parts ∙ sym (append_assoc beginning f.front (parts_of (drop 8 bytes)).rest) in
    let l : length bytes ≡ length (beginning ++ f.front) + length (parts_of (drop 8 bytes)).rest = ap length all ∙ length-append (beginning ++ f.front) (parts_of (drop 8 bytes)).rest in
    let n : length bytes - length (parts_of (drop 8 bytes)).rest ≡ length (beginning ++ f.front) = omega (arith, l) in
    let t : take (length bytes - length (parts_of (drop 8 bytes)).rest) bytes ≡ beginning ++ f.front =
    ap (λ k. take k bytes) n ∙ ap (take (length (beginning ++ f.front))) all ∙ take_at (beginning ++ f.front) (parts_of (drop 8 bytes)).rest (length (beginning ++ f.front)) refl in
    rw e (record { body = f.front; begun = t; spelled = f.spelled })

-- all of the bytes are one where no byte is left
whole_is : (bytes : List ℕ) → IsBytes bytes → is_recording bytes ≡ true → IsRecording (recorded bytes) bytes
whole_is bytes fits e =
    let b : begins bytes ≡ true = grind (arith, nat_tests, e) in
    let n : length (parts_of (drop 8 bytes)).rest ≡ 0 = grind (arith, nat_tests, e) in
    let r = front_recording bytes fits b in
    let p : place_of bytes ≡ length bytes = rw b (omega (arith, n)) in
    subst (IsRecording (recorded bytes)) (ap (λ k. take k bytes) p ∙ take-length bytes) r

-- what is read of a recording, whatever follows it
pub record Given (events : List Event) (rest bytes : List ℕ) : Type 0 where
  pub begun : begins bytes ≡ true
  pub events_are : (parts_of (drop 8 bytes)).events ≡ events ++ (parts_of rest).events
  pub rest_is : (parts_of (drop 8 bytes)).rest ≡ (parts_of rest).rest

pub given : (events : List Event) (front rest bytes : List ℕ) → IsRecording events front → bytes ≡ front ++ rest → Given events rest bytes
given events front rest bytes r e =
    let all : bytes ≡ beginning ++ (r.body ++ rest) = e ∙ ap (λ (b : List ℕ). b ++ rest) r.begun ∙ append_assoc beginning r.body rest in
    let p = all_again events r.body rest r.spelled in
    subst (Given events rest) (sym all) (record {
      begun = begins_so (r.body ++ rest);
      events_are = ap (λ (p : Parts). p.events) p;
      rest_is = ap (λ (p : Parts). p.rest) p;
    })

pub whole_again : (events : List Event) (bytes : List ℕ) → IsRecording events bytes → (is_recording bytes ≡ true) × (events ≡ recorded bytes)
unfolding parts_behind
whole_again events bytes r =
    let s = given events bytes [] bytes r (sym (append-nil bytes)) in
    let none : (parts_of (drop 8 bytes)).rest ≡ [] = s.rest_is in
    let all : (parts_of (drop 8 bytes)).events ≡ events = s.events_are ∙ append-nil events in
    (rw (s.begun, none) refl, rw s.begun (sym all))

pub whole_found : (events : List Event) (bytes : List ℕ) → IsBytes bytes → (is_recording bytes ≡ true) × (events ≡ recorded bytes) → IsRecording events bytes
whole_found events bytes fits e = subst (λ (es : List Event). IsRecording es bytes) (sym e.1) (whole_is bytes fits e.0)

-- no front that is a recording ends behind the place
pub no_longer : (events : List Event) (bytes front rest : List ℕ) → IsBytes bytes → IsRecording events front → bytes ≡ front ++ rest → length front ≤ place_of bytes
no_longer events bytes front rest fits r e =
    let s = given events front rest bytes r e in
    let f : Front rest (parts_of rest) = front_of rest (IsBytes-back front rest bytes e fits) in
    let w : length rest ≡ length f.front + length (parts_of rest).rest = ap length f.parts ∙ length-append f.front (parts_of rest).rest in
    let l : length bytes ≡ length front + length rest = ap length e ∙ length-append front rest in
    let m : length (parts_of (drop 8 bytes)).rest ≡ length (parts_of rest).rest = ap length s.rest_is in
    rw s.begun (omega (arith, w, l, m))

-- a reader that stopped behind these events, with a rest that no event begins
module _ (bytes body rest : List ℕ) (events : List Event) (b : begins bytes ≡ true) (is_body : body ≡ drop 8 bytes) (es : (parts_of body).events ≡ events ++ (parts_of rest).events) (r : (parts_of body).rest ≡ (parts_of rest).rest) (none : IsErr (read event rest)) where
  pub all_events : recorded bytes ≡ events
  all_events = rw (b, ← is_body) (es ∙ ap (λ (p : Parts). events ++ p.events) (parts_none rest none) ∙ append-nil events)

  all_rest : (parts_of (drop 8 bytes)).rest ≡ rest
  all_rest = ap (λ (x : List ℕ). (parts_of x).rest) (sym is_body) ∙ r ∙ ap (λ (p : Parts). p.rest) (parts_none rest none)

  pub read_whole : IsBytes bytes → nat_eq (length rest) 0 ≡ true → IsRecording events bytes
  read_whole fits e = whole_found events bytes fits (rw (b, all_rest, e) refl, sym all_events)

  pub read_damaged : nat_eq (length rest) 0 ≡ false → (is_recording bytes ≡ false) × (length bytes - length rest ≡ place_of bytes)
  read_damaged e = (rw (b, all_rest, e) refl, rw (b, all_rest) refl)

-- the recording of no event, and that of one more
pub recording_none : IsRecording [] beginning
recording_none = record { body = []; begun = sym (append-nil beginning); spelled = (refl, refl) }

pub recording_more : (events : List Event) (e : Event) (bytes text : List ℕ) → IsRecording events bytes → Spells event e text → IsRecording (events ++ e ∷ []) (bytes ++ text)
recording_more events e bytes text r s = record {
  body = r.body ++ text;
  begun = ap (λ (b : List ℕ). b ++ text) r.begun ∙ append_assoc beginning r.body text;
  spelled = last_more events e r.body text r.spelled s;
}

raw_spelled : {E : Type 0} (v : List ℕ) → Spelled {E = E} (Raw (length v)) v v
raw_spelled v = record { is = (refl, refl) }

on_moment : (e : Event) (f : Fits e) {g h : Format (Unit {0}) Event} {bytes : List ℕ} → Spelled g e bytes → Spelled (If (is_moment e.moment.secs e.moment.nanos) g h) e bytes
on_moment e f {g} {h} {bytes} p =
    let m : is_moment e.moment.secs e.moment.nanos ≡ true = let a = f.secs in let b = f.nanos in grind (arith, nat_tests, a, b) in
    subst (λ b. Spelled (If b g h) e bytes) (sym m) (on_true p)

-- the text of an event is its spelling
is_spelled : (e : Event) → Fits e → e.class < 2 ^ 32 → e.link < 2 ^ 32 → Spelled event e (event_text e)
unfolding event event_text
is_spelled e f class link = grouped
    (word_spelled e.class class ▸ word_spelled e.link link ▸ long_spelled e.moment.secs (omega (arith, f.secs)) ▸ word_spelled e.moment.nanos (omega (arith, f.nanos))
    ▸ on_moment e f (count_spelled RECORD_LIMIT (length e.message) f.short (omega (arith, f.short)) ▸ last (raw_spelled e.message) (done_spelled e)))
    (simp append_assoc refl)

pub event_spelled : (e : Event) → Fits e → e.class < 2 ^ 32 → e.link < 2 ^ 32 → Spells event e (event_text e)
event_spelled e f class link = (is_spelled e f class link).is
