-- A recording that is served while it is read.
use Rattle.std.proofs.Common.{◌≡◌, ◌<◌, ℕ, zero, suc, Bool, true, false, cond, List, [], ◌∷◌, ◌++◌, length, drop, take, refl, sym, ap, subst, ◌∙◌, arith, append_assoc, append-nil, unwrap_or}
use Rattle.std.specs.Prelude.{Result, Ok, Err, IfSome, MatchBool}
use Rattle.std.specs.Io.KnownBytes.{Keeps, Consumes, IsAtEnd}
use Rattle.std.proofs.KnownBytes.{Consumes-nil, Consumes-trans}
use Rattle.std.specs.declared.option.Option.{Option}
use Rattle.std.specs.declared.option.Option.TheVariants.{Some, None}
use Rattle.lnfs_types.specs.declared.event.Event.{Event}
use Rattle.lnfs_types.specs.Moments.{Fits}
use Rattle.lnfs_policy.specs.Policy.{Policy}
use Rattle.lnfs_operations.specs.Extra.{Extra}
use Rattle.lnfs_gss3.specs.Mechanism.{Signing}
use Rattle.lnfs_step.specs.Journal.{answer_with}
use Rattle.lnfs_xdr.specs.Reading.{read}
use Rattle.lnfs_traffic.specs.Recording.{event}
use Rattle.lnfs_traffic.specs.Parts.{Parts, parts_of, recorded, is_recording, place_of}
use Rattle.lnfs_traffic.specs.Pieces.{Unread, Reads, IsBroken, IsNext, Finishes, fed_to}
use Rattle.lnfs_traffic.specs.declared.error.TrafficError.{TrafficError}
use Rattle.lnfs_traffic.specs.declared.error.TrafficError.TheVariants as error
use Rattle.lnfs_traffic.proofs.Cutting.{cut}
use Rattle.lnfs_traffic.proofs.Fronts.{parts_some, parts_none}
use Rattle.lnfs_traffic.proofs.Whole.{given, whole_again}
use Rattle.lnfs_traffic.proofs.Fed.{Behind, behind_some, more_behind, more_fed, nothing_fed}
use Rattle.lnfs_stage.specs.declared.ending.Ending.{Ending}
use Rattle.lnfs_stage.specs.declared.ending.Ending.TheVariants.{TrafficDamaged}
use Rattle.lnfs_stage.specs.declared.stop.Stop.{Stop}
use Rattle.lnfs_stage.specs.declared.stop.Stop.TheVariants.{Ends, Memory}
use Rattle.lnfs_stage.specs.Seen.{Seen}
use Rattle.lnfs_stage.specs.Writes.{Write}
use Rattle.lnfs_stage.specs.Due.{Due, written, ends}
use Rattle.lnfs_stage.specs.Does.{Does, DoesLeft, ReadsPiece}
use Rattle.lnfs_stage.proofs.Doing.{does_nothing, does_end, does_short, does_first, does_then, as_value}
use Rattle.lnfs_commands.specs.Commands.{replayed}
use Rattle.lnfs_commands.specs.Events.{audit_with, answer_writes, writes_after}
use Rattle.lnfs_commands.specs.Replays.{Feeds, ending_of}
use Rattle.lnfs_commands.proofs.Events.{writes_join, writes_one}

-- ---- the events that a reader gave

-- they are the first that are recorded, whatever follows what was fed
pub record Firsts (events : List Event) (bytes : List ℕ) : Type 0 where
  pub others : List Event
  pub are : recorded bytes ≡ events ++ others

pub firsts : (fed : List ℕ) (events : List Event) (place : ℕ) (rest more : List ℕ) → Reads fed events place rest → Firsts events (fed ++ more)
firsts fed events zero rest more r = record { others = recorded (fed ++ more); are = ap (λ (es : List Event). es ++ recorded (fed ++ more)) (sym (r.none refl)) }
firsts fed events (suc n) rest more r =
    let b : Behind (fed ++ more) events (suc n) (rest ++ more) = more_behind fed events (suc n) rest more (behind_some fed events (suc n) rest (omega arith) r) in
    let g = given events b.front (rest ++ more) (fed ++ more) b.recording b.parts in
    record { others = (parts_of (rest ++ more)).events; are = rw g.begun g.events_are }

none_in : (before : List Event) (e : Event) (after : List Event) → [] ≡ before ++ e ∷ after → ⊥
none_in [] e after h = cc
none_in (x ∷ xs) e after h = cc

-- each fits
fits_in : (before : List Event) (e : Event) (after : List Event) (bytes : List ℕ) → (parts_of bytes).events ≡ before ++ e ∷ after → Fits e
fits_in [] e after bytes are = elim (read event bytes) as (λ r. read event bytes ≡ r → Fits e) [
  | Ok x ↦ λ is.
      let list : x.0 ∷ (parts_of x.1).events ≡ e ∷ after = sym (ap (λ (p : Parts). p.events) (parts_some bytes x.0 x.1 is)) ∙ are in
      let first : x.0 ≡ e = cc in
      subst Fits first (cut bytes x.0 x.1 is).fits
  | Err stop ↦ λ is. absurd (none_in [] e after (sym (ap (λ (p : Parts). p.events) (parts_none bytes (rw is refl))) ∙ are))
] refl
fits_in (y ∷ ys) e after bytes are = elim (read event bytes) as (λ r. read event bytes ≡ r → Fits e) [
  | Ok x ↦ λ is.
      let list : x.0 ∷ (parts_of x.1).events ≡ y ∷ (ys ++ e ∷ after) = sym (ap (λ (p : Parts). p.events) (parts_some bytes x.0 x.1 is)) ∙ are in
      let others : (parts_of x.1).events ≡ ys ++ e ∷ after = cc in
      fits_in ys e after x.1 others
  | Err stop ↦ λ is. absurd (none_in (y ∷ ys) e after (sym (ap (λ (p : Parts). p.events) (parts_none bytes (rw is refl))) ∙ are))
] refl

pub last_fits : (fed : List ℕ) (events : List Event) (e : Event) (place : ℕ) (rest : List ℕ) → Reads fed (events ++ e ∷ []) place rest → Fits e
last_fits fed events e zero rest r = absurd (none_in events e [] (sym (r.none refl)))
last_fits fed events e (suc n) rest r =
    let b : Behind fed (events ++ e ∷ []) (suc n) rest = behind_some fed (events ++ e ∷ []) (suc n) rest (omega arith) r in
    let g = given (events ++ e ∷ []) b.front rest fed b.recording b.parts in
    fits_in events e (parts_of rest).events (drop 8 fed) (g.events_are ∙ append_assoc events (e ∷ []) (parts_of rest).events)

-- ---- what was read so far, the events that it gave behind a journal, and what was done of what they are due

pub record Underway (X : Extra) (m : Signing) (policy : Policy) (before : List Event) (old now : Seen) (events : List Event) (place : ℕ) (rest : List ℕ) : Type 0 where
  pub fed : List ℕ
  pub was_read : Consumes old.left now.left fed
  pub reads : Reads fed events place rest
  pub did : Does {T = Unit {0}} (Ok tt) old now (written (writes_after (answer_with X m policy) (audit_with X m policy) before events))

-- what is left is behind what was read
behind_read : (left left' : Option (List ℕ)) (fed : List ℕ) → Consumes left left' fed → IfSome left (λ bytes. fed ++ unwrap_or left' [] ≡ bytes)
behind_read None left' fed p = tt
behind_read (Some x) None fed p = absurd p
behind_read (Some x) (Some y) fed p = sym p

all_read : (left left' : Option (List ℕ)) (fed : List ℕ) → Consumes left left' fed → IsAtEnd left' → IfSome left (λ bytes. fed ≡ bytes)
all_read None left' fed p e = tt
all_read (Some x) None fed p e = absurd p
all_read (Some x) (Some y) fed p e = sym (p ∙ ap (λ (l : List ℕ). fed ++ l) e ∙ append-nil fed)

-- the ending that is due
pub whole_ending : (b : Bool) (place : ℕ) → b ≡ true → None ≡ cond b None (Some (TrafficDamaged place))
whole_ending b place e = rw e refl

pub damaged_ending : (b : Bool) (at place : ℕ) → b ≡ false → at ≡ place → Some (TrafficDamaged at) ≡ cond b None (Some (TrafficDamaged place))
damaged_ending b at place e p = rw (e, p) refl

abbrev pub due_of : List Write → Option Ending → Due
due_of ws o = record { writes = ws; ending = o }

pub as_due : (ws ws' : List Write) (o o' : Option Ending) → ws ≡ ws' → o ≡ o' → due_of ws o ≡ due_of ws' o'
as_due ws ws' o o' p q = λ i. record { writes = p i; ending = q i }

abbrev pub ending_in : List ℕ → Option Ending
ending_in text = cond (is_recording text) None (Some (TrafficDamaged (place_of text)))

module _ (X : Extra) (m : Signing) (policy : Policy) (before : List Event) where
  -- the writes of events, and those of one event behind others
  abbrev served : List Event → List Write
  served events = writes_after (answer_with X m policy) (audit_with X m policy) before events

  abbrev served_one : List Event → Event → List Write
  served_one events e = answer_writes (answer_with X m policy (before ++ events) e) (audit_with X m policy (before ++ events) e)

  served_more : (events : List Event) (e : Event) → served (events ++ e ∷ []) ≡ served events ++ served_one events e
  served_more events e = writes_join (answer_with X m policy) (audit_with X m policy) before events (e ∷ []) ∙ ap (λ (ws : List Write). served events ++ ws) (writes_one (answer_with X m policy) (audit_with X m policy) (before ++ events) e)

  served_others : (events others bytes : List Event) → bytes ≡ events ++ others → served bytes ≡ served events ++ writes_after (answer_with X m policy) (audit_with X m policy) (before ++ events) others
  served_others events others bytes e = ap served e ∙ writes_join (answer_with X m policy) (audit_with X m policy) before events others

  pub begins_reading : (s : Seen) {place : ℕ} {rest : List ℕ} → Reads [] [] place rest → Underway X m policy before s s [] place rest
  unfolding writes_after
  begins_reading s r = record { fed = []; was_read = Consumes-nil s.left; reads = r; did = does_nothing tt s }

module _ {X : Extra} {m : Signing} {policy : Policy} {before events : List Event} {place : ℕ} {rest : List ℕ} {r s : Seen} (u : Underway X m policy before r s events place rest) where
  -- one more event
  module _ (e : Event) {place' : ℕ} {rest' : List ℕ} (next : Reads u.fed (events ++ e ∷ []) place' rest') {t : Seen} {S : Type 0} where
    goes_on_event : (value : S) → t.left ≡ s.left → Does {T = S} (Ok value) s t (written (served_one X m policy before events e)) → Underway X m policy before r t (events ++ e ∷ []) place' rest'
    goes_on_event value same q = record {
      fed = u.fed;
      was_read = subst (λ (l : Option (List ℕ)). Consumes r.left l u.fed) (sym same) u.was_read;
      reads = next;
      did = subst (λ (ws : List Write). Does {T = Unit {0}} (Ok tt) r t (written ws)) (sym (served_more X m policy before events e)) (does_then tt (written (served X m policy before events)) (written (served_one X m policy before events e)) u.did (as_value value tt q));
    }

    stops_in_event : {T : Type 0} (stop : Stop) {result : Result T Stop} → result ≡ Err stop → Does {T = S} (Err stop) s t (written (served_one X m policy before events e)) → DoesLeft result r t (replayed X m policy before)
    stops_in_event stop {result} is q =
        let text : List ℕ = u.fed ++ unwrap_or s.left [] in
        let f : Firsts (events ++ e ∷ []) text = firsts u.fed (events ++ e ∷ []) place' rest' (unwrap_or s.left []) next in
        let front : List Write = served X m policy before events ++ served_one X m policy before events e in
        let others : List Write = writes_after (answer_with X m policy) (audit_with X m policy) (before ++ (events ++ e ∷ [])) f.others in
        let all : served X m policy before (recorded text) ≡ front ++ others =
        served_others X m policy before (events ++ e ∷ []) f.others (recorded text) f.are ∙ ap (λ (ws : List Write). ws ++ others) (served_more X m policy before events e) in
        let both : Does {T = S} (Err stop) r t (written front) = does_then tt (written (served X m policy before events)) (written (served_one X m policy before events e)) u.did q in
        record {
          text = text;
          was_left = behind_read r.left s.left u.fed u.was_read;
          does = subst (λ (ws : List Write). Does result r t (record { writes = ws; ending = ending_in text })) (sym all) (does_first stop (written front) (record { writes = others; ending = ending_in text }) both is);
        }

  -- it stopped in what was due next
  stops_there : {T : Type 0} {result : Result T Stop} {t : Seen} → ((next : Due) → Does result s t next) → DoesLeft result r t (replayed X m policy before)
  stops_there {T} {result} {t} q =
      let text : List ℕ = u.fed ++ unwrap_or s.left [] in
      let f : Firsts events text = firsts u.fed events place rest (unwrap_or s.left []) u.reads in
      let others : List Write = writes_after (answer_with X m policy) (audit_with X m policy) (before ++ events) f.others in
      let all : served X m policy before (recorded text) ≡ served X m policy before events ++ others = served_others X m policy before events f.others (recorded text) f.are in
      let next : Due = record { writes = others; ending = ending_in text } in
      record {
        text = text;
        was_left = behind_read r.left s.left u.fed u.was_read;
        does = subst (λ (ws : List Write). Does result r t (record { writes = ws; ending = ending_in text })) (sym all) (does_then tt (written (served X m policy before events)) next u.did (q next));
      }

  pub stops_short : {T : Type 0} {result : Result T Stop} → result ≡ Err Memory → DoesLeft result r s (replayed X m policy before)
  stops_short is = stops_there (λ next. does_short s next is)

  -- one more piece, or none
  module _ {t : Seen} {S : Type 0} (value : S) (q : Does {T = S} (Ok value) s t (written [])) where
    did_more : Does {T = Unit {0}} (Ok tt) r t (written (served X m policy before events))
    did_more = subst (λ (ws : List Write). Does {T = Unit {0}} (Ok tt) r t (written ws)) (append-nil (served X m policy before events)) (does_then tt (written (served X m policy before events)) (written []) u.did (as_value value tt q))

    goes_on_piece : (piece : List ℕ) → Consumes s.left t.left piece → Underway X m policy before r t events place (rest ++ piece)
    goes_on_piece piece p = record {
      fed = u.fed ++ piece;
      was_read = Consumes-trans r.left s.left t.left u.fed piece u.was_read p;
      reads = more_fed u.fed events place rest piece u.reads;
      did = did_more;
    }

    goes_on_none : Consumes s.left t.left [] → Underway X m policy before r t events place rest
    goes_on_none p = record {
      fed = u.fed;
      was_read = subst (λ (l : List ℕ). Consumes r.left t.left l) (append-nil u.fed) (Consumes-trans r.left s.left t.left u.fed [] u.was_read p);
      reads = u.reads;
      did = did_more;
    }

  -- it ends with the events that were served, by a damage
  damaged : (text : List ℕ) (at : ℕ) → IfSome r.left (λ bytes. text ≡ bytes) → events ≡ recorded text → is_recording text ≡ false → at ≡ place_of text → DoesLeft {T = Unit {0}} (Err (Ends (TrafficDamaged at))) r s (replayed X m policy before)
  damaged text at was_left all none place_is =
      let does : Does {T = Unit {0}} (Err (Ends (TrafficDamaged at))) r s (record { writes = served X m policy before events ++ []; ending = Some (TrafficDamaged at) }) =
      does_then tt (written (served X m policy before events)) (ends (TrafficDamaged at)) u.did (does_end (TrafficDamaged at) s refl) in
      record {
        text = text;
        was_left = was_left;
        does = subst (λ (d : Due). Does {T = Unit {0}} (Err (Ends (TrafficDamaged at))) r s d)
            (as_due (served X m policy before events ++ []) (served X m policy before (recorded text)) (Some (TrafficDamaged at)) (ending_in text)
            (append-nil (served X m policy before events) ∙ ap (served X m policy before) all) (damaged_ending (is_recording text) at (place_of text) none place_is)) does;
      }

  breaks : {at : ℕ} → IsBroken u.fed events at → DoesLeft {T = Unit {0}} (Err (Ends (TrafficDamaged at))) r s (replayed X m policy before)
  breaks {at} b =
      let more : List ℕ = unwrap_or s.left [] in
      damaged (u.fed ++ more) at (behind_read r.left s.left u.fed u.was_read) (b.events_are more) (b.none more) (b.place_is more)

  -- all events were served, and nothing is left
  ends_by : {T : Type 0} (said : Result T TrafficError) → IsAtEnd s.left → events ≡ recorded u.fed → Finishes said place rest → DoesLeft (ending_of said) r s (replayed X m policy before)
  ends_by (Ok done) end all f = record {
    text = u.fed;
    was_left = all_read r.left s.left u.fed u.was_read end;
    does = subst (λ (d : Due). Does {T = Unit {0}} (Ok tt) r s d)
        (as_due (served X m policy before events) (served X m policy before (recorded u.fed)) None (ending_in u.fed)
        (ap (served X m policy before) all) (whole_ending (is_recording u.fed) (place_of u.fed) (whole_again events u.fed (f u.fed events u.reads)).0)) u.did;
  }
  ends_by (Err (error.Damaged at)) end all f =
      let damage = f.1 u.fed events u.reads all in
      damaged u.fed at (all_read r.left s.left u.fed u.was_read end) all damage.0 damage.1
  ends_by (Err error.Memory) end all f = absurd f

-- whether there was one more piece
pub was_more : (A B : Type 0) (more : Bool) → more ≡ true → MatchBool more A B → A
was_more A B true is fed = fed
was_more A B false is fed = absurd (let no : false ≡ true = is in cc)

pub was_none : (A B : Type 0) (more : Bool) → more ≡ false → MatchBool more A B → B
was_none A B true is fed = absurd (let no : true ≡ false = is in cc)
was_none A B false is fed = fed

-- ---- the turns of the loop, by what the reader gave, with what it had before

-- where no server was made
pub stops_at_first : (X : Extra) (m : Signing) (policy : Policy) (before : List Event) (s : Seen) {T : Type 0} {result : Result T Stop} → result ≡ Err Memory → DoesLeft result s s (replayed X m policy before)
stops_at_first X m policy before s is = stops_short (begins_reading X m policy before s nothing_fed) is

module _ {X : Extra} {m : Signing} {policy : Policy} {before events : List Event} {r s : Seen} (old : Unread) (u : Underway X m policy before r s events old.place old.rest) where
  -- an event
  module _ (e : Event) (next : Unread) (n : IsNext (Ok (Some e)) old next) where
    pub fits_next : Fits e
    fits_next = last_fits u.fed events e next.place next.rest (n.2 u.fed events u.reads)

    module _ {t : Seen} {S : Type 0} where
      pub goes_on : (value : S) → t.left ≡ s.left → Does {T = S} (Ok value) s t (written (served_one X m policy before events e)) → Underway X m policy before r t (events ++ e ∷ []) next.place next.rest
      goes_on value same q = goes_on_event u e (n.2 u.fed events u.reads) value same q

      pub stops_in : {T : Type 0} (stop : Stop) {result : Result T Stop} → result ≡ Err stop → Does {T = S} (Err stop) s t (written (served_one X m policy before events e)) → DoesLeft result r t (replayed X m policy before)
      stops_in stop is q = stops_in_event u e (n.2 u.fed events u.reads) stop is q

  -- no event, and a piece that was read
  module _ {t : Seen} where
    pub stops_reading : {S T : Type 0} (stop : Stop) {result : Result T Stop} → result ≡ Err stop → Does {T = S} (Err stop) s t (written []) → DoesLeft result r t (replayed X m policy before)
    stops_reading stop is q = stops_there u (λ next. does_first stop (written []) next q is)

    module _ {S : Type 0} (value : S) (q : Does {T = S} (Ok value) s t (written [])) (piece : List ℕ) (was_read : Consumes s.left t.left piece) where
      pub goes_on_reading : (next new : Unread) → next ≡ old → new ≡ fed_to next piece → Underway X m policy before r t events new.place new.rest
      goes_on_reading next new same fed = rw (fed, same) (goes_on_piece u value q piece was_read)

      pub ends_at_last : {T : Type 0} (said : Result T TrafficError) (next new : Unread) → IsNext (Ok None) old next → (piece ≡ []) × (new ≡ next) × IsAtEnd t.left → Finishes said new.place new.rest → DoesLeft (ending_of said) r t (replayed X m policy before)
      unfolding goes_on_none
      ends_at_last said next new n f h =
          let u' = goes_on_none u value q (subst (λ (l : List ℕ). Consumes s.left t.left l) f.0 was_read) in
          ends_by u' said f.2 (n.3 u.fed events u.reads) (subst (λ (x : Unread). Finishes said x.place x.rest) (f.1 ∙ n.1) h)

  -- damage, or no memory for an event
  pub ends_early : (cause : TrafficError) (next : Unread) → IsNext (Err cause) old next → DoesLeft (ending_of {T = Unit {0}} (Err cause)) r s (replayed X m policy before)
  ends_early (error.Damaged at) next n = breaks u (n.2 u.fed events u.reads)
  ends_early error.Memory next n = stops_short u refl

-- ---- a piece

keeps : (left left' : Option (List ℕ)) → Keeps left left' → Consumes left left' []
keeps None left' p = tt
keeps (Some x) None p = absurd p
keeps (Some x) (Some y) p = sym p

module _ {s t : Seen} {buf : List ℕ} (old : Unread) where
  pub feeds_stop : (stop : Stop) {result : Result Bool Stop} (new : Unread) → result ≡ Err stop → ReadsPiece (Err stop) s t buf → Feeds result s t old new
  feeds_stop stop new is p = rw is (record { piece = []; was_read = keeps s.left t.left p.bytes; fed = tt; does = record { whole = p.does.whole; begun = p.does.begun; stays = p.does.stays; excused = p.does.excused } })

  module _ (count : ℕ) (p : ReadsPiece (Ok count) s t buf) where
    pub feeds_short : {result : Result Bool Stop} (new : Unread) → result ≡ Err Memory → Feeds result s t old new
    feeds_short new is = rw is (record { piece = take count buf; was_read = p.bytes.0; fed = tt; does = does_then count (written []) (written []) p.does (does_short t (written []) refl) })

    pub feeds_none : (new : Unread) → count ≡ 0 → 0 < length buf → new ≡ old → Feeds (Ok false) s t old new
    feeds_none new none some same = record { piece = take count buf; was_read = p.bytes.0; fed = (ap (λ (n : ℕ). take n buf) none, same, p.bytes.1 none some); does = as_value count false p.does }

    pub feeds_one : (new : Unread) → 0 < length (take count buf) → new ≡ fed_to old (take count buf) → Feeds (Ok true) s t old new
    feeds_one new some is = record { piece = take count buf; was_read = p.bytes.0; fed = (some, is); does = as_value count true p.does }
