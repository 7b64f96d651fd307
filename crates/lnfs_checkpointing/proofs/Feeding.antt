-- A recording in memory that is served while it is fed.
use Rattle.std.proofs.Common.{◌≡◌, ◌≤◌, ◌<◌, ◌+◌, ◌*◌, ◌^◌, ℕ, false, List, [], ◌∷◌, ◌++◌, length, take, drop, refl, sym, ap, ◌∙◌, subst, arith, append-nil}
use Rattle.std.specs.Prelude.{Result, Ok, Err}
use Rattle.std.specs.declared.option.Option.TheVariants.{Some, None}
use Rattle.std.proofs.lemmas.List.{length-take-le, take-append-drop, take_all}
use Rattle.lnfs_types.specs.declared.event.Event.{Event}
use Rattle.lnfs_types.specs.Moments.{Fits}
use Rattle.lnfs_step.specs.Journal.{state_from}
use Rattle.lnfs_gss3.specs.Mechanism.{keyed_digest}
use Rattle.lnfs_traffic.specs.Parts.{recorded, is_recording, place_of}
use Rattle.lnfs_traffic.specs.Pieces.{Unread, Reads, IsNext, Finishes, fed_to}
use Rattle.lnfs_traffic.specs.declared.error.TrafficError.{TrafficError}
use Rattle.lnfs_traffic.specs.declared.error.TrafficError.TheVariants as error
use Rattle.lnfs_traffic.proofs.Fed.{more_fed}
use Rattle.lnfs_traffic.proofs.Whole.{whole_again}
use Rattle.lnfs_layout.specs.declared.numbers.TheConstants.{MOST_EVENTS}
use Rattle.lnfs_stage.specs.declared.ending.Ending.TheVariants.{TrafficDamaged}
use Rattle.lnfs_stage.specs.declared.stop.Stop.{Stop}
use Rattle.lnfs_stage.specs.declared.stop.Stop.TheVariants.{Ends, Memory}
use Rattle.lnfs_stage.specs.Seen.{Seen}
use Rattle.lnfs_stage.specs.Writes.{Write}
use Rattle.lnfs_stage.specs.Due.{Due, written, ends, and_then}
use Rattle.lnfs_stage.specs.Does.{Does}
use Rattle.lnfs_stage.proofs.Doing.{does_nothing, does_end, does_short, does_first, does_then, as_value}
use Rattle.lnfs_commands.specs.Replays.{ending_of}
use Rattle.lnfs_further.specs.Further.{further}
use Rattle.lnfs_commands.proofs.Replaying.{Firsts, firsts, last_fits, whole_ending, damaged_ending, as_due, due_of}
use Rattle.lnfs_checkpoint.specs.Resumed.{Resumed, Got, got_from, state_of}
use Rattle.lnfs_checkpointing.specs.Checkpoints.{served, writes_of, ending_after}
use Rattle.lnfs_checkpointing.specs.Servings.{got_of, IsBehind, IsFedOn}
use Rattle.lnfs_checkpointing.proofs.Served.{written_of, written_join, written_more, next_got, behind_none, behind_more}
use Rattle.lnfs_checkpointing.proofs.Bounds.{reads_long}

-- The events that were given so far, of what was fed so far; what was done of what they are due; and the server behind them.
pub record Underway (each : Got → List Write) (old : Resumed) (traffic : List ℕ) (s t : Seen) (now : Resumed) (fed : ℕ) (reader : Unread) : Type 0 where
  pub events : List Event
  pub within : fed ≤ length traffic
  pub reads : Reads (take fed traffic) events reader.place reader.rest
  pub did : Does {T = Unit {0}} (Ok tt) s t (written (written_of each old.policy old.events (state_of old.world old.locks) events))
  pub behind : IsBehind old now events

-- what is due of all of it
abbrev pub all_of : (each : Got → List Write) → Resumed → (traffic : List ℕ) → Due
all_of each old traffic = served each old.policy old.events (state_of old.world old.locks) traffic

pub begins : (each : Got → List Write) (old : Resumed) (traffic : List ℕ) (s : Seen) (reader : Unread) → Reads [] [] reader.place reader.rest → Underway each old traffic s s old 0 reader
unfolding writes_of got_from
begins each old traffic s reader r = record { events = []; within = omega arith; reads = r; did = does_nothing tt s; behind = behind_none old }

-- so many events fit
few_events : (before n fed all : ℕ) → before ≤ MOST_EVENTS → 24 * n ≤ fed → fed ≤ all → all < 2 ^ 64 → before + n < 2 ^ 63
few_events before n fed all a b c d = omega (arith, a, b, c, d)

few_recorded : (n fed all : ℕ) → 24 * n ≤ fed → fed ≤ all → all < 2 ^ 64 → n < 2 ^ 60
few_recorded n fed all b c d = omega (arith, b, c, d)

fed_within : (fed : ℕ) (traffic : List ℕ) → fed ≤ length traffic → length (take fed traffic) ≤ length traffic
fed_within fed traffic p = let e = length-take-le fed traffic p in omega (arith, e, p)

module _ (each : Got → List Write) (old : Resumed) (traffic : List ℕ) {s t : Seen} {now : Resumed} {fed : ℕ} (reader : Unread) (u : Underway each old traffic s t now fed reader) where
  -- what was done is the first of all, and what is due next
  done_first : {T : Type 0} {result : Result T Stop} {r : Seen} (events : List Event) (place : ℕ) (rest : List ℕ) → Reads (take fed traffic) events place rest
      → ((next : Due) → Does result s r (and_then (written (written_of each old.policy old.events (state_of old.world old.locks) events)) next)) → Does result s r (all_of each old traffic)
  done_first {T} {result} {r} events place rest reads q =
      let f : Firsts events traffic = subst (λ (l : List ℕ). Firsts events l) (take-append-drop fed traffic) (firsts (take fed traffic) events place rest (drop fed traffic) reads) in
      let others : List Write = written_of each old.policy (old.events + length events) (state_from further keyed_digest old.policy (state_of old.world old.locks) events) f.others in
      let all : written_of each old.policy old.events (state_of old.world old.locks) (recorded traffic) ≡ written_of each old.policy old.events (state_of old.world old.locks) events ++ others =
      ap (written_of each old.policy old.events (state_of old.world old.locks)) f.are ∙ written_join each old.policy old.events (state_of old.world old.locks) events f.others in
      subst (λ (l : List Write). Does result s r (due_of l (ending_after traffic))) (sym all) (q (due_of others (ending_after traffic)))

  pub stops_short : {T : Type 0} {result : Result T Stop} → result ≡ Err Memory → Does result s t (all_of each old traffic)
  stops_short is = done_first u.events reader.place reader.rest u.reads (λ next. does_then tt (written (written_of each old.policy old.events (state_of old.world old.locks) u.events)) next u.did (does_short t next is))

  pub server_few : old.events ≤ MOST_EVENTS → length traffic < 2 ^ 64 → now.events < 2 ^ 63
  server_few few fits = subst (λ (n : ℕ). n < 2 ^ 63) (sym u.behind.count) (few_events old.events (length u.events) (length (take fed traffic)) (length traffic) few (reads_long (take fed traffic) u.events reader.place reader.rest u.reads) (fed_within fed traffic u.within) fits)

  -- ---- one more event

  module _ (e : Event) (next : Unread) (n : IsNext (Ok (Some e)) reader next) where
    reads_next : Reads (take fed traffic) (u.events ++ e ∷ []) next.place next.rest
    reads_next = n.2 (take fed traffic) u.events u.reads

    pub fits_next : Fits e
    fits_next = last_fits (take fed traffic) u.events e next.place next.rest reads_next

    one_more : {T : Type 0} {result : Result T Stop} {r : Seen} → Does result t r (written (each (got_of now e))) → Does result s r (written (written_of each old.policy old.events (state_of old.world old.locks) (u.events ++ e ∷ [])))
    one_more {T} {result} {r} q =
        let ws : List Write = written_of each old.policy old.events (state_of old.world old.locks) u.events in
        let more : written_of each old.policy old.events (state_of old.world old.locks) (u.events ++ e ∷ []) ≡ ws ++ each (got_of now e) =
        written_more each old.policy old.events (state_of old.world old.locks) u.events e ∙ ap (λ (g : Got). ws ++ each g) (sym (next_got old now u.events e u.behind)) in
        subst (λ (l : List Write). Does result s r (written l)) (sym more) (does_then tt (written ws) (written (each (got_of now e))) u.did q)

    module _ {r : Seen} {S : Type 0} where
      pub goes_on : (value : S) (new : Resumed) → Does {T = S} (Ok value) t r (written (each (got_of now e))) → IsBehind now new (e ∷ []) → Underway each old traffic s r new fed next
      goes_on value new q b = record {
        events = u.events ++ e ∷ [];
        within = u.within;
        reads = reads_next;
        did = one_more (as_value value tt q);
        behind = behind_more old now new u.events e u.behind b;
      }

      pub stops_in : {T : Type 0} (stop : Stop) {result : Result T Stop} → result ≡ Err stop → Does {T = S} (Err stop) t r (written (each (got_of now e))) → Does result s r (all_of each old traffic)
      stops_in stop is q = done_first (u.events ++ e ∷ []) next.place next.rest reads_next (λ due. does_first stop (written (written_of each old.policy old.events (state_of old.world old.locks) (u.events ++ e ∷ []))) due (one_more q) is)

  -- ---- no event, and a piece that was fed

  pub goes_on_fed : (more : ℕ) (next new : Unread) → next ≡ reader → IsFedOn traffic fed more next new → Underway each old traffic s t now more new
  goes_on_fed more next new same f = record {
    events = u.events;
    within = f.within;
    reads = subst (λ (x : Unread). Reads (take more traffic) u.events x.place x.rest) (sym (f.reader ∙ ap (λ (x : Unread). fed_to x f.piece) same))
        (subst (λ (l : List ℕ). Reads l u.events reader.place (reader.rest ++ f.piece)) (sym f.parts) (more_fed (take fed traffic) u.events reader.place reader.rest f.piece u.reads));
    did = u.did;
    behind = u.behind;
  }

  -- ---- the end

  -- it ends with the events that were served, by a damage
  damaged : (at : ℕ) → u.events ≡ recorded traffic → is_recording traffic ≡ false → at ≡ place_of traffic → Does {T = Unit {0}} (Err (Ends (TrafficDamaged at))) s t (all_of each old traffic)
  damaged at all none place_is =
      let ws : List Write = written_of each old.policy old.events (state_of old.world old.locks) u.events in
      let does : Does {T = Unit {0}} (Err (Ends (TrafficDamaged at))) s t (due_of (ws ++ []) (Some (TrafficDamaged at))) =
      does_then tt (written ws) (ends (TrafficDamaged at)) u.did (does_end (TrafficDamaged at) t refl) in
      subst (λ (d : Due). Does {T = Unit {0}} (Err (Ends (TrafficDamaged at))) s t d)
      (as_due (ws ++ []) (written_of each old.policy old.events (state_of old.world old.locks) (recorded traffic)) (Some (TrafficDamaged at)) (ending_after traffic)
      (append-nil ws ∙ ap (written_of each old.policy old.events (state_of old.world old.locks)) all) (damaged_ending (is_recording traffic) at (place_of traffic) none place_is)) does

  -- damage, or no memory for an event
  pub ends_early : (cause : TrafficError) (next : Unread) → IsNext (Err cause) reader next → Does (ending_of {T = Unit {0}} (Err cause)) s t (all_of each old traffic)
  ends_early (error.Damaged at) next n =
      let b = n.2 (take fed traffic) u.events u.reads in
      let whole = take-append-drop fed traffic in
      damaged at (subst (λ (l : List ℕ). u.events ≡ recorded l) whole (b.events_are (drop fed traffic))) (subst (λ (l : List ℕ). is_recording l ≡ false) whole (b.none (drop fed traffic))) (subst (λ (l : List ℕ). at ≡ place_of l) whole (b.place_is (drop fed traffic)))
  ends_early error.Memory next n = stops_short refl

  -- all was fed
  module _ (next : Unread) (n : IsNext (Ok None) reader next) (last : fed ≡ length traffic) where
    all_fed : take fed traffic ≡ traffic
    all_fed = take_all fed traffic (omega (arith, last))

    all_given : u.events ≡ recorded traffic
    all_given = subst (λ (l : List ℕ). u.events ≡ recorded l) all_fed (n.3 (take fed traffic) u.events u.reads)

    reads_all : Reads traffic u.events next.place next.rest
    reads_all = subst (λ (x : Unread). Reads traffic u.events x.place x.rest) (sym n.1) (subst (λ (l : List ℕ). Reads l u.events reader.place reader.rest) all_fed u.reads)

    pub ends_by : {T : Type 0} (said : Result T TrafficError) → Finishes said next.place next.rest → Does (ending_of said) s t (all_of each old traffic)
    ends_by (Ok done) f =
        subst (λ (d : Due). Does {T = Unit {0}} (Ok tt) s t d)
        (as_due (written_of each old.policy old.events (state_of old.world old.locks) u.events) (written_of each old.policy old.events (state_of old.world old.locks) (recorded traffic)) None (ending_after traffic)
        (ap (written_of each old.policy old.events (state_of old.world old.locks)) all_given) (whole_ending (is_recording traffic) (place_of traffic) (whole_again u.events traffic (f traffic u.events reads_all)).0)) u.did
    ends_by (Err (error.Damaged at)) f = let damage = f.1 traffic u.events reads_all all_given in damaged at all_given damage.0 damage.1
    ends_by (Err error.Memory) f = absurd f

    pub ends_behind : IsBehind old now (recorded traffic)
    ends_behind = subst (λ (es : List Event). IsBehind old now es) all_given u.behind

    pub ends_few : length traffic < 2 ^ 64 → length (recorded traffic) < 2 ^ 60
    ends_few fits = subst (λ (es : List Event). length es < 2 ^ 60) all_given (few_recorded (length u.events) (length (take fed traffic)) (length traffic) (reads_long (take fed traffic) u.events reader.place reader.rest u.reads) (fed_within fed traffic u.within) fits)
