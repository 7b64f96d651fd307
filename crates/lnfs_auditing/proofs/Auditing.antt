-- What is due of the files of an audit, one after another.
use Rattle.std.proofs.Common.{◌≡◌, ℕ, Bool, true, false, cond, List, [], ◌∷◌, refl, sym, ap, ◌∙◌, subst}
use Rattle.std.specs.Prelude.{Result, Ok, Err}
use Rattle.std.specs.Global.{Vec}
use Rattle.lnfs_types.specs.declared.event.Event.{Event}
use Rattle.lnfs_traffic.specs.Parts.{recorded, is_recording, place_of}
use Rattle.lnfs_stage.specs.declared.ending.Ending.TheVariants.{Usage, TrafficDamaged}
use Rattle.lnfs_stage.specs.declared.stop.Stop.{Stop}
use Rattle.lnfs_stage.specs.declared.stop.Stop.TheVariants as stops
use Rattle.lnfs_stage.specs.Seen.{Seen}
use Rattle.lnfs_stage.specs.Due.{Due, ends}
use Rattle.lnfs_stage.specs.Does.{Does}
use Rattle.lnfs_stage.specs.Contents.{Contents, Follows}
use Rattle.lnfs_stage.proofs.Doing.{does_end, does_short}
use Rattle.lnfs_stage.proofs.Reading.{follows_over}
use Rattle.lnfs_auditing.specs.Audits.{events_in, IsRead}

-- what is due is spelled otherwise
pub follows_as : {T : Type 0} {result : Result T Stop} {s t : Seen} {names : List (List ℕ)} (due other : Contents → Due) → ((files : Contents) → due files ≡ other files) → Follows result s t names due → Follows result s t names other
follows_as {T} {result} {s} {t} due other same f = record { contents = f.contents; held = f.held; does = subst (λ (d : Due). Does result s t d) (same f.contents) f.does }

-- ---- the recording

-- it is one
pub events_are : (events : Vec Event) (traffic : List ℕ) → IsRead (Ok events) traffic → (next : List Event → Due) → events_in traffic next ≡ next events.items
events_are events traffic r next = ap (λ (b : Bool). cond b (next (recorded traffic)) (ends (TrafficDamaged (place_of traffic)))) r.0 ∙ ap next (sym r.1)

-- it is none, or there was no memory
events_stop : {T : Type 0} (stop : Stop) {result : Result T Stop} (traffic : List ℕ) (s : Seen) (next : List Event → Due) → result ≡ Err stop → IsRead (Err stop) traffic → Does result s s (events_in traffic next)
events_stop stops.Memory traffic s next is r = does_short s (events_in traffic next) is
events_stop {T} (stops.Ends ending) {result} traffic s next is r =
    let due : events_in traffic next ≡ ends ending = ap (λ (b : Bool). cond b (next (recorded traffic)) (ends (TrafficDamaged (place_of traffic)))) r.0 ∙ ap ends (sym r.1) in
    subst (λ (d : Due). Does result s s d) (sym due) (does_end ending s is)
events_stop stops.ReadFault traffic s next is r = absurd r
events_stop stops.WriteFault traffic s next is r = absurd r
events_stop stops.NetFault traffic s next is r = absurd r

pub stops_at_events : {T : Type 0} (stop : Stop) {result : Result T Stop} (traffic : List ℕ) (s : Seen) (names : List (List ℕ)) (next : Contents → List Event → Due) → result ≡ Err stop → IsRead (Err stop) traffic → Follows result s s names (λ files. events_in traffic (next files))
stops_at_events stop traffic s names next is r = follows_over names (λ files. events_in traffic (next files)) (λ files. events_stop stop traffic s (next files) is r)

-- ---- the mode

pub is_permitted_due : (permitted : Bool) (due : Due) → permitted ≡ true → cond permitted due (ends Usage) ≡ due
is_permitted_due true due is = refl
is_permitted_due false due is = let h : ⊥ = cc in absurd h

pub stops_at_mode : {T : Type 0} {result : Result T Stop} (permitted : Bool) (s : Seen) (names : List (List ℕ)) (next : Contents → Due) → result ≡ Err (stops.Ends Usage) → permitted ≡ false → Follows result s s names (λ files. cond permitted (next files) (ends Usage))
stops_at_mode true s names next is denied = let h : ⊥ = cc in absurd h
stops_at_mode false s names next is denied = follows_over names (λ files. ends Usage) (λ files. does_end Usage s is)

-- ---- the finding

-- there was no memory to find one
pub found_short : {T : Type 0} (stop : Stop) {result : Result T Stop} → result ≡ Err stop → stop ≡ stops.Memory → result ≡ Err stops.Memory
found_short stop is short = is ∙ ap Err short
