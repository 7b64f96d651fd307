-- A recording that comes in pieces.
use Rattle.std.specs.Prelude.{◌≡◌, ◌≤◌, ◌<◌, ◌+◌, ℕ, false, cond, nat_eq, List, [], ◌∷◌, ◌++◌, length, drop, take, Result, Ok, Err}
use Rattle.std.specs.Str.{bytes_eq}
use Rattle.std.specs.declared.option.Option.{Option}
use Rattle.std.specs.declared.option.Option.TheVariants.{Some, None}
use Rattle.lnfs_types.specs.declared.event.Event.{Event}
use Rattle.lnfs_xdr.specs.Format.{Spells}
use Rattle.lnfs_xdr.specs.Reading.{read}
use Rattle.lnfs_traffic.specs.Recording.{event, event_limit, beginning, IsRecording}
use Rattle.lnfs_traffic.specs.Parts.{begins, recorded, is_recording, place_of}
use Rattle.lnfs_traffic.specs.declared.error.TrafficError.{TrafficError}
use Rattle.lnfs_traffic.specs.declared.error.TrafficError.TheVariants.{Damaged, Memory}
use Rattle.lnfs_traffic.specs.declared.events.Front.{Front}
use Rattle.lnfs_traffic.specs.declared.events.Front.TheVariants as fronts
use Rattle.lnfs_traffic.specs.declared.pieces.Found.{Found}
use Rattle.lnfs_traffic.specs.declared.pieces.Found.TheVariants as founds
use Rattle.lnfs_traffic.specs.Stages.{Stage, Whole, Part, Damage, stage_of}

-- The bytes that belong to no event given so far, and how many stand before them: none up to the first event. `held` of the bytes are kept.
pub record Unread : Type 0 where
  pub place : ℕ
  pub rest : List ℕ
  pub held : ℕ

-- more bytes were fed; of those before, only what is unread is kept
abbrev pub fed_to : Unread → List ℕ → Unread
fed_to u piece = record { place = u.place; rest = u.rest ++ piece; held = length (u.rest ++ piece) }

-- how a recording goes on that begins with these bytes
abbrev pub first_stage : List ℕ → Stage
first_stage bytes = cond (begins bytes) (stage_of (read event (drop 8 bytes))) (cond (bytes_eq bytes (take (length bytes) beginning)) Part Damage)

-- how a recording goes on behind so many bytes
abbrev pub stage : ℕ → List ℕ → Stage
stage place rest = cond (nat_eq place 0) (first_stage rest) (stage_of (read event rest))

-- where what is unread begins: behind the beginning, where that is there
abbrev pub start_of : ℕ → List ℕ → ℕ
start_of place rest = cond (nat_eq place 0) (cond (begins rest) 8 0) place

-- Of the bytes that were fed, these events were given: they are recorded in the first `place` bytes, and the rest is unread.
pub record Reads (fed : List ℕ) (events : List Event) (place : ℕ) (rest : List ℕ) : Type 0 where
  pub front : List ℕ
  pub parts : fed ≡ front ++ rest
  pub place_is : length front ≡ place
  pub none : place ≡ 0 → events ≡ []
  pub some : 0 < place → IsRecording events front

-- Whatever follows the bytes that were fed, they are no recording, and their longest front that is one is that of these events.
pub record IsBroken (fed : List ℕ) (events : List Event) (at : ℕ) : Type 0 where
  pub none : (more : List ℕ) → is_recording (fed ++ more) ≡ false
  pub events_are : (more : List ℕ) → events ≡ recorded (fed ++ more)
  pub place_is : (more : List ℕ) → at ≡ place_of (fed ++ more)

-- what `next` gives
abbrev pub IsNext : Result (Option Event) TrafficError → Unread → Unread → Type 0
IsNext (Ok (Some e)) old new =
    (stage old.place old.rest ≡ Whole) × (new.held ≡ old.held)
    × ((fed : List ℕ) (events : List Event) → Reads fed events old.place old.rest → Reads fed (events ++ e ∷ []) new.place new.rest)
IsNext (Ok None) old new =
    (stage old.place old.rest ≡ Part) × (new ≡ old) × (length old.rest < cond (nat_eq old.place 0) (event_limit + 8) event_limit)
    × ((fed : List ℕ) (events : List Event) → Reads fed events old.place old.rest → events ≡ recorded fed)
IsNext (Err (Damaged at)) old new =
    (stage old.place old.rest ≡ Damage) × (new ≡ old)
    × ((fed : List ℕ) (events : List Event) → Reads fed events old.place old.rest → IsBroken fed events at)
IsNext (Err Memory) old new = (stage old.place old.rest ≡ Whole) × (new ≡ old)

-- What `finish` answers. It refuses where bytes are left over, or the beginning isn't there.
abbrev pub Finishes : {T : Type 0} → Result T TrafficError → ℕ → List ℕ → Type 0
Finishes (Ok x) place rest = (fed : List ℕ) (events : List Event) → Reads fed events place rest → IsRecording events fed
Finishes (Err (Damaged at)) place rest =
    (at ≡ start_of place rest)
    × ((fed : List ℕ) (events : List Event) → Reads fed events place rest → events ≡ recorded fed → (is_recording fed ≡ false) × (at ≡ place_of fed))
Finishes (Err Memory) place rest = ⊥

-- ---- inside

-- what stands at the front of bytes
abbrev pub Stands : Front → List ℕ → Type 0
Stands (fronts.Whole e size) bytes = (stage_of (read event bytes) ≡ Whole) × Spells event e (take size bytes) × (size ≤ length bytes) × (0 < size)
Stands fronts.Part bytes = (stage_of (read event bytes) ≡ Part) × (length bytes < event_limit)
Stands fronts.Damage bytes = stage_of (read event bytes) ≡ Damage

-- how a recording goes on behind so many bytes, and what that comes to
abbrev pub Finds : Found → ℕ → List ℕ → Type 0
Finds (founds.Whole e size) place rest =
    (stage place rest ≡ Whole) × (size ≤ length rest)
    × ((fed : List ℕ) (events : List Event) → Reads fed events place rest → Reads fed (events ++ e ∷ []) (place + size) (drop size rest))
Finds founds.Part place rest =
    (stage place rest ≡ Part) × (length rest < cond (nat_eq place 0) (event_limit + 8) event_limit)
    × ((fed : List ℕ) (events : List Event) → Reads fed events place rest → events ≡ recorded fed)
Finds (founds.Damage at) place rest =
    (stage place rest ≡ Damage)
    × ((fed : List ℕ) (events : List Event) → Reads fed events place rest → IsBroken fed events at)
