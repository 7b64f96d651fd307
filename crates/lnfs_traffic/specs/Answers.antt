-- What the calls answer.
use Rattle.std.specs.Prelude.{◌≡◌, ℕ, List, false}
use Rattle.lnfs_types.specs.declared.event.Event.{Event}
use Rattle.lnfs_traffic.specs.declared.events.Fields.{Fields}
use Rattle.lnfs_traffic.specs.declared.error.TrafficError.{TrafficError}
use Rattle.lnfs_traffic.specs.declared.error.TrafficError.TheVariants.{Damaged, Memory}
use Rattle.lnfs_traffic.specs.Parts.{is_recording, place_of}

-- the event of these fields
abbrev pub event_in : Fields → Event
event_in f = record { class = f.class; link = f.link; moment = f.moment; message = f.message.now }

-- the bytes are no recording, and this is the place of the damage
abbrev pub IsDamage : TrafficError → List ℕ → Type 0
IsDamage (Damaged at) bytes = (is_recording bytes ≡ false) × (at ≡ place_of bytes)
IsDamage Memory bytes = Unit {0}
