-- Recordings: 8 bytes, and then events, each a head of 24 bytes and a record. All numbers are big-endian, and nothing is padded.
use Rattle.std.specs.Prelude.{◌≡◌, ◌+◌, ℕ, List, ◌++◌, length, codes}
use Rattle.lnfs_types.specs.declared.limits.TheConstants.{RECORD_LIMIT}
use Rattle.lnfs_types.specs.declared.event.Event.{Event}
use Rattle.lnfs_types.specs.Moments.{is_moment}
use Rattle.lnfs_xdr.specs.Format.{Format, Word, Long, Count, Raw, Outside, Done, ◌>>=◌, when◌then◌else◌, times, Spells}

-- class, link, seconds, nanoseconds, length, record; the format is left where the moment is none
unfoldable pub event : Format (Unit {0}) Event
event = do
  class ← Word
  link ← Word
  secs ← Long
  nanos ← Word
  when is_moment secs nanos then (do
    size ← Count RECORD_LIMIT
    message ← Raw size
    Done (record { class = class; link = link; moment = record { secs = secs; nanos = nanos }; message = message }))
      else Outside tt

-- the most bytes of an event
abbrev pub event_limit : ℕ
event_limit = RECORD_LIMIT + 24

-- what a recording begins with
abbrev pub beginning : List ℕ
beginning = codes "LNFSTRC1"

-- The bytes are the recording of the events.
pub record IsRecording (events : List Event) (bytes : List ℕ) : Type 0 where
  pub body : List ℕ
  pub begun : bytes ≡ beginning ++ body
  pub spelled : Spells (times (length events) event) events body
