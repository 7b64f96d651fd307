-- The text of a recording.
use Rattle.std.specs.Prelude.{ℕ, List, ◌++◌, length}
use Rattle.std.specs.List.{flat_map}
use Rattle.lnfs_types.specs.declared.event.Event.{Event}
use Rattle.lnfs_xdr.specs.Canon.{word, long}
use Rattle.lnfs_traffic.specs.Recording.{beginning}

unfoldable pub event_text : Event → List ℕ
event_text e = word e.class ++ word e.link ++ long e.moment.secs ++ word e.moment.nanos ++ word (length e.message) ++ e.message

abbrev pub recording_text : List Event → List ℕ
recording_text events = beginning ++ flat_map event_text events
