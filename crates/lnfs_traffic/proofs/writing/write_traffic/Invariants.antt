use Rattle.std.proofs.Common.{◌≡◌, ◌++◌, take}
use Rattle.std.specs.List.{flat_map}
use Rattle.lnfs_traffic.specs.Recording.{beginning, IsRecording}
use Rattle.lnfs_traffic.specs.Texts.{event_text}
use Rattle.lnfs_traffic.proofs.writing.write_traffic.Given as goal

abbrev pub invariant-loop-event : goal.invariant-loop-event
invariant-loop-event l =
    (l.bytes.items ≡ beginning ++ flat_map event_text (take l.event-index l.events))
    × IsRecording (take l.event-index l.events) l.bytes.items
