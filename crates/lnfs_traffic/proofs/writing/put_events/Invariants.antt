use Rattle.std.proofs.Common.{◌≡◌, ◌≤◌, ◌<◌, ◌^◌, take}
use Rattle.std.specs.List.{flat_map}
use Rattle.std.specs.Io.KnownBytes.{Appends}
use Rattle.lnfs_traffic.specs.Recording.{IsRecording}
use Rattle.lnfs_traffic.specs.Texts.{event_text, recording_text}
use Rattle.lnfs_traffic.proofs.writing.put_events.Given as goal

-- the events so far were taken
abbrev pub invariant-loop-event : goal.invariant-loop-event
invariant-loop-event g l = record {
  taken : Appends (g.K.Sink.taken l.initial.sink) (g.K.Sink.taken l.sink) (flat_map event_text (take l.event-index l.events));
  spelled : IsRecording (take l.event-index l.events) (recording_text (take l.event-index l.events));
  later : g.K.Sink.write_faults l.initial.sink ≤ g.K.Sink.write_faults l.sink;
  within : g.K.Sink.write_faults l.initial.sink < 2 ^ 64 → g.K.Sink.write_faults l.sink < 2 ^ 64;
  beside : g.K.Sink.beside_sink l.sink ≡ g.K.Sink.beside_sink l.initial.sink;
}
