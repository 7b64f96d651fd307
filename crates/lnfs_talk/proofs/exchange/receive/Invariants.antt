use Rattle.std.proofs.Common.{◌≡◌, ◌≤◌}
use Rattle.lnfs_talk.proofs.Exchanging.{Waits}
use Rattle.lnfs_talk.proofs.exchange.receive.Given as goal

abbrev pub invariant-loop : goal.invariant-loop
invariant-loop g l = record {
  waits : Waits (g.L.Source.left l.fn.link) (g.L.Source.left l.link) l.fn.incoming l.incoming;
  later : g.L.Source.read_faults l.fn.link ≤ g.L.Source.read_faults l.link;
  taken : g.L.Sink.taken l.link ≡ g.L.Sink.taken l.fn.link;
  write_faults : g.L.Sink.write_faults l.link ≡ g.L.Sink.write_faults l.fn.link;
}
