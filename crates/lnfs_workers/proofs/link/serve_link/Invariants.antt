use Rattle.std.proofs.Common.{◌≡◌, ◌≤◌, length}
use Rattle.lnfs_incoming.specs.declared.ending.TheConstants.{BUDGET}
use Rattle.lnfs_workers.specs.Served.{telling, AreOf, Going}
use Rattle.lnfs_workers.proofs.link.serve_link.Given as goal

abbrev pub invariant-loop : goal.invariant-loop
invariant-loop g l =
    let tell = telling g.L.Source.left g.L.Sink.taken g.L.Source.read_faults g.L.Sink.write_faults in
    record {
      number : l.place.link ≡ l.fn.place.link;
      count : l.records ≡ length l.place.entries;
      few : length l.place.entries ≤ BUDGET;
      events : AreOf l.fn.class (g.C.Clock.may l.fn.shared.clock.now) l.place.entries;
      going : Going (tell l.fn.link) (tell l.link) l.incoming l.place.entries;
    }
