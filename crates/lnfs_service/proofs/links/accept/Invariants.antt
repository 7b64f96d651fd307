use Rattle.std.proofs.Common.{◌≡◌, ◌≤◌, length, map, take, All}
use Rattle.std.specs.Prelude.{vec_capacity}
use Rattle.lnfs_workers.specs.Served.{telling}
use Rattle.lnfs_service.specs.Handed.{Adds}
use Rattle.lnfs_service.specs.Links.{IsNew, deal_of}
use Rattle.lnfs_service.specs.Serves.{Remains}
use Rattle.lnfs_service.proofs.links.accept.Given as goal

abbrev pub invariant-loop-class : goal.invariant-loop-class
invariant-loop-class g l = record {
  all : map (λ link. link.0) l.links.items ≡ take l.class-index l.classes;
  room : length l.classes ≤ vec_capacity l.links;
  new : All (λ link. IsNew (telling g.N.L.Source.left g.N.L.Sink.taken g.N.L.Source.read_faults g.N.L.Sink.write_faults link.1)) l.links.items;
  dealt : Adds (g.N.Net.dealt l.initial.net) (g.N.Net.dealt l.net) (map (deal_of (telling g.N.L.Source.left g.N.L.Sink.taken g.N.L.Source.read_faults g.N.L.Sink.write_faults)) l.links.items);
  backs : g.N.Net.backs l.net ≡ g.N.Net.backs l.initial.net;
  later : Remains (g.N.Net.faults l.initial.net) (g.N.Net.faults l.net);
}
