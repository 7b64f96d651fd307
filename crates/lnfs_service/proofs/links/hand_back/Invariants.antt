use Rattle.std.proofs.Common.{◌≡◌, length}
use Rattle.lnfs_workers.specs.Served.{telling}
use Rattle.lnfs_service.specs.Links.{Owes}
use Rattle.lnfs_service.specs.Serves.{Remains}
use Rattle.lnfs_service.proofs.Dealing.{Done}
use Rattle.lnfs_service.proofs.links.hand_back.Given as goal

-- the links that were handed back, and those that are left
abbrev pub invariant-loop-link : goal.invariant-loop-link
invariant-loop-link g l = record {
  done : Done (λ link. telling g.N.L.Source.left g.N.L.Sink.taken g.N.L.Source.read_faults g.N.L.Sink.write_faults link.1) l.fn.links.items (g.N.Net.backs l.initial.net) l.left.items (g.N.Net.backs l.net);
  dealt : g.N.Net.dealt l.net ≡ g.N.Net.dealt l.initial.net;
  owes : Owes (length l.left.items) (g.N.Net.dealt l.net) (g.N.Net.backs l.net);
  later : Remains (g.N.Net.faults l.initial.net) (g.N.Net.faults l.net);
}

abbrev pub decreases-loop-link : goal.decreases-loop-link
decreases-loop-link g l = length l.left.items
