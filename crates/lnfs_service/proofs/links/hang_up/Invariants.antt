use Rattle.std.proofs.Common.{◌≡◌, length}
use Rattle.lnfs_workers.specs.Served.{telling}
use Rattle.lnfs_service.specs.Links.{Owes}
use Rattle.lnfs_service.specs.Serves.{Remains}
use Rattle.lnfs_service.proofs.Dealing.{Done}
use Rattle.lnfs_service.proofs.links.hang_up.Given as goal

-- the links that were handed back, and those that are left
abbrev pub invariant-loop-end : goal.invariant-loop-end
invariant-loop-end g l = record {
  done : Done (λ end. telling g.N.L.Source.left g.N.L.Sink.taken g.N.L.Source.read_faults g.N.L.Sink.write_faults end.link) l.fn.ends.items (g.N.Net.backs l.initial.net) l.left.items (g.N.Net.backs l.net);
  dealt : g.N.Net.dealt l.net ≡ g.N.Net.dealt l.initial.net;
  owes : Owes (length l.left.items) (g.N.Net.dealt l.net) (g.N.Net.backs l.net);
  later : Remains (g.N.Net.faults l.initial.net) (g.N.Net.faults l.net);
}

abbrev pub decreases-loop-end : goal.decreases-loop-end
decreases-loop-end g l = length l.left.items
