use Rattle.std.proofs.Common.{◌≡◌}
use Rattle.lnfs_service.specs.Serves.{Remains}
use Rattle.lnfs_service.proofs.links.listen.Given as goal

abbrev pub invariant-loop-class : goal.invariant-loop-class
invariant-loop-class g l =
    (g.N.Net.dealt l.net ≡ g.N.Net.dealt l.initial.net)
    × (g.N.Net.backs l.net ≡ g.N.Net.backs l.initial.net)
    × Remains (g.N.Net.faults l.initial.net) (g.N.Net.faults l.net)
