use Rattle.lnfs_workers.specs.Served.{telling}
use Rattle.lnfs_workers.specs.Links.{IsDone}
use Rattle.lnfs_workers.specs.Pairs.{Each}
use Rattle.lnfs_workers.proofs.link.serve_links.Given as goal

abbrev pub invariant-loop-one : goal.invariant-loop-one
invariant-loop-one g l = Each (IsDone (telling g.L.Source.left g.L.Sink.taken g.L.Source.read_faults g.L.Sink.write_faults) (g.C.Clock.may l.fn.shared.clock.now)) l.yielded l.done.items
