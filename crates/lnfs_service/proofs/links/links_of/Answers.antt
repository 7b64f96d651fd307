use Rattle.std.proofs.Common.{rules, refl}
use Rattle.lnfs_workers.specs.Served.{telling}
use Rattle.lnfs_stage.specs.declared.stop.Stop.TheVariants as stops
use Rattle.lnfs_service.proofs.Accepting.{on_stop, none_for_memory, none_for_net, some_for_net}
use Rattle.lnfs_service.proofs.links.links_of.Goals as goal

pub returns-in_err-links-clause-stopped : goal.returns-in_err-links-clause-stopped
returns-in_err-links-clause-stopped g c = on_stop c.from_residual.result _ stops.Memory (search rules) (none_for_memory c.args.classes.now _ _ stops.Memory refl)

pub returns-in_err-listen-clause-stopped : goal.returns-in_err-listen-clause-stopped
returns-in_err-listen-clause-stopped g c =
    rw (c.listen.ensures.dealt, c.listen.ensures.backs)
    (on_stop c.from_residual-in_err-listen.result _ c.in_err-listen.field-0.0 (search rules) (none_for_net _ _ _ c.in_err-listen.field-0.0 c.in_err-listen.ensures.excused.0 c.in_err-listen.ensures.some))

pub returns-in-Err-clause-stopped : goal.returns-in-Err-clause-stopped
returns-in-Err-clause-stopped g c =
    rw (c.hand_back.ensures.dealt, c.stop_listening.ensures.dealt)
    (some_for_net (telling g.N.L.Source.left g.N.L.Sink.taken g.N.L.Source.read_faults g.N.L.Sink.write_faults) c.args.classes.now c.accept-came.new.links.items c.in-Err.stop c.in-Err.ensures.excused.0 c.in-Err.ensures.some c.accept-came.ensures.new
    (rw c.listen.ensures.dealt at c.accept-came.ensures.dealt) (rw (c.stop_listening.ensures.backs, c.accept-came.ensures.backs, c.listen.ensures.backs) at c.hand_back.ensures.backs))
