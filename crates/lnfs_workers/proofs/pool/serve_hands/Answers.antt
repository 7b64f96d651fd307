use Rattle.std.proofs.Common.{◌≡◌, [], All, Ok, IfOk, sym, subst}
use Rattle.std.proofs.lemmas.Result.{IfOk-weaker}
use Rattle.lnfs_workers.specs.Served.{telling}
use Rattle.lnfs_workers.specs.Links.{IsDone}
use Rattle.lnfs_workers.specs.Pairs.{Each}
use Rattle.lnfs_workers.proofs.Pairs.{each_all, each_through}
use Rattle.lnfs_workers.proofs.pool.serve_hands.Goals as goal

pub fan_out-requires-after_bounds : goal.fan_out-requires-after_bounds
fan_out-requires-after_bounds g c κs within =
    each_all (λ links job. job.links ≡ links) (λ links. All (λ one. one.place.entries ≡ []) links.items) (λ job. All (λ one. one.place.entries ≡ []) job.links.items)
    (λ links job same all. subst (λ l. All (λ one. one.place.entries ≡ []) l.items) (sym same) all)
    c.args.hands.items c.in_ok-jobs.jobs.items c.in_ok-jobs.ensures c.requires.entries

pub returns : goal.returns
returns g c =
    let R = IsDone {B = g.row.B.Denot} (telling g.L.Source.left g.L.Sink.taken g.L.Source.read_faults g.L.Sink.write_faults) (g.C.Clock.may c.args.shared.now.clock.now) in
    IfOk-weaker c.gathered.result _ _
    (λ all good. each_through (λ links job. job.links ≡ links) (λ job one. IfOk one (λ done. Each R job.links.items done.items)) (λ one value. one ≡ Ok value) (λ links done. Each R links.items done.items)
    (λ links job one done same served is. subst (λ l. Each R l.items done.items) same (subst (λ r. IfOk r (λ d. Each R job.links.items d.items)) is served))
    c.args.hands.items c.in_ok-jobs.jobs.items c.in_ok-served.served.items all.items c.in_ok-jobs.ensures c.in_ok-served.ensures good)
    c.gathered.ensures
