use Rattle.lnfs_workers.proofs.Pairs.{each_push}
use Rattle.lnfs_workers.proofs.link.serve_links.Goals as goal

pub loop-one-preserved : goal.loop-one-preserved
loop-one-preserved g c =
    let served = c.serve_link-end.ensures in
    rw c.in_ok-push_back.ensures.items (each_push _ c.loop-one.yielded c.loop-one.done.items c.in-Some.one c.serve_link-end.result c.loop-one.invariant (served.number, served.served))
