use Rattle.lnfs_workers.proofs.Pairs.{each_push}
use Rattle.lnfs_workers.proofs.pool.gathered.Goals as goal

pub loop-one-preserved : goal.loop-one-preserved
loop-one-preserved g c =
    rw c.in_ok-push_back.ensures.items (each_push _ c.loop-one.yielded c.loop-one.all.items c.in-Some.one c.in_ok-value.value c.loop-one.invariant c.in_ok-value.was)
