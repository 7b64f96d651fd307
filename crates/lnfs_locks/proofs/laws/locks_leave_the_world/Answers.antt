use Rattle.lnfs_operations.specs.Extra.{place_at}
use Rattle.lnfs_locks.specs.Locks.{locks_of}
use Rattle.lnfs_locks.specs.Outcome.{answered}
use Rattle.lnfs_locks.proofs.Conclusions.{world_stays, current_stays, saved_stays}
use Rattle.lnfs_locks.proofs.laws.locks_leave_the_world.Goals as goal

pub returns : goal.returns
returns c = record {
  world = λ site number arguments at a. world_stays (answered site number arguments (locks_of a.own) (place_at at) a.world) at a;
  current = λ site number arguments at a. current_stays (answered site number arguments (locks_of a.own) (place_at at) a.world) at a;
  saved = λ site number arguments at a. saved_stays (answered site number arguments (locks_of a.own) (place_at at) a.world) at a;
}
