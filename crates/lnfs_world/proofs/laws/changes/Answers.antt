use Rattle.lnfs_world.proofs.Within.{within}
use Rattle.lnfs_world.proofs.Determined.{determined}
use Rattle.lnfs_world.proofs.Unseen.{stays}
use Rattle.lnfs_world.proofs.Kept.{keeps}
use Rattle.lnfs_world.proofs.Tamed.{tamed}
use Rattle.lnfs_world.proofs.Labels.{labels_raised}
use Rattle.lnfs_world.proofs.laws.changes.Goals as goal

pub returns : goal.returns
returns c = record {
  determined = λ dom lattice level s change w above facts is. determined dom level lattice s above change w facts (within dom s change w is);
  unseen = λ dom lattice level s change w apart facts is. stays dom lattice level s apart change w facts (within dom s change w is);
  facts = λ dom lattice s change w facts is. keeps dom lattice s change w facts (within dom s change w is);
  tame = λ dom s change w is. tamed dom s change w (within dom s change w is);
  labels = λ dom lattice s change w facts is. labels_raised dom lattice s change w facts (within dom s change w is);
}
