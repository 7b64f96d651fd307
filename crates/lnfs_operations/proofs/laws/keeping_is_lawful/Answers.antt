use Rattle.lnfs_operations.proofs.KeepingLaws.{keep_result_view, keep_result_footprint, keep_created_view, keep_created_footprint}
use Rattle.lnfs_operations.proofs.laws.keeping_is_lawful.Goals as goal

pub returns : goal.returns
returns c = record {
  result_view = λ dom lattice slot sequence kept. keep_result_view dom lattice slot sequence kept;
  result_footprint = λ dom slot sequence kept. keep_result_footprint dom slot sequence kept;
  created_view = λ dom lattice client kept. keep_created_view dom lattice client kept;
  created_footprint = λ dom client kept. keep_created_footprint dom client kept;
}
