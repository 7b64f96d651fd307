use Rattle.std.specs.Prelude.{length}
use Rattle.lnfs_content.specs.Sparse.{is_data, is_hole}
use Rattle.lnfs_sparse_ops.proofs.Holes.{next_is_first}
use Rattle.lnfs_sparse_ops.proofs.laws.law_holes.Goals as goal

pub returns : goal.returns
returns c = record {
  data_found = λ content from le. next_is_first (is_data content) from (length content) le;
  hole_found = λ content from le. next_is_first (is_hole content) from (length content) le;
}
