use Rattle.lnfs_sparse_ops.proofs.SparseCarried.{sparse_carries}
use Rattle.lnfs_sparse_ops.proofs.SparseLaws.{sparse_is_lawful}
use Rattle.lnfs_sparse_ops.proofs.laws.sparse_files_are_lawful.Goals as goal

pub returns : goal.returns
returns c = record { laws = sparse_is_lawful; labels = sparse_carries }
