-- The arguments and what SEEK tells as the code has them, and what they stand for.
use Rattle.lnfs_sparse_ops.specs.Arguments as args
use Rattle.lnfs_sparse_ops.specs.Seek as seeking
use Rattle.lnfs_sparse_args.specs.declared.results.Sought.{Sought}
use Rattle.lnfs_sparse_args.specs.declared.values.RegionArgs.{RegionArgs}
use Rattle.lnfs_sparse_args.specs.declared.values.SeekArgs.{SeekArgs}
use Rattle.lnfs_sparse_args.specs.declared.values.CloneArgs.{CloneArgs}

abbrev pub region_args_of : RegionArgs → args.RegionArgs
region_args_of a = record { id = a.id; offset = a.offset; length = a.length }

abbrev pub seek_args_of : SeekArgs → args.SeekArgs
seek_args_of a = record { id = a.id; offset = a.offset; what = a.what }

abbrev pub clone_args_of : CloneArgs → args.CloneArgs
clone_args_of a = record { source = a.source; target = a.target; from = a.from; to = a.to; count = a.count }

abbrev pub sought_of : Sought → seeking.Sought
sought_of s = record { eof = s.eof; offset = s.offset }
