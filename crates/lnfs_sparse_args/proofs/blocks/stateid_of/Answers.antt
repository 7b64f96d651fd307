use Rattle.lnfs_sparse_args.proofs.StateIds.{taken}
use Rattle.lnfs_sparse_args.proofs.blocks.stateid_of.Goals as goal

pub returns : goal.returns
returns c = taken c.state_id_of.result c.args.reader.now c.state_id_of.new.reader c.state_id_of.ensures
