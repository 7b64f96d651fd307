use Rattle.std.proofs.Common.{arith}
use Rattle.lnfs_checkpointing.proofs.saving.put_checkpoint.Goals as goal

pub returns-clause-bytes : goal.returns-clause-bytes
returns-clause-bytes g c = λ i. omega (arith, c.type_inv.bytes i)
