use Rattle.std.proofs.Common.{arith}
use Rattle.lnfs_checkpoint.proofs.OneVerdict.{taken_by}
use Rattle.lnfs_checkpoint.proofs.reading.read_checkpoint.Goals as goal

pub returns-clause-only : goal.returns-clause-only
returns-clause-only g c t tells fit = taken_by c.args.policy c.args.bytes.now (λ i. omega (arith, c.type_inv.bytes i)) t tells fit c.server_of.result c.server_of.ensures.takes
