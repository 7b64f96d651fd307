use Rattle.std.proofs.Common.{arith}
use Rattle.lnfs_nodes.proofs.given.law_bytes.Goals as goal

pub returns : goal.returns
returns c = λ i. omega (arith, c.type_inv._bytes i)
