use Rattle.std.proofs.Common.{arith}
use Rattle.lnfs_layout.proofs.lasts.are_longs.Goals as goal

pub returns : goal.returns
returns c = λ i. omega (arith, c.type_inv._numbers i)
