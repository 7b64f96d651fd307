use Rattle.std.proofs.Common.{arith}
use Rattle.lnfs_attrs.proofs.Judging.{exact}
use Rattle.lnfs_attrs.proofs.setting.list_of.Goals as goal

pub returns : goal.returns
returns c = exact c.args.mask.now c.args.bytes.now c.list_in.result (λ i. omega (arith, c.type_inv.bytes i)) c.list_in.ensures
