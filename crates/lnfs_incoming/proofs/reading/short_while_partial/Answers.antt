use Rattle.std.proofs.Common.{arith}
use Rattle.lnfs_xdr.proofs.Fields.{IsBytes}
use Rattle.lnfs_incoming.proofs.Partial.{partial_short}
use Rattle.lnfs_incoming.proofs.reading.short_while_partial.Goals as goal

pub returns : goal.returns
returns c =
    let bytes = c.args.bytes.now in
    let fits : IsBytes bytes = λ i. omega (arith, c.type_inv.bytes i) in
    λ p. partial_short bytes fits p
