use Rattle.std.proofs.Common.{arith}
use Rattle.lnfs_xdr.proofs.Fields.{IsBytes}
use Rattle.lnfs_traffic.proofs.Whole.{front_recording, no_longer, whole_again, whole_found}
use Rattle.lnfs_traffic.proofs.laws.recordings.Goals as goal

pub returns : goal.returns
returns c =
    let bytes = c.args.bytes.now in
    let fits : IsBytes bytes = λ i. omega (arith, c.type_inv.bytes i) in
    record {
      whole = λ events. (whole_again events bytes, whole_found events bytes fits);
      front = front_recording bytes fits;
      longest = λ events front rest. no_longer events bytes front rest fits;
    }
