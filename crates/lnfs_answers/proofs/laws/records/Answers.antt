use Rattle.std.proofs.Common.{arith}
use Rattle.lnfs_xdr.proofs.Fields.{IsBytes}
use Rattle.lnfs_answers.proofs.Records.{answered, is_denied, is_other, is_bad}
use Rattle.lnfs_answers.proofs.Offsets.{within}
use Rattle.lnfs_answers.proofs.laws.records.Goals as goal

pub returns : goal.returns
returns c =
    let bytes = c.args.message.now in
    let fits : IsBytes bytes = λ i. omega (arith, c.type_inv.message i) in
    record {
      answered = λ m a h fit good. answered m a h bytes fits fit good;
      denied = λ m a stat. is_denied m a stat bytes fits;
      other = λ m a. is_other m a bytes fits;
      bad = λ m a at. is_bad m a at bytes fits;
      inside = λ m a at. within m a at bytes;
    }
