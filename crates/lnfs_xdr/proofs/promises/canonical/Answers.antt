use Rattle.std.proofs.Common.{length, refl, arith}
use Rattle.lnfs_xdr.proofs.Spelled.{word_spelled, long_spelled, flag_spelled, fixed_spelled, opaque_spelled}
use Rattle.lnfs_xdr.proofs.promises.canonical.Goals as goal

pub returns : goal.returns
returns c = record {
  word = (word_spelled {E = ⊥} c.args.small c.ranges.small.fits).is;
  long = (long_spelled {E = ⊥} c.args.large c.ranges.large.fits).is;
  boolean = (flag_spelled {E = ⊥} c.args.truth).is;
  fixed = (fixed_spelled {E = ⊥} (length c.args.bytes.now) c.args.bytes.now refl).is;
  opaque = λ le. (opaque_spelled {E = ⊥} c.args.max c.args.bytes.now le (omega arith)).is;
}
