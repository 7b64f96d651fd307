use Rattle.std.specs.Int.{w32, w64}
use Rattle.lnfs_xdr.proofs.Refusing.{number_refused, boolean_refused, count_refused, fixed_refused, opaque_refused, raw_refused}
use Rattle.lnfs_xdr.proofs.promises.refusals.Goals as goal

pub returns : goal.returns
returns c = record {
  word = number_refused w32 c.args.bytes.now;
  long = number_refused w64 c.args.bytes.now;
  boolean = boolean_refused c.args.bytes.now;
  count = count_refused c.args.max c.args.bytes.now;
  fixed = fixed_refused c.args.n c.args.bytes.now;
  opaque = opaque_refused c.args.max c.args.bytes.now;
  raw = raw_refused c.args.n c.args.bytes.now;
}
