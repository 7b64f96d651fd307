use Rattle.std.proofs.Common.{arith}
use Rattle.lnfs_attrs.proofs.Bits.{inserted}
use Rattle.lnfs_attrs.proofs.bitmap.Bitmap.insert.Goals as goal

pub returns : goal.returns
returns c = λ n. inserted c.args.self.now.words c.args.attr n (omega arith) c.requires
