use Rattle.std.proofs.Common.{arith, refl}
use Rattle.std.specs.Int.{w32, w64}
use Rattle.lnfs_xdr.specs.Format.{Word, Long, Boolean, Count, Fixed, Opaque, Raw}
use Rattle.lnfs_xdr.specs.Reading.{number_at, boolean_at, count_at, padded_at, opaque_at, raw_at}
use Rattle.lnfs_xdr.proofs.Fields.{IsBytes}
use Rattle.lnfs_xdr.proofs.Accepting.{accepts}
use Rattle.lnfs_xdr.proofs.promises.spellings.Goals as goal

pub returns : goal.returns
returns c =
    let bytes = c.args.bytes.now in
    let fits : IsBytes bytes = λ i. omega (arith, c.type_inv.bytes i) in
    record {
      word = accepts Word (number_at w32) bytes fits refl;
      long = accepts Long (number_at w64) bytes fits refl;
      boolean = accepts Boolean boolean_at bytes fits refl;
      count = accepts (Count c.args.max) (count_at c.args.max) bytes fits refl;
      fixed = accepts (Fixed c.args.n) (padded_at c.args.n) bytes fits refl;
      opaque = accepts (Opaque c.args.max) (opaque_at c.args.max) bytes fits refl;
      raw = accepts (Raw c.args.n) (raw_at c.args.n) bytes fits refl;
    }
