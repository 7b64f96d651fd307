use borrow.Rule.Slice.PartMut.{put_mid}
use Rattle.std.proofs.Common.{◌∙◌, ◌+◌, ◌-◌, ℕ, List, take, length, ap, refl, arith}
use Rattle.byteorder.specs.Endian.{big_bytes}
use Rattle.lnfs_xdr.specs.Canon.{long}
use Rattle.lnfs_xdr.proofs.Places.{placed_before}
use Rattle.lnfs_xdr.proofs.buffer.put_long.Goals as goal

pub returns-clause-put : goal.returns-clause-put
unfolding long
returns-clause-put c =
    let at = c.args.at in
    let places = c.args.places.now in
    ap (λ (ys : List ℕ). take (at + 8) (put_mid at (length places - at) places ys)) c.write_u64.ensures
    ∙ placed_before at (length places - at) 8 places (big_bytes 8 c.args.v) _ (omega (arith, c.requires)) refl
