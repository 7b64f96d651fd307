use Rattle.std.proofs.lemmas.Bool.Decides.{same_from_decides, Decides-eqb}
use Rattle.std.proofs.lemmas.Slice.Eq.{slice_eq-Decides}
use Rattle.std.specs.Str.{bytes_eq}
use Rattle.lnfs_calipso.specs.Bitmap.{members}
use Rattle.lnfs_calipso.proofs.Covers.{same_bitmaps, same_members}
use Rattle.lnfs_calipso.proofs.bitmap.same.Goals as goal

pub returns : goal.returns
returns c =
    same_from_decides c.eq.result (bytes_eq (members c.args.a.now) (members c.args.b.now))
    (slice_eq-Decides Decides-eqb c.args.a.now c.args.b.now c.eq.result c.eq.ensures)
    (same_bitmaps c.args.a.now c.args.b.now c.requires.a c.requires.b, same_members c.args.a.now c.args.b.now)
