use Rattle.std.proofs.Common.{ap, false, None}
use Rattle.lnfs_attrs.specs.declared.bitmap.Bitmap.{Bitmap}
use Rattle.lnfs_operations.specs.Open.{Wanted}
use Rattle.lnfs_operations.proofs.BitmapLaws.{bitmap_told}
use Rattle.lnfs_files.proofs.wanted.nothing.Goals as goal

pub returns : goal.returns
returns c =
    ap (λ (set : Bitmap). let x : Wanted = record { sized = false; mode = None; label = None; set = set } in x)
    (bitmap_told c.empty-set.result c.law_words.ensures (λ n. false) (λ n lt. c.empty-set.ensures n))
