use Rattle.std.proofs.Common.{ℕ, Bool}
use Rattle.std.specs.Prelude.{◌&&◌}
use Rattle.lnfs_attrs.specs.Attributes.{is_listed, is_answered}
use Rattle.lnfs_operations.proofs.BitmapLaws.{bitmap_told}
use Rattle.lnfs_nodes.proofs.masks.mask_of.Goals as goal

pub returns : goal.returns
returns c =
    let test : ℕ → Bool = λ n. is_listed n && is_answered c.args.asked.now c.args.inner n in
    bitmap_told c.answered-mask.result c.law_whole.ensures test (λ n lt. c.answered-mask.ensures n)
