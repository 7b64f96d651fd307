use Rattle.std.proofs.Common.{◌∙◌, arith}
use Rattle.std.proofs.lemmas.List.{length-set}
use Rattle.lnfs_attrs.proofs.Within.{more_both}
use Rattle.lnfs_attrs.proofs.bitmap.Bitmap.both.Goals as goal

pub loop-place-preserved : goal.loop-place-preserved
loop-place-preserved c = (
  length-set c.loop-place.words c.loop-place.place _ ∙ c.loop-place.invariant.0,
  more_both c.args.self.now.words c.args.other.now.words c.loop-place.words c.loop-place.place (omega (arith, c.loop-place.invariant.0, c.loop-place-test.true)) c.loop-place.invariant.1,
)
