use Rattle.std.proofs.Common.{◌<◌, ◌^◌, get_or, rules}
use Rattle.lnfs_attrs.proofs.Within.{more_within, not_within}
use Rattle.lnfs_attrs.proofs.bitmap.Bitmap.is_within.Goals as goal

pub returns-then-self-place-ne0 : goal.returns-then-self-place-ne0
returns-then-self-place-ne0 c =
    let small : get_or c.args.self.now.words c.loop-place.place 0 < 2 ^ 32 = search rules in
    let fits : get_or c.args.other.now.words c.loop-place.place 0 < 2 ^ 32 = search rules in
    let some = not_within c.args.self.now.words c.args.other.now.words c.loop-place.place small fits c.if-self-place-ne0.true in
    (λ t. absurd cc, λ all. absurd (some all))

pub loop-place-preserved : goal.loop-place-preserved
loop-place-preserved c =
    let fits : get_or c.args.other.now.words c.loop-place.place 0 < 2 ^ 32 = search rules in
    more_within c.args.self.now.words c.args.other.now.words c.loop-place.place fits c.if-self-place-ne0.false c.loop-place.invariant
