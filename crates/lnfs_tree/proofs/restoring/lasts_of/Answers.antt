use Rattle.std.proofs.Common.{◌<◌, map, ap, sym, refl, ◌∙◌, slice_index_or, arith}
use Rattle.lnfs_tree.specs.Flat.{last_row}
use Rattle.lnfs_tree.proofs.GivenLasts.{none_more, is_numbered, one_more}
use Rattle.lnfs_tree.proofs.restoring.lasts_of.Goals as goal

pub loop-level-preserved-then-number-eq0 : goal.loop-level-preserved-then-number-eq0
loop-level-preserved-then-number-eq0 c = c.loop-level.invariant ∙ sym (none_more c.args.numbers.now c.loop-level.level 0 c.loop-level-test.true c.if-number-eq0.true)

pub overflow_cast-level : goal.overflow_cast-level
overflow_cast-level c =
    let some : 0 < slice_index_or c.args.numbers.now c.loop-level.level 0 = omega (arith, c.if-number-eq0.false) in
    let fits = is_numbered c.args.numbers.now c.loop-level.level 0 c.loop-level-test.true c.requires some in
    omega (arith, fits.level)

pub overflow_cast-number : goal.overflow_cast-number
overflow_cast-number c =
    let some : 0 < slice_index_or c.args.numbers.now c.loop-level.level 0 = omega (arith, c.if-number-eq0.false) in
    let fits = is_numbered c.args.numbers.now c.loop-level.level 0 c.loop-level-test.true c.requires some in
    omega (arith, fits.number)

pub loop-level-preserved : goal.loop-level-preserved
loop-level-preserved c =
    let some : 0 < slice_index_or c.args.numbers.now c.loop-level.level 0 = omega (arith, c.if-number-eq0.false) in
    ap (map last_row) c.in_ok-insert.ensures.entries
    ∙ one_more c.args.numbers.now c.loop-level.level 0 c.loop-level-test.true c.loop-level.lasts.entries _ c.loop-level.invariant refl some
