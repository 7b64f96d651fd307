use Rattle.std.proofs.Common.{sym, ◌∙◌, true, false}
use Rattle.lnfs_calipso.proofs.Lattices.{at, above_more, at_bottom}
use Rattle.lnfs_calipso.proofs.lattice.first_not_above.Goals as goal

pub returns-then-not-dominates-clause-some : goal.returns-then-not-dominates-clause-some
returns-then-not-dominates-clause-some c = record {
  inside = c.loop-index-test.true;
  below = at_bottom c.args.labels.now c.loop-index.index c.index-labels-index.result c.args.bottom.now (at c.args.labels.now c.loop-index.index _ c.loop-index-test.true c.index-labels-index.is) c.requires.bottom false (sym c.dominates.ensures ∙ c.if-not-dominates.true);
  first = c.loop-index.invariant;
}

pub loop-index-preserved : goal.loop-index-preserved
loop-index-preserved c =
    above_more c.args.labels.now c.loop-index.index c.loop-index.invariant
    (at_bottom c.args.labels.now c.loop-index.index c.index-labels-index.result c.args.bottom.now (at c.args.labels.now c.loop-index.index _ c.loop-index-test.true c.index-labels-index.is) c.requires.bottom true (sym c.dominates.ensures ∙ c.if-not-dominates.false))
