use Rattle.std.proofs.Common.{sym, ◌∙◌}
use Rattle.lnfs_calipso.proofs.Lattices.{at, stands_earlier, stands_not, apart_more}
use Rattle.lnfs_calipso.proofs.lattice.first_twice.Goals as goal

pub returns-then-contains : goal.returns-then-contains
returns-then-contains c = record {
  few = c.requires;
  inside = c.loop-index-test.true;
  earlier = stands_earlier c.args.labels.now c.loop-index.index c.index-labels-index.result c.loop-index-test.true (at c.args.labels.now c.loop-index.index _ c.loop-index-test.true c.index-labels-index.is) (sym c.contains.ensures.value ∙ c.if-contains.true);
  first = c.loop-index.invariant;
}

pub loop-index-preserved : goal.loop-index-preserved
loop-index-preserved c =
    apart_more c.args.labels.now c.loop-index.index c.loop-index.invariant
    (stands_not c.args.labels.now c.loop-index.index c.index-labels-index.result c.loop-index-test.true (at c.args.labels.now c.loop-index.index _ c.loop-index-test.true c.index-labels-index.is) (sym c.contains.ensures.value ∙ c.if-contains.false))
