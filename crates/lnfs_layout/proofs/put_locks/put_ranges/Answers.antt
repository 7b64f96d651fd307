use Rattle.std.proofs.Common.{arith}
use Rattle.lnfs_layout.specs.Texts.{range_text}
use Rattle.lnfs_layout.specs.Fits.{RangeFits}
use Rattle.lnfs_layout.proofs.Puts.{row_put_at, row_fits_at, items_put, items_fit}
use Rattle.lnfs_layout.proofs.put_locks.put_ranges.Goals as goal

pub loop-range-preserved : goal.loop-range-preserved
loop-range-preserved c = record {
  text = row_put_at range_text (λ r. r) c.args.ranges.now c.loop-range.range-index _ _ _ _ _ c.loop-range-test.true c.in_ok-put_range.ensures.text c.loop-range.invariant.text;
  fit = row_fits_at RangeFits (λ r. r) c.args.ranges.now c.loop-range.range-index _ c.loop-range-test.true c.in_ok-put_range.ensures.fits c.loop-range.invariant.fit;
}

pub returns-clause-text : goal.returns-clause-text
returns-clause-text c = items_put range_text c.args.ranges.now c.loop-range.range-index _ _ c.loop-range-test.false c.loop-range.invariant.text

pub returns-clause-fits : goal.returns-clause-fits
returns-clause-fits c = items_fit RangeFits c.args.ranges.now c.loop-range.range-index (omega arith) c.loop-range-test.false c.loop-range.invariant.fit
