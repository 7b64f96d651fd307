use Rattle.std.proofs.Common.{arith}
use Rattle.lnfs_lock_rows.specs.Told.{lock_of}
use Rattle.lnfs_layout.specs.Texts.{lock_text}
use Rattle.lnfs_layout.specs.Fits.{LockFits}
use Rattle.lnfs_layout.proofs.Puts.{row_put, rows_put, row_fits, rows_fit}
use Rattle.lnfs_layout.proofs.put_locks.put_locks.Goals as goal

pub loop-row-preserved : goal.loop-row-preserved
loop-row-preserved c = record {
  text = row_put lock_text lock_of c.args.rows.now c.loop-row.row-index c.row-item.result _ _ _ _ c.loop-row-test.true c.row-item.is c.in_ok-put_lock.ensures.text c.loop-row.invariant.text;
  fit = row_fits LockFits lock_of c.args.rows.now c.loop-row.row-index c.row-item.result c.loop-row-test.true c.row-item.is c.in_ok-put_lock.ensures.fits c.loop-row.invariant.fit;
}

pub returns-clause-text : goal.returns-clause-text
returns-clause-text c = rows_put lock_text lock_of c.args.rows.now c.loop-row.row-index _ _ c.loop-row-test.false c.loop-row.invariant.text

pub returns-clause-fits : goal.returns-clause-fits
returns-clause-fits c = rows_fit LockFits lock_of c.args.rows.now c.loop-row.row-index (omega arith) c.loop-row-test.false c.loop-row.invariant.fit
