use Rattle.std.proofs.Common.{arith}
use Rattle.lnfs_rows.specs.Told.{open_of}
use Rattle.lnfs_layout.specs.Texts.{open_text}
use Rattle.lnfs_layout.specs.Fits.{OpenFits}
use Rattle.lnfs_layout.proofs.Puts.{row_put_at, rows_put, row_fits_at, rows_fit}
use Rattle.lnfs_layout.proofs.put_lists.put_opens.Goals as goal

pub loop-row-preserved : goal.loop-row-preserved
loop-row-preserved c = record {
  text = row_put_at open_text open_of c.args.rows.now c.loop-row.row-index _ _ _ _ _ c.loop-row-test.true c.in_ok-put_open.ensures.text c.loop-row.invariant.text;
  fit = row_fits_at OpenFits open_of c.args.rows.now c.loop-row.row-index _ c.loop-row-test.true c.in_ok-put_open.ensures.fits c.loop-row.invariant.fit;
}

pub returns-clause-text : goal.returns-clause-text
returns-clause-text c = rows_put open_text open_of c.args.rows.now c.loop-row.row-index _ _ c.loop-row-test.false c.loop-row.invariant.text

pub returns-clause-fits : goal.returns-clause-fits
returns-clause-fits c = rows_fit OpenFits open_of c.args.rows.now c.loop-row.row-index (omega arith) c.loop-row-test.false c.loop-row.invariant.fit
