use Rattle.std.proofs.Common.{arith}
use Rattle.lnfs_rows.specs.Told.{node_of}
use Rattle.lnfs_layout.specs.Texts.{node_text}
use Rattle.lnfs_layout.specs.Fits.{NodeFits}
use Rattle.lnfs_layout.proofs.Puts.{row_put, rows_put, row_fits, rows_fit}
use Rattle.lnfs_layout.proofs.put_lists.put_nodes.Goals as goal

pub loop-row-preserved : goal.loop-row-preserved
loop-row-preserved c = record {
  text = row_put node_text node_of c.args.rows.now c.loop-row.row-index c.row-item.result _ _ _ _ c.loop-row-test.true c.row-item.is c.in_ok-put_node.ensures.text c.loop-row.invariant.text;
  fit = row_fits NodeFits node_of c.args.rows.now c.loop-row.row-index c.row-item.result c.loop-row-test.true c.row-item.is c.in_ok-put_node.ensures.fits c.loop-row.invariant.fit;
}

pub returns-clause-text : goal.returns-clause-text
returns-clause-text c = rows_put node_text node_of c.args.rows.now c.loop-row.row-index _ _ c.loop-row-test.false c.loop-row.invariant.text

pub returns-clause-fits : goal.returns-clause-fits
returns-clause-fits c = rows_fit NodeFits node_of c.args.rows.now c.loop-row.row-index (omega arith) c.loop-row-test.false c.loop-row.invariant.fit
