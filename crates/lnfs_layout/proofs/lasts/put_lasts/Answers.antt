use Rattle.lnfs_rows.specs.Lasts.{given_of}
use Rattle.lnfs_rows.specs.World.{lasts_of}
use Rattle.lnfs_layout.proofs.Puts.{lasts_more, lasts_end}
use Rattle.lnfs_layout.proofs.lasts.put_lasts.Goals as goal

pub loop-level-preserved : goal.loop-level-preserved
loop-level-preserved c = lasts_more c.loop-level.level c.args.levels (lasts_of c.args.lasts.now) (given_of c.args.locks.now) _ _ _ c.loop-level-test.true c.in_ok-put_last.ensures c.loop-level.invariant

pub returns : goal.returns
returns c = lasts_end c.loop-level.level c.args.levels (lasts_of c.args.lasts.now) (given_of c.args.locks.now) _ _ c.loop-level-test.false c.loop-level.invariant
