use Rattle.std.proofs.Common.{sym, ◌∙◌}
use Rattle.lnfs_locks.specs.declared.numbers.TheConstants.{LAST_OFFSET}
use Rattle.lnfs_lock_fit.proofs.Ended.{all_end, end_all}
use Rattle.lnfs_lock_fit.proofs.fits.ranges_fit.Goals as goal

pub returns : goal.returns
returns c = (
  λ fit. (c.are_runs.ensures.0 c.if-not-are_runs.false, all_end LAST_OFFSET c.args.ranges.now (sym c.ends_fit.ensures ∙ fit)),
  λ both. c.ends_fit.ensures ∙ end_all LAST_OFFSET c.args.ranges.now both.1,
)
