use Rattle.lnfs_results.proofs.Within.{within-bound}
use Rattle.lnfs_results.proofs.bound.answers_are_bounded.Goals as goal

pub returns : goal.returns
returns c = within-bound
