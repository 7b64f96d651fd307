use Rattle.lnfs_ranges.proofs.Unique.{same_runs}
use Rattle.lnfs_ranges.proofs.laws.runs_are_told_by_their_modes.Goals as goal

pub returns : goal.returns
returns c = same_runs
