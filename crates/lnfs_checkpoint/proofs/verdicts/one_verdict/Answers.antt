use Rattle.lnfs_checkpoint.proofs.OneVerdict.{one_alone}
use Rattle.lnfs_checkpoint.proofs.verdicts.one_verdict.Goals as goal

pub returns : goal.returns
returns c p bytes fits v w = one_alone p bytes fits v w
