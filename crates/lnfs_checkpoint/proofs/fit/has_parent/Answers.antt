use Rattle.std.proofs.Common.{arith}
use Rattle.std.proofs.lemmas.Bool.{false≢true}
use Rattle.lnfs_checkpoint.proofs.ParentNumbers.{parent_is_short}
use Rattle.lnfs_checkpoint.proofs.fit.has_parent.Goals as goal

pub returns-in-Err : goal.returns-in-Err
returns-in-Err c = (
  λ never. absurd (false≢true never),
  λ known. let short = parent_is_short c.args.policy.now c.law_policy.ensures c.args.row.parent known in absurd (omega (arith, short, c.in-Err.ensures)),
)
