use Rattle.std.proofs.Common.{rules}
use Rattle.lnfs_checkpointing.proofs.Verdicts.{unruled, ruled}
use Rattle.lnfs_checkpointing.proofs.resuming.judge.Goals as goal

pub returns-in_err-policy : goal.returns-in_err-policy
returns-in_err-policy g c = let a = c.args.asked.now in unruled a.policy.now a.checkpoint.now a.traffic.now _ (search rules) c.in_err-policy.ensures

pub returns : goal.returns
returns g c = let a = c.args.asked.now in ruled a.policy.now a.checkpoint.now a.traffic.now c.in_ok-policy.policy c.in_ok-policy.ensures c.under.ensures
