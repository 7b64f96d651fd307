use Rattle.std.proofs.Common.{rules}
use Rattle.lnfs_checkpointing.proofs.Keeping.{saved_unruled, saved_then}
use Rattle.lnfs_checkpointing.proofs.saving.judge.Goals as goal

pub returns-in_err-policy : goal.returns-in_err-policy
returns-in_err-policy g c = let a = c.args.asked.now in saved_unruled a.policy.now a.traffic.now _ (search rules) c.in_err-policy.ensures

pub returns : goal.returns
returns g c = let a = c.args.asked.now in saved_then a.policy.now a.traffic.now c.in_ok-policy.policy c.in_ok-policy.ensures c.under.ensures
