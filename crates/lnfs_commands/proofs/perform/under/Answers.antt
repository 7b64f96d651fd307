use Rattle.std.proofs.Common.{rules}
use Rattle.lnfs_commands.specs.Commands.{due_under}
use Rattle.lnfs_commands.specs.Words.{task_of}
use Rattle.lnfs_commands.proofs.Ruling.{rules_stop, rules_then}
use Rattle.lnfs_commands.proofs.perform.under.Goals as goal

pub returns-in_err-policy : goal.returns-in_err-policy
returns-in_err-policy g c = rules_stop _ _ (λ rules. due_under rules (task_of c.args.task.now)) _ (search rules) c.in_err-policy.ensures

pub returns : goal.returns
returns g c = rules_then _ _ (λ rules. due_under rules (task_of c.args.task.now)) _ c.in_ok-policy.ensures c.perform.ensures
