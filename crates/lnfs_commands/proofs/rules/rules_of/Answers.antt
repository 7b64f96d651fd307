use Rattle.std.proofs.Common.{rules}
use Rattle.lnfs_commands.proofs.Ruling.{rules_unread, rules_read, rules_refused, rules_short}
use Rattle.lnfs_commands.proofs.rules.rules_of.Goals as goal

pub returns-in_err-text : goal.returns-in_err-text
returns-in_err-text g c = rules_unread _ _ (search rules) c.in_err-text.ensures

pub returns-in-Ok : goal.returns-in-Ok
returns-in-Ok g c = rules_read _ _ c.in_ok-text.ensures c.in-Ok.policy (search rules)

pub returns-in-Err-Refused : goal.returns-in-Err-Refused
returns-in-Err-Refused g c = rules_refused _ _ c.in_ok-text.ensures _ _ (search rules)

pub returns : goal.returns
returns g c = rules_short _ _ c.in_ok-text.ensures (search rules)
