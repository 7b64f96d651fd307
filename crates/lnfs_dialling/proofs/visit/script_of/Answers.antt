use Rattle.std.proofs.Common.{rules}
use Rattle.lnfs_dialling.proofs.Scripts.{script_unread, script_read, script_refused, script_short}
use Rattle.lnfs_dialling.proofs.visit.script_of.Goals as goal

pub returns-in_err-text : goal.returns-in_err-text
returns-in_err-text g c = script_unread _ _ _ (search rules) c.in_err-text.ensures

pub returns-in-Ok : goal.returns-in-Ok
returns-in-Ok g c = script_read _ _ _ c.in_ok-text.ensures c.in-Ok.script (search rules)

pub returns-in-Err-Refused : goal.returns-in-Err-Refused
returns-in-Err-Refused g c = script_refused _ _ _ c.in_ok-text.ensures _ (search rules)

pub returns : goal.returns
returns g c = script_short _ _ _ c.in_ok-text.ensures (search rules)
