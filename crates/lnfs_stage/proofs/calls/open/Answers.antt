use Rattle.lnfs_stage.proofs.Calling.{finding_some, finding_failed}
use Rattle.lnfs_stage.proofs.calls.open.Goals as goal

pub returns-in-Ok-true : goal.returns-in-Ok-true
returns-in-Ok-true g c = finding_some _ _ _ _ (rw c.in-Ok-true.field-0-test at c.in-Ok-true.ensures.opened) c.open.ensures.content c.open.ensures.cause.later

pub returns-in-Err : goal.returns-in-Err
returns-in-Err g c = finding_failed c.open.ensures.content c.open.ensures.cause.later c.in-Err.ensures.cause.failed
