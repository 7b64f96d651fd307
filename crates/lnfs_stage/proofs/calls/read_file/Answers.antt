use Rattle.lnfs_stage.proofs.Calling.{reads_opened, reads_failed}
use Rattle.lnfs_stage.proofs.calls.read_file.Goals as goal

pub returns-in-Ok-true : goal.returns-in-Ok-true
returns-in-Ok-true g c = let e = c.read_rest.ensures in reads_opened _ _ (rw c.in-Ok-true.field-0-test at c.in-Ok-true.ensures.opened) c.open.ensures.content c.open.ensures.cause.later e.bytes e.excused e.content e.later

pub returns-in-Err : goal.returns-in-Err
returns-in-Err g c = reads_failed c.open.ensures.content c.open.ensures.cause.later c.in-Err.ensures.cause.failed
