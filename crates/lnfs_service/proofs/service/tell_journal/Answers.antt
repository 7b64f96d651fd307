use Rattle.std.proofs.Common.{rules}
use Rattle.lnfs_stage.proofs.Doing.{write_stop, write_then}
use Rattle.lnfs_service.proofs.service.tell_journal.Goals as goal

pub returns-in_err-put_recording-clause-does : goal.returns-in_err-put_recording-clause-does
returns-in_err-put_recording-clause-does g c = write_stop _ (search rules) c.in_err-put_recording.ensures.does

pub returns-clause-does : goal.returns-clause-does
returns-clause-does g c = write_then _ c.in_ok-put_recording.ensures.does c.put_lines.ensures.does
