use Rattle.lnfs_stage.proofs.Calling.{does_out}
use Rattle.lnfs_stage.proofs.world.BorrowedOutside.put_recording.Goals as goal

pub returns-clause-does : goal.returns-clause-does
returns-clause-does g c = does_out _ _ c.put_recording.ensures.bytes c.put_recording.ensures.later c.put_recording.ensures.excused
