use Rattle.lnfs_stage.proofs.Calling.{does_out}
use Rattle.lnfs_stage.proofs.world.BorrowedOutside.put_text.Goals as goal

pub returns-clause-does : goal.returns-clause-does
returns-clause-does g c = does_out _ _ c.put.ensures.bytes c.put.ensures.later c.put.ensures.excused
