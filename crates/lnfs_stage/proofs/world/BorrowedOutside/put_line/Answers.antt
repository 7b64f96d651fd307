use Rattle.lnfs_stage.proofs.Calling.{does_line}
use Rattle.lnfs_stage.proofs.world.BorrowedOutside.put_line.Goals as goal

pub returns-clause-does : goal.returns-clause-does
returns-clause-does g c = does_line _ _ c.put_line.ensures
