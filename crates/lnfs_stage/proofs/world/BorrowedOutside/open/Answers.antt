use Rattle.lnfs_stage.proofs.Calling.{opens_in}
use Rattle.lnfs_stage.proofs.world.BorrowedOutside.open.Goals as goal

pub returns : goal.returns
returns g c = opens_in _ _ c.open.ensures
