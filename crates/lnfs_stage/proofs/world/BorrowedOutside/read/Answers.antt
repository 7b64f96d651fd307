use Rattle.lnfs_stage.proofs.Calling.{piece_in}
use Rattle.lnfs_stage.proofs.world.BorrowedOutside.read.Goals as goal

pub returns : goal.returns
returns g c = piece_in _ _ c.read.ensures.bound c.read.ensures.bytes c.read.ensures.content c.read.ensures.later c.read.ensures.excused
