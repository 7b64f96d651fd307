use Rattle.lnfs_stage.proofs.Calling.{reads_in}
use Rattle.lnfs_stage.proofs.world.BorrowedOutside.read_file.Goals as goal

pub returns : goal.returns
returns g c = reads_in _ _ c.read_file.ensures
