use Rattle.lnfs_stage.proofs.Calling.{opens_in}
use Rattle.lnfs_stage.proofs.world.WorldOutside.open.Goals as goal

pub returns : goal.returns
returns g c = opens_in _ _ c.open.ensures
