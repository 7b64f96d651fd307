use Rattle.lnfs_once.proofs.Machines.{machine_acts_once}
use Rattle.lnfs_once.proofs.machine_acts_once.Goals as goal

pub returns : goal.returns
returns g c = λ v bare turns. machine_acts_once g.X.Asks.rows g.X.Asks.lawful g.X.Asks.machine g.X.Asks.fits v bare turns
