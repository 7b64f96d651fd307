use Rattle.lnfs_once.proofs.Turns.{acts_once}
use Rattle.lnfs_once.proofs.acts_once.Goals as goal

pub returns : goal.returns
returns g c = λ v bare turns. acts_once g.X.Serves.rows g.X.Serves.lawful v bare turns
