use Rattle.lnfs_step.proofs.Steps.{reply_is_secret}
use Rattle.lnfs_step.proofs.laws.secrecy.Goals as goal

pub returns : goal.returns
returns g c = λ p lattice. reply_is_secret g.X.ExtraRows.extra g.X.ExtraRows.lawful g.M.Mechanism.signing p lattice
