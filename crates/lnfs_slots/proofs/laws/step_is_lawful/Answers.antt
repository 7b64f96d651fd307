use Rattle.lnfs_slots.proofs.Whole.{lawful}
use Rattle.lnfs_slots.proofs.laws.step_is_lawful.Goals as goal

pub returns : goal.returns
returns g c = λ p lattice w written. lawful g.X.ExtraRows.extra g.X.ExtraRows.lawful g.M.Mechanism.signing p lattice w written
