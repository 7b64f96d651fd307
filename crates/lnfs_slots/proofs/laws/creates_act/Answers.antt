use Rattle.lnfs_slots.proofs.OnSlots.{create_new}
use Rattle.lnfs_slots.proofs.laws.creates_act.Goals as goal

pub returns : goal.returns
returns g c = λ p lattice w written. create_new g.X.ExtraRows.extra g.X.ExtraRows.lawful g.M.Mechanism.signing p lattice w written
