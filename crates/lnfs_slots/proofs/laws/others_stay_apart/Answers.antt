use Rattle.lnfs_slots.proofs.OtherEvents.{others_apart}
use Rattle.lnfs_slots.proofs.laws.others_stay_apart.Goals as goal

pub returns : goal.returns
returns g c = λ p lattice w. others_apart g.X.ExtraRows.extra g.X.ExtraRows.lawful g.M.Mechanism.signing p lattice w
