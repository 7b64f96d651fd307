use Rattle.lnfs_slots.proofs.OnSlots.{compound_new}
use Rattle.lnfs_slots.proofs.laws.compounds_act.Goals as goal

pub returns : goal.returns
returns g c = λ p lattice w written. compound_new g.X.ExtraRows.extra g.X.ExtraRows.lawful g.M.Mechanism.signing p lattice w written
