use Rattle.lnfs_slots.proofs.OnSlots.{standing}
use Rattle.lnfs_slots.proofs.laws.slots_are_kept.Goals as goal

pub returns : goal.returns
returns g c = λ p w written. standing g.X.ExtraRows.extra g.M.Mechanism.signing p w written
