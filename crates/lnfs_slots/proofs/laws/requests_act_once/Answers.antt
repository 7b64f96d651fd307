use Rattle.lnfs_slots.proofs.First.{bare}
use Rattle.lnfs_slots.proofs.Whole.{acts}
use Rattle.lnfs_slots.proofs.laws.requests_act_once.Goals as goal

pub returns : goal.returns
returns g c = let X = g.X.ExtraRows.extra in let owed = g.X.ExtraRows.lawful in let m = g.M.Mechanism.signing in record {
  first = λ p lattice w. bare X owed m p lattice w;
  once = λ p lattice w written turns. acts X owed m p lattice w written turns;
}
