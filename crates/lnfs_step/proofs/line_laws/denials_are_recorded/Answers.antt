use Rattle.lnfs_step.proofs.Recorded.{recorded}
use Rattle.lnfs_step.proofs.Letters.{same_gate}
use Rattle.lnfs_step.proofs.line_laws.denials_are_recorded.Goals as goal

pub returns : goal.returns
returns g c = let X = g.X.ExtraRows.extra in let owed = g.X.ExtraRows.lawful in let m = g.M.Mechanism.signing in record {
  recorded = λ p lattice journal event. recorded X owed m p lattice journal event;
  names = λ a b same. same_gate a b same;
}
