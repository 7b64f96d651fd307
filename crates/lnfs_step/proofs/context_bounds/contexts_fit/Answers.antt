use Rattle.lnfs_step.proofs.FittingContexts.{first_fit, step_fit}
use Rattle.lnfs_step.proofs.context_bounds.contexts_fit.Goals as goal

pub returns : goal.returns
returns g c = let X = g.X.ExtraRows.extra in let owed = g.X.ExtraRows.lawful in let m = g.M.Mechanism.signing in record {
  first = λ p. first_fit p;
  kept = λ p lattice a event holds fit. step_fit X owed m p lattice event a holds fit;
}
