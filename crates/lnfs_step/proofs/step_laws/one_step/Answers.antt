use Rattle.lnfs_policy.proofs.Site.{preordered}
use Rattle.lnfs_step.proofs.Steps.{keeps}
use Rattle.lnfs_step.proofs.Lengths.{step_short}
use Rattle.lnfs_step.proofs.Accepted.{step_accepted, first_accepted}
use Rattle.lnfs_step.proofs.Labels.{step_labels}
use Rattle.lnfs_step.proofs.StepBounds.{step_tame, step_kept, first_kept, holds_of}
use Rattle.lnfs_step.proofs.step_laws.one_step.Goals as goal

pub returns : goal.returns
returns g c = let X = g.X.ExtraRows.extra in let owed = g.X.ExtraRows.lawful in let m = g.M.Mechanism.signing in record {
  first = λ p is. (first_kept X owed m p p.text is, first_accepted X owed m p (preordered p) p.text is);
  kept = λ p is a event kept. step_kept X owed m p p.text is event a kept;
  facts = λ p lattice a event holds. keeps X owed m p lattice event a holds;
  accepted = λ p is a event kept all. step_accepted X owed m p (preordered p) p.text is event a (holds_of X owed m p p.text is a kept) kept.sound.bounds all;
  labels = λ p lattice a event holds. step_labels X owed m p lattice event a holds;
  lasts = λ p lattice a event holds level. (step_tame X owed m p lattice event a holds).lasts level;
  short = λ p is a event kept. step_short X owed m p (preordered p) p.text is g.M.Mechanism.sized event a (holds_of X owed m p p.text is a kept) kept.sound.bounds;
}
