use Rattle.lnfs_step.proofs.Steps.{seen, unseen, holds_after, reply_is_answer}
use Rattle.lnfs_policy.proofs.Site.{preordered}
use Rattle.lnfs_step.proofs.Lengths.{reply_short}
use Rattle.lnfs_step.proofs.StepBounds.{kept_after}
use Rattle.lnfs_step.proofs.Labels.{labels_after}
use Rattle.lnfs_step.proofs.laws.purge.Goals as goal

pub returns : goal.returns
returns g c =
    let X = g.X.ExtraRows.extra in
    let owed = g.X.ExtraRows.lawful in
    let m = g.M.Mechanism.signing in
    record {
      replies = λ p lattice journal event. reply_is_answer X owed m p lattice journal event;
      seen = λ p lattice level s event a b. seen X owed m p lattice level s event a b;
      unseen = λ p lattice level event a. unseen X owed m p lattice level event a;
      facts = λ p lattice journal. holds_after X owed m p lattice journal;
      kept = λ p is journal. kept_after X owed m p p.text is journal;
      labels = λ p lattice journal event. labels_after X owed m p lattice journal event;
      short = λ p is journal event. reply_short X owed m p (preordered p) p.text is g.M.Mechanism.sized journal event;
    }
