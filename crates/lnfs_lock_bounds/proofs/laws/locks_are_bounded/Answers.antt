use Rattle.lnfs_operations.specs.Extra.{Extra, AreLawful}
use Rattle.lnfs_beside.specs.Sides.{beside}
use Rattle.lnfs_beside.proofs.SidesLaws.{sides_lawful}
use Rattle.lnfs_locks.specs.Outcome.{locking}
use Rattle.lnfs_locks.proofs.LockLaws.{locks_are_lawful}
use Rattle.lnfs_lock_bounds.proofs.BesideLocks.{AreBounded, sides_bounds}
use Rattle.lnfs_lock_bounds.proofs.OwnRows.{step_own, own_after}
use Rattle.lnfs_site.specs.Site.{site_of}
use Rattle.lnfs_step.proofs.StepBounds.{holds_of}
use Rattle.lnfs_lock_bounds.proofs.laws.locks_are_bounded.Goals as goal

pub returns : goal.returns
returns g c =
    let m = g.M.Mechanism.signing in
    let other : Extra = g.B.ExtraRows.extra in
    let X : Extra = beside locking other in
    let owed : AreLawful X = sides_lawful locking other locks_are_lawful g.B.ExtraRows.lawful in
    record {
      first = λ p. record { locks = tt; lasts = tt };
      kept = λ p is b event kept bounded. step_own X owed m p p.text is (AreBounded other (site_of p)) (sides_bounds other (site_of p)) event b (holds_of X owed m p p.text is b kept) kept.sound.bounds bounded;
      after = λ p is journal. own_after X owed m p p.text is (AreBounded other (site_of p)) (sides_bounds other (site_of p)) (record { locks = tt; lasts = tt }) journal;
    }
