use Rattle.lnfs_policy.proofs.Site.{preordered}
use Rattle.lnfs_step.proofs.StepBounds.{holds_of}
use Rattle.lnfs_step.proofs.SlotSteps.{retry_at, created_at, many_at, once_at, room_at}
use Rattle.lnfs_step.proofs.CreatedOnce.{created_once_at}
use Rattle.lnfs_step.proofs.OtherSessions.{event_there}
use Rattle.lnfs_step.proofs.step_laws.session_step.Goals as goal

pub returns : goal.returns
returns g c = let X = g.X.ExtraRows.extra in let owed = g.X.ExtraRows.lawful in let m = g.M.Mechanism.signing in record {
  retry = λ p a all event call arguments compound args x slot result comes last kept.
      retry_at X m p a all event call arguments compound args x slot result comes (λ i. record { sequence = last i; kept = kept i });
  created = λ p a event call arguments compound args client result comes last kept. created_at X m p a event call arguments compound args client result comes last kept;
  once = λ p lattice a holds event again call other arguments compound args x slot comes next asks own size. once_at X owed m p lattice a holds event again call other arguments compound args x slot comes next asks own size;
  once_created = λ p a event again call other arguments compound args client comes next asks own.
      let once = created_once_at X m p a event again call other arguments compound args client comes next asks own in
      (once.0, once.1 tt);
  refused = λ p a event call arguments compound args x slot comes many. many_at X m p a event call arguments compound args x slot comes many;
  room = λ p is a kept event call arguments compound args x slot comes. room_at X owed m p (preordered p) a (holds_of X owed m p p.text is a kept) p.text is g.M.Mechanism.sized kept.sound.bounds event call arguments compound args x slot comes;
  others = λ p lattice a holds event x there named replaced. event_there X owed m p lattice event a holds x there named replaced;
}
