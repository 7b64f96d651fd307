use Rattle.lnfs_operations.proofs.AcceptedLaws.{slot_accepted}
use Rattle.lnfs_policy.proofs.Site.{preordered}
use Rattle.lnfs_step.specs.Journal.{state_after}
use Rattle.lnfs_step.proofs.Accepted.{accepted_after}
use Rattle.lnfs_step.proofs.Slots.{retry_answered, created_answered, once_answered, many_refused, room_left}
use Rattle.lnfs_step.proofs.CreatedOnce.{once_created}
use Rattle.lnfs_step.proofs.Origins.{slot_origin, created_origin}
use Rattle.lnfs_step.proofs.session_laws.sessions.Goals as goal

pub returns : goal.returns
returns g c = let X = g.X.ExtraRows.extra in let owed = g.X.ExtraRows.lawful in let m = g.M.Mechanism.signing in record {
  retry = λ p is journal event call arguments compound args x slot result comes same. retry_answered X owed m p (preordered p) journal p.text is event call arguments compound args x slot result comes same;
  created = λ p journal event call arguments compound args client result comes last kept. created_answered X m p journal event call arguments compound args client result comes last kept;
  once = λ p lattice journal event again call other arguments compound args x slot comes next asks own size. once_answered X owed m p lattice journal event again call other arguments compound args x slot comes next asks own size;
  refused = λ p journal event call arguments compound args x slot comes many. many_refused X m p journal event call arguments compound args x slot comes many;
  once_created = λ p journal event again call other arguments compound args client comes next asks own. once_created X m p journal event again call other arguments compound args client comes next asks own;
  origin = λ p lattice journal i x n slot kept there at is. slot_origin X owed m p lattice journal i x n slot kept there at is;
  accepted = λ p policy journal i x n slot kept there at is.
      slot_accepted X.grammar (state_after X m p journal).world i x n slot kept (accepted_after X owed m p (preordered p) p.text policy journal) there at is;
  origin_created = λ p lattice journal i client kept there is. created_origin X owed m p lattice journal i client kept there is;
  room = λ p is journal event call arguments compound args x slot comes. room_left X owed m p (preordered p) journal p.text is g.M.Mechanism.sized event call arguments compound args x slot comes;
}
