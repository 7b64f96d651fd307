use Rattle.std.proofs.Common.{ap}
use Rattle.lnfs_world.specs.World.{Slot as SlotRow}
use Rattle.lnfs_operations.proofs.Retries.{answered_again, refused_again, created_again}
use Rattle.lnfs_operations.proofs.AcceptedLaws.{accepted_again, served_accepted}
use Rattle.lnfs_operations.proofs.Once.{acts_once}
use Rattle.lnfs_operations.proofs.CreatedOnce.{created_once}
use Rattle.lnfs_operations.proofs.laws.retries_are_answered_again.Goals as goal

pub returns : goal.returns
returns g c =
    let X = g.X.ExtraRows.extra in
    let owed = g.X.ExtraRows.lawful in
    record {
      kept = λ site sent compound level moment b args rest x slot reply minor is sends all names same.
          answered_again X site sent compound level moment b args rest x slot reply minor is names
          (accepted_again X.grammar level b.world args sent compound x slot reply all sends names (ap (λ (s : SlotRow). s.kept) same)) same;
      created = λ site sent compound level moment b args rest client reply minor count is own there last kept. created_again X site sent compound level moment b args rest client reply minor count is own there last kept;
      once = λ site lattice sent again compound level moment later b args rest x slot stands minor is names few next same size count.
          acts_once X owed site lattice sent compound level moment later b args rest x slot again stands minor is names few next same size count;
      refused = λ site sent compound level moment b args rest x slot minor is names many. refused_again X site sent compound level moment b args rest x slot minor is names many;
      accepted = λ site lattice labels sent compound level moment b stands known bounds read sends all. served_accepted X owed site lattice labels sent compound level moment b stands known bounds read sends all;
      created_once = λ site sent again compound level moment later b args client minor count is own found next same. created_once X site sent compound args level moment b client own found next later again minor count is same;
    }
