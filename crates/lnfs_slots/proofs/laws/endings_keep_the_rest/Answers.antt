use Rattle.lnfs_slots.proofs.PlainDestroy.{plain_destroy}
use Rattle.lnfs_slots.proofs.PlainLeave.{plain_leave}
use Rattle.lnfs_slots.proofs.PlainEnd.{plain_end}
use Rattle.lnfs_slots.proofs.laws.endings_keep_the_rest.Goals as goal

pub returns : goal.returns
returns g c = let X = g.X.ExtraRows.extra in let owed = g.X.ExtraRows.lawful in let m = g.M.Mechanism.signing in record {
  destroy = λ p lattice w written v at q came kind. plain_destroy X owed m p lattice w v at q kind (written.destroy q came.suits kind) came;
  leave = λ p lattice w written v at q came kind. plain_leave X owed m p lattice w v at q kind (written.leave q came.suits kind) came;
  context = λ p lattice w written v at q came kind. plain_end X owed m p lattice w v at q kind (written.end_ q came.suits kind) came;
}
