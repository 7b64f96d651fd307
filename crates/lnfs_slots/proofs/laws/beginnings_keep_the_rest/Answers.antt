use Rattle.lnfs_slots.proofs.PlainAssert.{plain_assert}
use Rattle.lnfs_slots.proofs.PlainExchange.{plain_exchange}
use Rattle.lnfs_slots.proofs.laws.beginnings_keep_the_rest.Goals as goal

pub returns : goal.returns
returns g c = let X = g.X.ExtraRows.extra in let owed = g.X.ExtraRows.lawful in let m = g.M.Mechanism.signing in record {
  context = λ p lattice w written v at q came kind. plain_assert X owed m p lattice w v at q kind (written.assert q came.suits kind) came;
  exchange = λ p lattice w written v at q came kind. plain_exchange X owed m p lattice w v at q kind (written.exchange q came.suits kind) came;
}
