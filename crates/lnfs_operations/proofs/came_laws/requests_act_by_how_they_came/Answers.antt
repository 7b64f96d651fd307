use Rattle.lnfs_operations.proofs.CameLaws.{slot_again, slot_refused, slot_new, record_again, record_refused, record_new}
use Rattle.lnfs_operations.proofs.came_laws.requests_act_by_how_they_came.Goals as goal

pub returns : goal.returns
returns g c = let X = g.X.ExtraRows.extra in record {
  slot_again = λ site sent compound level moment b args rest reply minor is came. slot_again X site sent compound level moment b args rest minor is reply came;
  slot_refused = λ site sent compound level moment b args rest minor is came. slot_refused X site sent compound level moment b args rest minor is came;
  slot_new = λ site lattice sent compound level moment b args rest stands minor is came. slot_new X site sent compound level moment b args rest minor is g.X.ExtraRows.lawful lattice stands came;
  record_again = λ site sent compound level moment b args rest reply minor count is came. record_again X site sent compound level moment b args minor count rest reply is came;
  record_refused = λ site sent compound level moment b args rest minor count is came. record_refused X site sent compound level moment b args minor count rest is came;
  record_new = λ site sent compound level moment b args minor count is came. record_new X site sent compound level moment b args minor count is came;
}
