use Rattle.lnfs_operations.proofs.Rooms.{fits_on_slot}
use Rattle.lnfs_operations.proofs.laws.results_leave_room.Goals as goal

pub returns : goal.returns
returns g c =
    let X = g.X.ExtraRows.extra in
    let owed = g.X.ExtraRows.lawful in
    λ site lattice labels sent compound level moment b args rest x slot stands known bounds minor is read names next tag least.
    fits_on_slot X owed site lattice labels sent compound level moment b args rest x slot stands known bounds read minor is names next tag least
