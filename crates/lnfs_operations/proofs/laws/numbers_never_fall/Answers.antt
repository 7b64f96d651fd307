use Rattle.lnfs_operations.proofs.LastLaws.{served_tame}
use Rattle.lnfs_operations.proofs.laws.numbers_never_fall.Goals as goal

pub returns : goal.returns
returns g c =
    let X = g.X.ExtraRows.extra in
    let owed = g.X.ExtraRows.lawful in
    λ site lattice sent compound p b stands level. (served_tame X owed site lattice sent compound p b stands).lasts level
