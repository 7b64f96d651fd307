use Rattle.lnfs_world.specs.Outcome.{begins_at}
use Rattle.lnfs_operations.proofs.LabelLaws.{served_raised}
use Rattle.lnfs_operations.proofs.laws.labels_rise.Goals as goal

pub returns : goal.returns
returns g c =
    let X = g.X.ExtraRows.extra in
    let owed = g.X.ExtraRows.lawful in
    λ site lattice sent compound level moment b stands. (served_raised X owed site lattice sent compound (begins_at level moment) b stands).labels
