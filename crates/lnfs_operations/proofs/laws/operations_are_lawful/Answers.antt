use Rattle.lnfs_operations.proofs.ServedLaws.{operation_lawful}
use Rattle.lnfs_operations.proofs.laws.operations_are_lawful.Goals as goal

pub returns : goal.returns
returns g c =
    let X = g.X.ExtraRows.extra in
    let owed = g.X.ExtraRows.lawful in
    λ site lattice sent compound so_far op. operation_lawful X owed site lattice sent compound so_far op
