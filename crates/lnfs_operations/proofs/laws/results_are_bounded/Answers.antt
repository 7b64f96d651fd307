use Rattle.lnfs_operations.proofs.Bounded.{operation_bounded}
use Rattle.lnfs_operations.proofs.ServedLaws.{operation_lawful}
use Rattle.lnfs_operations.proofs.BoundLaws.{operation_bounds}
use Rattle.lnfs_operations.proofs.laws.results_are_bounded.Goals as goal

pub returns : goal.returns
returns g c =
    let X = g.X.ExtraRows.extra in
    let owed = g.X.ExtraRows.lawful in
    record {
      bounded = λ site lattice spells sent compound so_far op p b stands sizes. operation_bounded X owed site lattice spells sent compound so_far p b stands sizes op;
      kept = λ site lattice labels sent compound so_far op p b read known stands bounds. ((operation_lawful X owed site lattice sent compound so_far op).stands p b stands, operation_bounds X owed site lattice labels sent compound p b stands known bounds so_far op read);
    }
