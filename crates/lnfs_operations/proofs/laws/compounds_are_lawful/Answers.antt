use Rattle.lnfs_operations.proofs.SlotRules.{served_lawful}
use Rattle.lnfs_operations.proofs.laws.compounds_are_lawful.Goals as goal

pub returns : goal.returns
returns g c =
    let X = g.X.ExtraRows.extra in
    let owed = g.X.ExtraRows.lawful in
    λ site lattice sent compound. served_lawful X owed site lattice sent compound
