use Rattle.lnfs_world.specs.Outcome.{begins_at}
use Rattle.lnfs_operations.proofs.BoundLaws.{row_bounds}
use Rattle.lnfs_operations.proofs.SizeLaws.{served_bounds, served_short}
use Rattle.lnfs_operations.proofs.SlotRules.{served_lawful}
use Rattle.lnfs_operations.proofs.laws.bounds_are_kept.Goals as goal

pub returns : goal.returns
returns g c =
    let X = g.X.ExtraRows.extra in
    let owed = g.X.ExtraRows.lawful in
    record {
      table = λ site lattice labels sent op p w read level stands bounds. row_bounds site lattice labels sent p w stands level bounds op read;
      kept = λ site lattice labels sent compound level moment b read is stands bounds. record {
        facts = ((served_lawful X owed site lattice sent compound).stands (begins_at level moment) b stands).world.facts;
        bounds = served_bounds X owed site lattice labels sent compound level moment b stands is bounds read;
      };
      short = λ site lattice labels sent compound level moment b read is stands bounds. served_short X owed site lattice labels sent compound level moment b stands is bounds read;
    }
