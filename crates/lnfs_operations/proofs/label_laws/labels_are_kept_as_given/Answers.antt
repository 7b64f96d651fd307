use Rattle.lnfs_operations.proofs.CarriedLaws.{operation_low, operation_unruled, operation_carries, operation_sets, served_low, served_unruled, served_stays, none_carry}
use Rattle.lnfs_operations.proofs.CarriedRows.{shown_own}
use Rattle.lnfs_operations.proofs.label_laws.labels_are_kept_as_given.Goals as goal

pub returns : goal.returns
returns g c =
    let X = g.X.ExtraRows.extra in
    let owed = g.X.ExtraRows.lawful in
    record {
      low = λ site lattice alone further sent compound so_far op p b stands low. operation_low X owed further site lattice alone sent compound p b stands low so_far op;
      rules = λ site lattice alone further sent compound so_far op p b stands low. operation_unruled X owed further site lattice alone sent compound p b stands low so_far op;
      labels = λ site lattice alone further sent compound so_far op p b stands low. operation_carries X owed further site lattice alone sent compound p b stands low so_far op;
      set = λ site lattice alone sent compound so_far p b id given v i stands low named current done. operation_sets X site lattice alone sent compound p b stands low so_far id given v i named current done;
      shown = λ site lattice alone p w i n low found. shown_own site lattice alone p w low i n found;
      compound_low = λ site lattice alone further sent compound p b stands low. served_low X owed further site lattice alone sent compound p b stands low;
      compound_rules = λ site lattice alone further sent compound p b stands low. served_unruled X owed further site lattice alone sent compound p b stands low;
      compound_labels = λ site lattice alone further sent compound p b stands low none. served_stays X owed further site lattice alone sent compound p b stands low none;
      table = none_carry;
    }
