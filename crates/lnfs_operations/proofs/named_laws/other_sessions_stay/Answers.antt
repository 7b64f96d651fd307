use Rattle.lnfs_operations.proofs.OtherSessions.{other_stays}
use Rattle.lnfs_operations.proofs.named_laws.other_sessions_stay.Goals as goal

pub returns : goal.returns
returns g c = λ site lattice sent compound level moment b stands x there named replaced.
    other_stays g.X.ExtraRows.extra g.X.ExtraRows.lawful site lattice sent compound level moment b stands x there named replaced
