-- CLOSE (RFC 8881 section 18.2).
use Rattle.std.specs.Prelude.{not, [], ◌∷◌, replicate, is_some}
use Rattle.lnfs_world.specs.Change.{EndOpen}
use Rattle.lnfs_world.specs.Outcome.{Act}
use Rattle.lnfs_arguments.specs.declared.stateid.StateId.{StateId}
use Rattle.lnfs_arguments.specs.declared.statuses.TheConstants.{NFS4ERR_BAD_STATEID}
use Rattle.lnfs_operations.specs.declared.Gate.TheVariants as gates
use Rattle.lnfs_world.specs.declared.numbers.TheConstants.{LAST_SEQUENCE}
use Rattle.lnfs_operations.specs.Chain.{Answer, refuse, done, demand}
use Rattle.lnfs_operations.specs.Handles.{with_current}
use Rattle.lnfs_operations.specs.StateIds.{special, where_open}

-- the state id that is told of an open that ended (RFC 8881 section 18.2.4)
abbrev pub closed : StateId
closed = record { seqid = LAST_SEQUENCE; other = replicate 12 0 }

abbrev pub close : StateId → Act (Answer (Unit {0}))
close id p w =
    with_current p w (λ n.
    demand (not (is_some (special id))) (refuse p gates.Open NFS4ERR_BAD_STATEID) (
    where_open p w n id (λ o.
    done p tt (EndOpen o.id ∷ []))))
