-- DESTROY_SESSION (RFC 8881 section 18.37), by any client of the session's level.
use Rattle.std.specs.Prelude.{ℕ, ◌==◌, List, [], ◌∷◌}
use Rattle.lnfs_world.specs.Change.{DropSession}
use Rattle.lnfs_world.specs.Outcome.{Act, begins_at}
use Rattle.lnfs_arguments.specs.declared.statuses.TheConstants.{NFS4ERR_BADSESSION}
use Rattle.lnfs_operations.specs.declared.Gate.TheVariants.{Session, Monitor}
use Rattle.lnfs_monitor.specs.declared.rule.Rule.TheVariants.{M9}
use Rattle.lnfs_operations.specs.Chain.{Answer, refuse, done, demand, where_there}
use Rattle.lnfs_operations.specs.Identifiers.{session_named, session_under}

abbrev pub destroy_session : (session : List ℕ) → Act (Answer (Unit {0}))
destroy_session session p w =
    demand ((session_named session).level == p.subject) (refuse p (Monitor M9) NFS4ERR_BADSESSION) (
    where_there (session_under session w.sessions)
    (λ x. done (begins_at p.subject p.moment) tt (DropSession x.id ∷ []))
    (refuse p Session NFS4ERR_BADSESSION))
