-- DESTROY_CLIENTID (RFC 8881 section 18.50).
use Rattle.std.specs.Prelude.{ℕ, ◌==◌, Bool, not, ◌||◌, [], ◌∷◌}
use Rattle.std.specs.List.{list_any}
use Rattle.lnfs_world.specs.World.{Id, World, client_at}
use Rattle.lnfs_world.specs.Change.{DropClient, is_session_of, is_open_of}
use Rattle.lnfs_world.specs.Outcome.{Act, begins_at}
use Rattle.lnfs_arguments.specs.declared.statuses.TheConstants.{NFS4ERR_STALE_CLIENTID, NFS4ERR_CLIENTID_BUSY}
use Rattle.lnfs_operations.specs.declared.Gate.TheVariants.{Session, Monitor}
use Rattle.lnfs_monitor.specs.declared.rule.Rule.TheVariants.{M9}
use Rattle.lnfs_operations.specs.Chain.{Answer, refuse, done, demand, where_there}
use Rattle.lnfs_operations.specs.Identifiers.{client_named}

-- whether a client has a session or an open
abbrev pub is_busy : Id → World → Bool
is_busy i w = list_any (is_session_of i) w.sessions || list_any (is_open_of i) w.opens

abbrev pub destroy_clientid : (client : ℕ) → Act (Answer (Unit {0}))
destroy_clientid client p w =
    demand ((client_named client).level == p.subject) (refuse p (Monitor M9) NFS4ERR_STALE_CLIENTID) (
    where_there (client_at w.clients (client_named client))
    (λ c. demand (not (is_busy c.id w)) (refuse p Session NFS4ERR_CLIENTID_BUSY) (done (begins_at p.subject p.moment) tt (DropClient c.id ∷ [])))
    (refuse p Session NFS4ERR_STALE_CLIENTID))
