-- RECLAIM_COMPLETE (RFC 8881 section 18.51): a client says once that it reclaims no more.
use Rattle.std.specs.Prelude.{ℕ, Bool, true, not, cond, List, [], ◌∷◌, Option, Some, None}
use Rattle.lnfs_world.specs.World.{Client, client_at}
use Rattle.lnfs_world.specs.Change.{SetClient}
use Rattle.lnfs_world.specs.Outcome.{Place, Outcome, Act}
use Rattle.lnfs_arguments.specs.declared.statuses.TheConstants.{NFS4ERR_COMPLETE_ALREADY, NFS4ERR_OP_NOT_IN_SESSION}
use Rattle.lnfs_operations.specs.declared.Gate.TheVariants.{Session}
use Rattle.lnfs_operations.specs.Chain.{Answer, refuse, done, demand, where_there}

-- the client under which an operation came
abbrev pub client_under : ℕ → Option ℕ → List Client → Option Client
client_under level None clients = None
client_under level (Some number) clients = client_at clients (record { level = level; number = number })

-- said of one file system it changes nothing
abbrev pub reclaimed : (one_fs : Bool) → Place → Client → Outcome (Answer (Unit {0}))
reclaimed one_fs p c =
    cond one_fs (done p tt []) (
    demand (not c.reclaimed) (refuse p Session NFS4ERR_COMPLETE_ALREADY) (done p tt (SetClient (record c { reclaimed = true }) ∷ [])))

abbrev pub reclaim_complete : (one_fs : Bool) → Act (Answer (Unit {0}))
reclaim_complete one_fs p w = where_there (client_under p.subject p.client w.clients) (reclaimed one_fs p) (refuse p Session NFS4ERR_OP_NOT_IN_SESSION)
