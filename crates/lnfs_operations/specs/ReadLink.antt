-- READLINK (RFC 8881 section 18.24).
use Rattle.std.specs.Prelude.{ℕ, List}
use Rattle.lnfs_world.specs.Outcome.{Site, Act}
use Rattle.lnfs_arguments.specs.declared.statuses.TheConstants.{NFS4ERR_WRONG_TYPE}
use Rattle.lnfs_monitor.specs.Rules.{Read}
use Rattle.lnfs_operations.specs.declared.Gate.TheVariants.{Namespace}
use Rattle.lnfs_operations.specs.Chain.{Answer, refuse, done, demand}
use Rattle.lnfs_operations.specs.Judged.{where_allowed}
use Rattle.lnfs_operations.specs.Handles.{with_current}
use Rattle.lnfs_operations.specs.Lookup.{is_link}
use Rattle.lnfs_operations.specs.Accessed.{accessed}

-- the text of the link
abbrev pub read_link : Site → Act (Answer (List ℕ))
read_link site p w =
    with_current p w (λ n.
    demand (is_link n.kind) (refuse p Namespace NFS4ERR_WRONG_TYPE) (
    where_allowed site p (Read n.label) (
    done p n.inner.content (accessed p n))))
