-- Data of files: what is tested of a file before it is read or written.
use Rattle.std.specs.Prelude.{ℕ, ◌+◌, ◌-◌, ◌&&◌, Bool, not, length, nat_le, nat_lt}
use Rattle.lnfs_world.specs.World.{Node, World, is_directory}
use Rattle.lnfs_world.specs.Usage.{bytes_used}
use Rattle.lnfs_world.specs.Outcome.{Site, Place, Outcome}
use Rattle.lnfs_arguments.specs.declared.statuses.TheConstants.{NFS4ERR_ISDIR, NFS4ERR_SYMLINK, NFS4ERR_FBIG, NFS4ERR_DQUOT}
use Rattle.lnfs_operations.specs.declared.Gate.TheVariants.{Namespace, Quota}
use Rattle.lnfs_world.specs.declared.numbers.TheConstants.{MOST_FILE}
use Rattle.lnfs_operations.specs.Chain.{Answer, refuse, demand}
use Rattle.lnfs_operations.specs.Lookup.{is_link}

abbrev pub where_file : {R : Type 0} → Place → Node → Outcome (Answer R) → Outcome (Answer R)
where_file p n next =
    demand (not (is_directory n.kind)) (refuse p Namespace NFS4ERR_ISDIR) (
    demand (not (is_link n.kind)) (refuse p Namespace NFS4ERR_SYMLINK) next)

-- whether the bytes of a level pass its limit where a file of it grows to a size
abbrev pub passes_quota : Site → World → Node → (size : ℕ) → Bool
passes_quota site w n size = nat_lt (length n.inner.content) size && nat_lt (site.bytes n.label) (bytes_used w.nodes n.label - length n.inner.content + size)

-- a size that a file may have, and that its level's limit allows
abbrev pub where_fitting : {R : Type 0} → Site → Place → World → Node → (size : ℕ) → Outcome (Answer R) → Outcome (Answer R)
where_fitting site p w n size next =
    demand (nat_le size MOST_FILE) (refuse p Namespace NFS4ERR_FBIG) (
    demand (not (passes_quota site w n size)) (refuse p Quota NFS4ERR_DQUOT) next)
