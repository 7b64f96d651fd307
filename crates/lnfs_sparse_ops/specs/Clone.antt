-- CLONE (RFC 7862 section 15.13): bytes of the saved file are written to the current one, or to another place of it.
use Rattle.std.specs.Prelude.{ℕ, ◌+◌, ◌-◌, ◌==◌, ◌&&◌, Bool, not, cond, List, [], ◌∷◌, ◌++◌, length, nat_le}
use Rattle.lnfs_words.specs.Words.{is_empty}
use Rattle.lnfs_content.specs.Sparse.{lie_apart}
use Rattle.lnfs_arguments.specs.declared.statuses.TheConstants.{NFS4ERR_INVAL}
use Rattle.lnfs_world.specs.World.{Node, same_id}
use Rattle.lnfs_world.specs.Change.{Change, Touch}
use Rattle.lnfs_world.specs.Effects.{read_at, written, size_written, data_changed}
use Rattle.lnfs_world.specs.Outcome.{Site, Place, Act}
use Rattle.lnfs_monitor.specs.Rules.{Read, Write}
use Rattle.lnfs_operations.specs.declared.Gate.TheVariants.{Argument, Namespace}
use Rattle.lnfs_operations.specs.Chain.{Answer, refuse, done, demand}
use Rattle.lnfs_operations.specs.Judged.{where_allowed}
use Rattle.lnfs_operations.specs.Handles.{with_node, with_current}
use Rattle.lnfs_operations.specs.StateIds.{Reading, Writing, where_usable}
use Rattle.lnfs_operations.specs.Files.{where_fitting}
use Rattle.lnfs_operations.specs.Accessed.{accessed}
use Rattle.lnfs_sparse_ops.specs.declared.numbers.TheConstants.{LAST_OFFSET}
use Rattle.lnfs_sparse_ops.specs.Arguments.{CloneArgs}
use Rattle.lnfs_sparse_ops.specs.Regions.{where_ordinary}

-- neither range goes past the last offset
abbrev pub are_ranges : CloneArgs → Bool
are_ranges args = nat_le (args.from + args.count) LAST_OFFSET && nat_le (args.to + args.count) LAST_OFFSET

-- how many bytes are copied: a count of 0 stands for all up to the end
abbrev pub count_cloned : CloneArgs → (source : Node) → ℕ
count_cloned args s = cond (args.count == 0) (length s.inner.content - args.from) args.count

abbrev pub bytes_cloned : CloneArgs → (source : Node) → List ℕ
bytes_cloned args s = read_at args.from (count_cloned args s) s.inner.content

-- whether both are ranges of one file, and have a byte in common
abbrev pub overlap : CloneArgs → (source target : Node) → Bool
overlap args s t = same_id s.id t.id && not (lie_apart args.from args.to (count_cloned args s))

-- ---- what changes

-- the target afterwards: no bytes change nothing
abbrev pub with_clone : Place → CloneArgs → (source target : Node) → Node
with_clone p args s t =
    cond (is_empty (bytes_cloned args s)) t
    (record t { inner = data_changed p.moment (written args.to (bytes_cloned args s) t.inner.content) t.inner })

-- the source behind that, which may be the target
abbrev pub source_behind : Place → CloneArgs → (source target : Node) → Node
source_behind p args s t = cond (same_id s.id t.id) (with_clone p args s t) s

abbrev pub cloned : Place → CloneArgs → (source target : Node) → List Change
cloned p args s t =
    cond (is_empty (bytes_cloned args s)) [] (Touch t.id (with_clone p args s t).inner ∷ [])
    ++ accessed p (source_behind p args s t)

-- ---- the operation

abbrev pub clone : Site → CloneArgs → Act (Answer (Unit {0}))
clone site args p w =
    demand (are_ranges args) (refuse p Argument NFS4ERR_INVAL) (
    with_node p w p.saved (λ s.
    with_current p w (λ t.
    where_ordinary p s (
    where_ordinary p t (
    where_allowed site p (Read s.label) (
    where_allowed site p (Write t.label) (
    where_usable site p w s args.source Reading (
    where_usable site p w t args.target Writing (
    demand (nat_le (args.from + args.count) (length s.inner.content)) (refuse p Namespace NFS4ERR_INVAL) (
    demand (not (overlap args s t)) (refuse p Namespace NFS4ERR_INVAL) (
    where_fitting site p w t (size_written args.to (bytes_cloned args s) t.inner.content) (
    done p tt (cloned p args s t)))))))))))))
