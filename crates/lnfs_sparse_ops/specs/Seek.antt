-- SEEK (RFC 7862 section 15.11). Each file ends in a virtual hole, so that a search for one that finds none tells the size too.
use Rattle.std.specs.Prelude.{ℕ, ◌==◌, ◌++◌, Bool, cond, List, length, nat_le, nat_lt}
use Rattle.lnfs_xdr.specs.Canon.{flag, long}
use Rattle.lnfs_content.specs.Sparse.{next_data, next_hole}
use Rattle.lnfs_world.specs.World.{Node}
use Rattle.lnfs_world.specs.Outcome.{Site, Act}
use Rattle.lnfs_monitor.specs.Rules.{Read}
use Rattle.lnfs_operations.specs.declared.Gate.TheVariants.{Argument, Namespace}
use Rattle.lnfs_operations.specs.Chain.{Answer, refuse, done, demand}
use Rattle.lnfs_operations.specs.Judged.{where_allowed}
use Rattle.lnfs_operations.specs.Handles.{with_current}
use Rattle.lnfs_operations.specs.StateIds.{Reading, where_usable}
use Rattle.lnfs_operations.specs.Accessed.{accessed}
use Rattle.lnfs_sparse_ops.specs.declared.numbers.TheConstants.{NFS4_CONTENT_HOLE, NFS4ERR_NXIO, NFS4ERR_UNION_NOTSUPP}
use Rattle.lnfs_sparse_ops.specs.Arguments.{SeekArgs}
use Rattle.lnfs_sparse_ops.specs.Regions.{where_ordinary}

pub record Sought : Type 0 where
  -- whether nothing of the sort was left
  pub eof : Bool
  pub offset : ℕ

-- the next data or the next hole of a file, or its size
abbrev pub found_in : SeekArgs → Node → ℕ
found_in args n = cond (args.what == NFS4_CONTENT_HOLE) (next_hole args.offset n.inner.content) (next_data args.offset n.inner.content)

abbrev pub sought : SeekArgs → Node → Sought
sought args n = record { eof = found_in args n == length n.inner.content; offset = found_in args n }

abbrev pub seek : Site → SeekArgs → Act (Answer Sought)
seek site args p w =
    demand (nat_le args.what NFS4_CONTENT_HOLE) (refuse p Argument NFS4ERR_UNION_NOTSUPP) (
    with_current p w (λ n.
    where_ordinary p n (
    where_allowed site p (Read n.label) (
    where_usable site p w n args.id Reading (
    demand (nat_lt args.offset (length n.inner.content)) (refuse p Namespace NFS4ERR_NXIO) (
    done p (sought args n) (accessed p n)))))))

-- seek_res4 (RFC 7862 section 15.11.2)
unfoldable pub seek_text : Sought → List ℕ
seek_text s = flag s.eof ++ long s.offset
