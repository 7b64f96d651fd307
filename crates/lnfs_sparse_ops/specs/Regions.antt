-- What ALLOCATE, DEALLOCATE, SEEK and CLONE test alike: a region, and an ordinary file.
use Rattle.std.specs.Prelude.{ℕ, ◌+◌, ◌==◌, ◌&&◌, Bool, true, false, not, nat_le}
use Rattle.lnfs_arguments.specs.declared.statuses.TheConstants.{NFS4ERR_INVAL, NFS4ERR_WRONG_TYPE}
use Rattle.lnfs_world.specs.World.{Kind, File, Directory, SymbolicLink, Node}
use Rattle.lnfs_world.specs.Outcome.{Place, Outcome}
use Rattle.lnfs_operations.specs.declared.Gate.TheVariants.{Argument, Namespace}
use Rattle.lnfs_operations.specs.Chain.{Answer, refuse, demand}
use Rattle.lnfs_sparse_ops.specs.declared.numbers.TheConstants.{LAST_OFFSET}
use Rattle.lnfs_sparse_ops.specs.Arguments.{RegionArgs}

-- not empty, and not past the last offset
abbrev pub is_region : (offset length : ℕ) → Bool
is_region offset length = not (length == 0) && nat_le (offset + length) LAST_OFFSET

-- the offset behind it
abbrev pub end_of : RegionArgs → ℕ
end_of args = args.offset + args.length

abbrev pub where_region : {R : Type 0} → Place → RegionArgs → Outcome (Answer R) → Outcome (Answer R)
where_region p args next = demand (is_region args.offset args.length) (refuse p Argument NFS4ERR_INVAL) next

abbrev pub is_file : Kind → Bool
is_file File = true
is_file Directory = false
is_file SymbolicLink = false

abbrev pub where_ordinary : {R : Type 0} → Place → Node → Outcome (Answer R) → Outcome (Answer R)
where_ordinary p n next = demand (is_file n.kind) (refuse p Namespace NFS4ERR_WRONG_TYPE) next
