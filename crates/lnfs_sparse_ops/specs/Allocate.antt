-- ALLOCATE (RFC 7862 section 15.1). A region that ends past the size grows the file to there, as a size that is set does.
use Rattle.std.specs.Prelude.{ℕ, cond, List, [], ◌∷◌, length, max, nat_lt}
use Rattle.lnfs_world.specs.World.{Node}
use Rattle.lnfs_world.specs.Change.{Change, Touch}
use Rattle.lnfs_world.specs.Effects.{sized, data_changed}
use Rattle.lnfs_world.specs.Outcome.{Site, Place, Act}
use Rattle.lnfs_monitor.specs.Rules.{Write}
use Rattle.lnfs_operations.specs.Chain.{Answer, done}
use Rattle.lnfs_operations.specs.Judged.{where_allowed}
use Rattle.lnfs_operations.specs.Handles.{with_current}
use Rattle.lnfs_operations.specs.StateIds.{Writing, where_usable}
use Rattle.lnfs_operations.specs.Files.{where_fitting}
use Rattle.lnfs_sparse_ops.specs.Arguments.{RegionArgs}
use Rattle.lnfs_sparse_ops.specs.Regions.{end_of, where_region, where_ordinary}

-- how many bytes the file has afterwards
abbrev pub size_allocated : RegionArgs → Node → ℕ
size_allocated args n = max (length n.inner.content) (end_of args)

-- a region below the size changes nothing
abbrev pub allocated : Place → Node → RegionArgs → List Change
allocated p n args =
    cond (nat_lt (length n.inner.content) (end_of args))
    (Touch n.id (data_changed p.moment (sized (end_of args) n.inner.content) n.inner) ∷ [])
    []

abbrev pub allocate : Site → RegionArgs → Act (Answer (Unit {0}))
allocate site args p w =
    where_region p args (
    with_current p w (λ n.
    where_ordinary p n (
    where_allowed site p (Write n.label) (
    where_usable site p w n args.id Writing (
    where_fitting site p w n (size_allocated args n) (
    done p tt (allocated p n args)))))))
