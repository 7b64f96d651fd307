-- DEALLOCATE (RFC 7862 section 15.4): the bytes of the region become zeros, and the size stays.
use Rattle.std.specs.Prelude.{cond, List, [], ◌∷◌}
use Rattle.lnfs_content.specs.Sparse.{zeroed, has_region}
use Rattle.lnfs_world.specs.World.{Node}
use Rattle.lnfs_world.specs.Change.{Change, Touch}
use Rattle.lnfs_world.specs.Effects.{data_changed}
use Rattle.lnfs_world.specs.Outcome.{Site, Place, Act}
use Rattle.lnfs_monitor.specs.Rules.{Write}
use Rattle.lnfs_operations.specs.Chain.{Answer, done}
use Rattle.lnfs_operations.specs.Judged.{where_allowed}
use Rattle.lnfs_operations.specs.Handles.{with_current}
use Rattle.lnfs_operations.specs.StateIds.{Writing, where_usable}
use Rattle.lnfs_sparse_ops.specs.Arguments.{RegionArgs}
use Rattle.lnfs_sparse_ops.specs.Regions.{end_of, where_region, where_ordinary}

-- a region without a byte below the size changes nothing
abbrev pub deallocated : Place → Node → RegionArgs → List Change
deallocated p n args =
    cond (has_region args.offset (end_of args) n.inner.content)
    (Touch n.id (data_changed p.moment (zeroed args.offset (end_of args) n.inner.content) n.inner) ∷ [])
    []

abbrev pub deallocate : Site → RegionArgs → Act (Answer (Unit {0}))
deallocate site args p w =
    where_region p args (
    with_current p w (λ n.
    where_ordinary p n (
    where_allowed site p (Write n.label) (
    where_usable site p w n args.id Writing (
    done p tt (deallocated p n args))))))
