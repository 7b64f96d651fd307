use Rattle.std.proofs.Common.{refl}
use Rattle.lnfs_world.specs.World.{Node}
use Rattle.lnfs_world.specs.Outcome.{Place, Outcome}
use Rattle.lnfs_site.specs.Site.{site_of}
use Rattle.lnfs_operations.specs.Chain.{Answer, done}
use Rattle.lnfs_operations.specs.Extra.{place_at}
use Rattle.lnfs_operations.specs.StateIds.{Writing}
use Rattle.lnfs_engine.specs.Further.{spot_of}
use Rattle.lnfs_sparse_ops.specs.Arguments.{RegionArgs}
use Rattle.lnfs_sparse_ops.specs.Deallocate.{deallocate, deallocated}
use Rattle.lnfs_sparse_args.specs.Values.{region_args_of}
use Rattle.lnfs_sparse.specs.Files.{where_ready}
use Rattle.lnfs_sparse.proofs.Led.{decided}
use Rattle.lnfs_sparse.proofs.deallocate.find_file.Goals as goal

pub returns : goal.returns
returns c =
    let w = c.args.store.now in
    let site = site_of c.args.at.now.site.now in
    let p : Place = place_at (spot_of c.args.at.now) in
    let args : RegionArgs = region_args_of c.args.args.now in
    let next : Node → Outcome (Answer (Unit {0})) = λ n. done p tt (deallocated p n args) in
    decided site p w args.id Writing next (deallocate site args p w) (c.in_ok-check_region.ensures.region p (where_ready site p w args.id Writing next)) c.ready_file.result (λ n. tt) (λ n. deallocated p n args) (λ n h holds file. refl) c.ready_file.ensures.refused c.ready_file.ensures.held c.ready_file.ensures.file
