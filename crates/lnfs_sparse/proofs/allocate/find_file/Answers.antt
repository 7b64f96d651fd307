use Rattle.std.proofs.Common.{◌≡◌, ◌∙◌, ap, ℕ, arith}
use Rattle.lnfs_world.specs.World.{Node, World}
use Rattle.lnfs_world.specs.Outcome.{Site, Place, Outcome}
use Rattle.lnfs_site.specs.Site.{site_of}
use Rattle.lnfs_operations.specs.Chain.{Answer, done}
use Rattle.lnfs_operations.specs.Files.{where_fitting}
use Rattle.lnfs_operations.specs.Extra.{place_at}
use Rattle.lnfs_operations.specs.StateIds.{Writing}
use Rattle.lnfs_tree.specs.Rows.{rows_of}
use Rattle.lnfs_nodes.specs.Trees.{refusal_of}
use Rattle.lnfs_files.specs.Tests.{passed, refusal_in}
use Rattle.lnfs_files.proofs.Stages.{goes_on, refuses}
use Rattle.lnfs_engine.specs.Further.{spot_of}
use Rattle.lnfs_sparse_ops.specs.Arguments.{RegionArgs}
use Rattle.lnfs_sparse_ops.specs.Allocate.{allocate, allocated, size_allocated}
use Rattle.lnfs_sparse_args.specs.Values.{region_args_of}
use Rattle.lnfs_sparse.specs.Files.{where_ready}
use Rattle.lnfs_sparse.proofs.HeldFiles.{size_is}
use Rattle.lnfs_sparse.proofs.Passing.{fitting_tested}
use Rattle.lnfs_sparse.proofs.Led.{err_leads, off, off_behind, led}
use Rattle.lnfs_sparse.proofs.allocate.find_file.Goals as goal

module _ (site : Site) (p : Place) (w : World) (args : RegionArgs) where
  abbrev last : Node → Outcome (Answer (Unit {0}))
  last n = done p tt (allocated p n args)

  abbrev next : Node → Outcome (Answer (Unit {0}))
  next n = where_fitting site p w n (size_allocated args n) (last n)

pub returns-in_err-held-clause-decides : goal.returns-in_err-held-clause-decides
returns-in_err-held-clause-decides c =
    let w = c.args.store.now in
    let site = site_of c.args.at.now.site.now in
    let p : Place = place_at (spot_of c.args.at.now) in
    let args : RegionArgs = region_args_of c.args.args.now in
    err_leads (allocate site args p w) p w (λ n. tt) (λ n. allocated p n args) c.from_residual-in_err-held.result c.in_err-held.field-0.0 c.from_residual-in_err-held.ensures.1
    (off site p w args.id Writing (next site p w args) (allocate site args p w) (c.in_ok-check_region.ensures.region p (where_ready site p w args.id Writing (next site p w args))) c.in_err-held.field-0.0 c.in_err-held.ensures.refused)

pub returns-in_err-check_size-clause-decides : goal.returns-in_err-check_size-clause-decides
returns-in_err-check_size-clause-decides c =
    let w = c.args.store.now in
    let site = site_of c.args.at.now.site.now in
    let p : Place = place_at (spot_of c.args.at.now) in
    let args : RegionArgs = region_args_of c.args.args.now in
    let h = c.in_ok-held.held in
    let why = c.in_err-check_size.field-0.0 in
    err_leads (allocate site args p w) p w (λ n. tt) (λ n. allocated p n args) c.from_residual-in_err-check_size.result why c.from_residual-in_err-check_size.ensures.1
    (off_behind site p w args.id Writing (next site p w args) (allocate site args p w) (c.in_ok-check_region.ensures.region p (where_ready site p w args.id Writing (next site p w args))) h c.in_ok-held.ensures.held c.in_ok-held.ensures.refused c.in_ok-held.ensures.file why
    (λ n holds file.
    let size : c.max.result ≡ size_allocated args n = grind (arith, size_is (rows_of w) n h holds file, c.max.ensures, c.end.ensures) in
    refuses p (next site p w args n) (last site p w args n) _ (fitting_tested p site w n (size_allocated args n) (last site p w args n)) (refusal_of why)
    (c.in_err-check_size.ensures.refused n holds ∙ ap (λ (s : ℕ). refusal_in (where_fitting site p w n s (passed p))) size)))

pub returns-clause-decides : goal.returns-clause-decides
returns-clause-decides c =
    let w = c.args.store.now in
    let site = site_of c.args.at.now.site.now in
    let p : Place = place_at (spot_of c.args.at.now) in
    let args : RegionArgs = region_args_of c.args.args.now in
    let h = c.in_ok-held.held in
    led site p w args.id Writing (next site p w args) (allocate site args p w) (c.in_ok-check_region.ensures.region p (where_ready site p w args.id Writing (next site p w args))) h c.in_ok-held.ensures.held c.in_ok-held.ensures.refused c.in_ok-held.ensures.file (λ n. tt) (λ n. allocated p n args)
    (λ n holds file.
    let size : c.max.result ≡ size_allocated args n = grind (arith, size_is (rows_of w) n h holds file, c.max.ensures, c.end.ensures) in
    goes_on p (next site p w args n) (last site p w args n) _ (fitting_tested p site w n (size_allocated args n) (last site p w args n))
    (c.in_ok-check_size.ensures.refused n holds ∙ ap (λ (s : ℕ). refusal_in (where_fitting site p w n s (passed p))) size))
