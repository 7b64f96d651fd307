use Rattle.std.proofs.Common.{◌∙◌}
use Rattle.lnfs_world.specs.World.{Node, World}
use Rattle.lnfs_world.specs.Outcome.{Site, Place, Outcome}
use Rattle.lnfs_site.specs.Site.{site_of}
use Rattle.lnfs_operations.specs.Chain.{Answer, done}
use Rattle.lnfs_operations.specs.Extra.{place_at}
use Rattle.lnfs_nodes.specs.Trees.{refusal_of}
use Rattle.lnfs_files.proofs.Stages.{goes_on, refuses}
use Rattle.lnfs_engine.specs.Further.{spot_of}
use Rattle.lnfs_sparse_ops.specs.Arguments.{CloneArgs}
use Rattle.lnfs_sparse_ops.specs.Clone.{cloned}
use Rattle.lnfs_sparse_args.specs.Values.{clone_args_of}
use Rattle.lnfs_sparse.specs.Cloning.{where_open_files, where_copied}
use Rattle.lnfs_sparse.proofs.Cloned.{err_clones, copied_tested}
use Rattle.lnfs_sparse.proofs.clone.find_files.Goals as goal

module _ (site : Site) (args : CloneArgs) (p : Place) (w : World) where
  abbrev last : Node → Node → Outcome (Answer (Unit {0}))
  last s t = done p tt (cloned p args s t)

  abbrev next : Node → Node → Outcome (Answer (Unit {0}))
  next s t = where_copied site args p w s t (last s t)

pub returns-in_err-files : goal.returns-in_err-files
returns-in_err-files c =
    let w = c.args.store.now in
    let site = site_of c.args.at.now.site.now in
    let p : Place = place_at (spot_of c.args.at.now) in
    let args : CloneArgs = clone_args_of c.args.args.now in
    err_clones site args p w c.from_residual-in_err-files.result c.in_err-files.field-0.0 c.from_residual-in_err-files.ensures.1
    (c.in_ok-check_ranges.ensures.ranges p (where_open_files site args p w (next site args p w)) ∙ c.in_err-files.ensures (next site args p w))

pub returns-in_err-check_copied : goal.returns-in_err-check_copied
returns-in_err-check_copied c =
    let w = c.args.store.now in
    let site = site_of c.args.at.now.site.now in
    let p : Place = place_at (spot_of c.args.at.now) in
    let args : CloneArgs = clone_args_of c.args.args.now in
    let led = c.in_ok-files.ensures in
    let why = c.in_err-check_copied.field-0.0 in
    err_clones site args p w c.from_residual-in_err-check_copied.result why c.from_residual-in_err-check_copied.ensures.1
    (c.in_ok-check_ranges.ensures.ranges p (where_open_files site args p w (next site args p w)) ∙ led.leads (next site args p w)
    ∙ refuses p _ _ _ (copied_tested site args p w led.source led.target (last site args p w led.source led.target)) (refusal_of why) (c.in_err-check_copied.ensures.refused led.source led.target led.held))

pub returns : goal.returns
returns c =
    let w = c.args.store.now in
    let site = site_of c.args.at.now.site.now in
    let p : Place = place_at (spot_of c.args.at.now) in
    let args : CloneArgs = clone_args_of c.args.args.now in
    let led = c.in_ok-files.ensures in
    record {
      source = led.source;
      target = led.target;
      held = led.held;
      may = c.in_ok-check_copied.ensures.may led.source led.target led.held;
      leads = c.in_ok-check_ranges.ensures.ranges p (where_open_files site args p w (next site args p w)) ∙ led.leads (next site args p w)
          ∙ goes_on p _ _ _ (copied_tested site args p w led.source led.target (last site args p w led.source led.target)) (c.in_ok-check_copied.ensures.refused led.source led.target led.held);
    }
