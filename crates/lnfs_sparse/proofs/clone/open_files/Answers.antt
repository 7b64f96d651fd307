use Rattle.lnfs_world.specs.Outcome.{Place}
use Rattle.lnfs_site.specs.Site.{site_of}
use Rattle.lnfs_operations.specs.Extra.{place_at}
use Rattle.lnfs_engine.specs.Further.{spot_of}
use Rattle.lnfs_sparse_ops.specs.Arguments.{CloneArgs}
use Rattle.lnfs_sparse_args.specs.Values.{clone_args_of}
use Rattle.lnfs_sparse.specs.Cloning.{where_open_files}
use Rattle.lnfs_sparse.proofs.Cloned.{err_files, source_denied, target_denied, source_state, target_state, open_led}
use Rattle.lnfs_sparse.proofs.clone.open_files.Goals as goal

pub returns-in_err-check_rules : goal.returns-in_err-check_rules
returns-in_err-check_rules c =
    let w = c.args.store.now in
    let site = site_of c.args.at.now.site.now in
    let p : Place = place_at (spot_of c.args.at.now) in
    let args : CloneArgs = clone_args_of c.args.args.now in
    let why = c.in_err-check_rules.field-0.0 in
    err_files (where_open_files site args p w) p w c.from_residual-in_err-check_rules.result why c.from_residual-in_err-check_rules.ensures.1
    (source_denied site args p w c.in_ok-files.files c.in_ok-files.ensures why c.in_err-check_rules.ensures)

pub returns-in_err-check_rules-2 : goal.returns-in_err-check_rules-2
returns-in_err-check_rules-2 c =
    let w = c.args.store.now in
    let site = site_of c.args.at.now.site.now in
    let p : Place = place_at (spot_of c.args.at.now) in
    let args : CloneArgs = clone_args_of c.args.args.now in
    let why = c.in_err-check_rules-2.field-0.0 in
    err_files (where_open_files site args p w) p w c.from_residual-in_err-check_rules-2.result why c.from_residual-in_err-check_rules-2.ensures.1
    (target_denied site args p w c.in_ok-files.files c.in_ok-files.ensures c.in_ok-check_rules.ensures why c.in_err-check_rules-2.ensures)

pub returns-in_err-check_state : goal.returns-in_err-check_state
returns-in_err-check_state c =
    let w = c.args.store.now in
    let site = site_of c.args.at.now.site.now in
    let p : Place = place_at (spot_of c.args.at.now) in
    let args : CloneArgs = clone_args_of c.args.args.now in
    let led = c.in_ok-files.ensures in
    let why = c.in_err-check_state.field-0.0 in
    err_files (where_open_files site args p w) p w c.from_residual-in_err-check_state.result why c.from_residual-in_err-check_state.ensures.1
    (source_state site args p w c.in_ok-files.files led c.in_ok-check_rules.ensures c.in_ok-check_rules-2.ensures why (c.in_err-check_state.ensures led.source led.held.source.id))

pub returns-in_err-check_state-2 : goal.returns-in_err-check_state-2
returns-in_err-check_state-2 c =
    let w = c.args.store.now in
    let site = site_of c.args.at.now.site.now in
    let p : Place = place_at (spot_of c.args.at.now) in
    let args : CloneArgs = clone_args_of c.args.args.now in
    let led = c.in_ok-files.ensures in
    let why = c.in_err-check_state-2.field-0.0 in
    err_files (where_open_files site args p w) p w c.from_residual-in_err-check_state-2.result why c.from_residual-in_err-check_state-2.ensures.1
    (target_state site args p w c.in_ok-files.files led c.in_ok-check_rules.ensures c.in_ok-check_rules-2.ensures (c.in_ok-check_state.ensures led.source led.held.source.id) why (c.in_err-check_state-2.ensures led.target led.held.target.id))

pub returns : goal.returns
returns c =
    let w = c.args.store.now in
    let site = site_of c.args.at.now.site.now in
    let p : Place = place_at (spot_of c.args.at.now) in
    let args : CloneArgs = clone_args_of c.args.args.now in
    let led = c.in_ok-files.ensures in
    open_led site args p w c.in_ok-files.files led c.in_ok-check_rules.ensures c.in_ok-check_rules-2.ensures (c.in_ok-check_state.ensures led.source led.held.source.id) (c.in_ok-check_state-2.ensures led.target led.held.target.id)
