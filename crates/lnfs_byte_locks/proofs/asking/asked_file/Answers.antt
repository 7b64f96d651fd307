use Rattle.lnfs_world.specs.Outcome.{Place}
use Rattle.lnfs_operations.specs.Extra.{place_at}
use Rattle.lnfs_operations.specs.Files.{where_file}
use Rattle.lnfs_operations.specs.Handles.{with_current}
use Rattle.lnfs_engine.specs.Further.{spot_of}
use Rattle.lnfs_lock_args.specs.Values.{asked_of}
use Rattle.lnfs_locks.specs.Arguments.{Asked}
use Rattle.lnfs_byte_locks.proofs.AskedFiles.{err_leads, no_node, no_file, is_file}
use Rattle.lnfs_byte_locks.proofs.asking.asked_file.Goals as goal

pub returns-in_err-check_range : goal.returns-in_err-check_range
returns-in_err-check_range c =
    let at : Place = place_at (spot_of c.args.at.now) in
    let a : Asked = asked_of c.args.asked.now in
    err_leads at c.args.store.now a c.from_residual.result c.in_err-check_range.field-0.0 c.from_residual.ensures.1
    (λ next. c.in_err-check_range.ensures.range at (with_current at c.args.store.now (λ n. where_file at n (next n))))

pub returns-in_err-held : goal.returns-in_err-held
returns-in_err-held c =
    let at : Place = place_at (spot_of c.args.at.now) in
    let a : Asked = asked_of c.args.asked.now in
    err_leads at c.args.store.now a c.from_residual-in_err-held.result c.in_err-held.field-0.0 c.from_residual-in_err-held.ensures.1
    (no_node at c.args.store.now a _ c.tree.ensures (c.in_ok-check_range.ensures.range at) c.in_err-held.field-0.0 c.in_err-held.ensures)

pub returns-in_err-check_file : goal.returns-in_err-check_file
returns-in_err-check_file c =
    let at : Place = place_at (spot_of c.args.at.now) in
    let a : Asked = asked_of c.args.asked.now in
    err_leads at c.args.store.now a c.from_residual-in_err-check_file.result c.in_err-check_file.field-0.0 c.from_residual-in_err-check_file.ensures.1
    (no_file at c.args.store.now a _ c.tree.ensures (c.in_ok-check_range.ensures.range at) c.in_ok-held.held c.in_ok-held.ensures c.in_err-check_file.field-0.0 (λ n kind. c.in_err-check_file.ensures at n kind))

pub returns : goal.returns
returns c =
    let at : Place = place_at (spot_of c.args.at.now) in
    is_file at c.args.store.now (asked_of c.args.asked.now) _ c.tree.ensures (c.in_ok-check_range.ensures.range at) c.in_ok-held.held c.in_ok-held.ensures c.in_ok-check_range.ensures.passes.1 (λ n kind. c.in_ok-check_file.ensures at n kind)
