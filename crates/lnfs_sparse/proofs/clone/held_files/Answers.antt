use Rattle.lnfs_world.specs.Outcome.{Place}
use Rattle.lnfs_operations.specs.Extra.{place_at}
use Rattle.lnfs_engine.specs.Further.{spot_of}
use Rattle.lnfs_sparse.specs.Cloning.{where_files}
use Rattle.lnfs_sparse.proofs.HeldFiles.{in_world}
use Rattle.lnfs_sparse.proofs.Cloned.{err_files, no_source, no_target, both_led}
use Rattle.lnfs_sparse.proofs.clone.held_files.Goals as goal

pub returns-in_err-check_ordinary : goal.returns-in_err-check_ordinary
returns-in_err-check_ordinary c =
    let w = c.args.store.now in
    let p : Place = place_at (spot_of c.args.at.now) in
    let why = c.in_err-check_ordinary.field-0.0 in
    err_files (where_files p w) p w c.from_residual-in_err-check_ordinary.result why c.from_residual-in_err-check_ordinary.ensures.1
    (no_source p w c.in_ok-source.source c.in_ok-target.target (in_world c.tree.result.now w c.tree.ensures p.saved c.in_ok-source.source c.in_ok-source.ensures) (in_world c.tree-2.result.now w c.tree-2.ensures p.current c.in_ok-target.target c.in_ok-target.ensures) why (λ n kind. c.in_err-check_ordinary.ensures p n kind))

pub returns-in_err-check_ordinary-2 : goal.returns-in_err-check_ordinary-2
returns-in_err-check_ordinary-2 c =
    let w = c.args.store.now in
    let p : Place = place_at (spot_of c.args.at.now) in
    let why = c.in_err-check_ordinary-2.field-0.0 in
    err_files (where_files p w) p w c.from_residual-in_err-check_ordinary-2.result why c.from_residual-in_err-check_ordinary-2.ensures.1
    (no_target p w c.in_ok-source.source c.in_ok-target.target (in_world c.tree.result.now w c.tree.ensures p.saved c.in_ok-source.source c.in_ok-source.ensures) (in_world c.tree-2.result.now w c.tree-2.ensures p.current c.in_ok-target.target c.in_ok-target.ensures) (λ n kind. c.in_ok-check_ordinary.ensures p n kind) why (λ n kind. c.in_err-check_ordinary-2.ensures p n kind))

pub returns : goal.returns
returns c =
    let w = c.args.store.now in
    let p : Place = place_at (spot_of c.args.at.now) in
    both_led p w c.in_ok-source.source c.in_ok-target.target (in_world c.tree.result.now w c.tree.ensures p.saved c.in_ok-source.source c.in_ok-source.ensures) (in_world c.tree-2.result.now w c.tree-2.ensures p.current c.in_ok-target.target c.in_ok-target.ensures) (λ n kind. c.in_ok-check_ordinary.ensures p n kind) (λ n kind. c.in_ok-check_ordinary-2.ensures p n kind)
