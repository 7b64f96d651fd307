use Rattle.std.proofs.Common.{◌∙◌, None}
use Rattle.lnfs_world.specs.Outcome.{Place}
use Rattle.lnfs_site.specs.Site.{site_of}
use Rattle.lnfs_operations.specs.Extra.{place_at}
use Rattle.lnfs_nodes.specs.Trees.{refusal_of}
use Rattle.lnfs_files.specs.Uses.{way_of}
use Rattle.lnfs_files.proofs.Stages.{err_refused}
use Rattle.lnfs_engine.specs.Further.{spot_of}
use Rattle.lnfs_sparse.proofs.HeldFiles.{in_world}
use Rattle.lnfs_sparse.proofs.Passing.{kind_off, rules_off, by_state_id, held_file}
use Rattle.lnfs_sparse.proofs.files.ready_file.Goals as goal

pub returns-in_err-check_ordinary-clause-refused : goal.returns-in_err-check_ordinary-clause-refused
returns-in_err-check_ordinary-clause-refused c =
    let p : Place = place_at (spot_of c.args.at.now) in
    err_refused c.from_residual-in_err-check_ordinary.result c.in_err-check_ordinary.field-0.0 c.from_residual-in_err-check_ordinary.ensures.1
    ∙ kind_off (site_of c.args.at.now.site.now) p c.args.store.now c.args.id.now (way_of c.args.way) c.in_ok-held.held (in_world c.tree.result.now c.args.store.now c.tree.ensures p.current c.in_ok-held.held c.in_ok-held.ensures) (refusal_of c.in_err-check_ordinary.field-0.0) (λ n holds. c.in_err-check_ordinary.ensures p n holds.tells.kind)

pub returns-in_err-check_rules-clause-refused : goal.returns-in_err-check_rules-clause-refused
returns-in_err-check_rules-clause-refused c =
    let p : Place = place_at (spot_of c.args.at.now) in
    err_refused c.from_residual-in_err-check_rules.result c.in_err-check_rules.field-0.0 c.from_residual-in_err-check_rules.ensures.1
    ∙ rules_off (site_of c.args.at.now.site.now) p c.args.store.now c.args.id.now (way_of c.args.way) c.in_ok-held.held (in_world c.tree.result.now c.args.store.now c.tree.ensures p.current c.in_ok-held.held c.in_ok-held.ensures) (λ n holds. c.in_ok-check_ordinary.ensures p n holds.tells.kind) (refusal_of c.in_err-check_rules.field-0.0) c.in_err-check_rules.ensures

pub returns-in_err-check_state-clause-refused : goal.returns-in_err-check_state-clause-refused
returns-in_err-check_state-clause-refused c =
    let p : Place = place_at (spot_of c.args.at.now) in
    err_refused c.from_residual-in_err-check_state.result c.in_err-check_state.field-0.0 c.from_residual-in_err-check_state.ensures.1
    ∙ by_state_id (site_of c.args.at.now.site.now) p c.args.store.now c.args.id.now (way_of c.args.way) c.in_ok-held.held (in_world c.tree.result.now c.args.store.now c.tree.ensures p.current c.in_ok-held.held c.in_ok-held.ensures) (λ n holds. c.in_ok-check_ordinary.ensures p n holds.tells.kind) _ c.in_ok-check_rules.ensures
    (λ n holds. c.in_err-check_state.ensures n holds.id)

pub returns-clause-refused : goal.returns-clause-refused
returns-clause-refused c =
    let p : Place = place_at (spot_of c.args.at.now) in
    by_state_id (site_of c.args.at.now.site.now) p c.args.store.now c.args.id.now (way_of c.args.way) c.in_ok-held.held (in_world c.tree.result.now c.args.store.now c.tree.ensures p.current c.in_ok-held.held c.in_ok-held.ensures) (λ n holds. c.in_ok-check_ordinary.ensures p n holds.tells.kind) None c.in_ok-check_rules.ensures
    (λ n holds. c.in_ok-check_state.ensures n holds.id)

pub returns-clause-file : goal.returns-clause-file
returns-clause-file c =
    let w = c.args.store.now in
    let p : Place = place_at (spot_of c.args.at.now) in
    held_file p w _ c.in_ok-held.held (in_world c.tree.result.now w c.tree.ensures p.current c.in_ok-held.held c.in_ok-held.ensures) (λ n holds. c.in_ok-check_ordinary.ensures p n holds.tells.kind)
