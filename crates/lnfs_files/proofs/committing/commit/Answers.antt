use Rattle.std.proofs.Common.{ap, sym, ◌∙◌, ℕ, [], Option}
use Rattle.lnfs_world.specs.Outcome.{Place, Outcome}
use Rattle.lnfs_site.specs.Site.{site_of}
use Rattle.lnfs_monitor.specs.Rules.{Write}
use Rattle.lnfs_operations.specs.Chain.{Answer, refuse, done}
use Rattle.lnfs_operations.specs.Chain as chain
use Rattle.lnfs_operations.specs.Judged.{where_allowed}
use Rattle.lnfs_operations.specs.Files.{where_file}
use Rattle.lnfs_nodes.specs.Trees.{refusal_of, denial}
use Rattle.lnfs_nodes.specs.Acts.{placed}
use Rattle.lnfs_nodes.proofs.Refusing.{on_held}
use Rattle.lnfs_files.specs.Tests.{tested}
use Rattle.lnfs_files.proofs.Stages.{goes_on, refuses, file_tested, allowed_tested}
use Rattle.lnfs_files.proofs.Ends.{err_stays, stays_tested}
use Rattle.lnfs_files.proofs.committing.commit.Goals as goal

pub returns-in_err-check_file : goal.returns-in_err-check_file
returns-in_err-check_file c = λ p rest.
    let at : Place = placed p c.args.caller.now in
    on_held at rest c.args.tree.now _ c.in_ok-held.held (refuse at c.in_err-check_file.field-0.0.gate c.in_err-check_file.field-0.0.status) c.in_ok-held.ensures (λ n holds.
    let next : Outcome (Answer (Unit {0})) = where_allowed (site_of c.args.site.now) at (Write n.label) (done at tt []) in
    refuses at (where_file at n next) next _ (file_tested at n next) (refusal_of c.in_err-check_file.field-0.0) (c.in_err-check_file.ensures at n holds.tells.kind))
    ∙ err_stays (λ (it : Unit {0}). it) at c.from_residual-in_err-check_file.result c.in_err-check_file.field-0.0 c.from_residual-in_err-check_file.ensures.1

pub returns : goal.returns
returns c = λ p rest.
    let at : Place = placed p c.args.caller.now in
    on_held at rest c.args.tree.now _ c.in_ok-held.held _ c.in_ok-held.ensures (λ n holds.
    let next : Outcome (Answer (Unit {0})) = where_allowed (site_of c.args.site.now) at (Write n.label) (done at tt []) in
    goes_on at (where_file at n next) next _ (file_tested at n next) (c.in_ok-check_file.ensures at n holds.tells.kind)
    ∙ allowed_tested at (site_of c.args.site.now) (Write n.label) (done at tt [])
    ∙ ap (λ (l : ℕ). tested at (denial (site_of c.args.site.now) c.args.caller.now.subject.0 (Write l)) (done at tt [])) (sym holds.tells.label)
    ∙ ap (λ (x : Option chain.Refusal). tested at x (done at tt [])) (sym c.check_allowed.ensures)
    ∙ stays_tested at c.check_allowed.result)
