use Rattle.std.proofs.Common.{ap, ◌∙◌, None}
use Rattle.lnfs_world.specs.Outcome.{Place}
use Rattle.lnfs_site.specs.Site.{site_of}
use Rattle.lnfs_monitor.specs.Rules.{Asks}
use Rattle.lnfs_nodes.specs.Trees.{with_tree, refusal_of, denial}
use Rattle.lnfs_nodes.specs.Acts.{placed}
use Rattle.lnfs_files.specs.Uses.{way_of}
use Rattle.lnfs_files.proofs.Stages.{err_refused}
use Rattle.lnfs_files.proofs.Uses.{kind_off, rules_off, by_state_id}
use Rattle.lnfs_files.proofs.Openable.{is_file}
use Rattle.lnfs_files.proofs.WriteOn.{some_place, is_there}
use Rattle.lnfs_files.proofs.files.usable_file.Goals as goal

pub returns-in_err-check_file-clause-refused : goal.returns-in_err-check_file-clause-refused
returns-in_err-check_file-clause-refused g c = λ p rest tells client.
    let at : Place = placed p c.args.caller.now in
    err_refused c.from_residual-in_err-check_file.result c.in_err-check_file.field-0.0 c.from_residual-in_err-check_file.ensures.1
    ∙ kind_off (site_of c.args.site.now) at rest c.args.tree.now c.args.opens.now c.args.id.now (way_of c.args.way) c.in_ok-held.held c.in_ok-held.ensures (refusal_of c.in_err-check_file.field-0.0) (λ n holds. c.in_err-check_file.ensures at n holds.tells.kind)

pub returns-in_err-check_allowed-clause-refused : goal.returns-in_err-check_allowed-clause-refused
returns-in_err-check_allowed-clause-refused g c = λ p rest tells client.
    let at : Place = placed p c.args.caller.now in
    err_refused c.from_residual-in_err-check_allowed.result c.in_err-check_allowed.field-0.0 c.from_residual-in_err-check_allowed.ensures.1
    ∙ rules_off (site_of c.args.site.now) at rest c.args.tree.now c.args.opens.now c.args.id.now (way_of c.args.way) c.in_ok-held.held c.in_ok-held.ensures (λ n holds. c.in_ok-check_file.ensures at n holds.tells.kind) (refusal_of c.in_err-check_allowed.field-0.0)
    (c.in_err-check_allowed.ensures ∙ ap (λ (q : Asks). denial (site_of c.args.site.now) c.args.caller.now.subject.0 q) c.question-question.ensures)

pub returns-in_err-check_usable-clause-refused : goal.returns-in_err-check_usable-clause-refused
returns-in_err-check_usable-clause-refused g c = λ p rest tells client.
    let at : Place = placed p c.args.caller.now in
    err_refused c.from_residual-in_err-check_usable.result c.in_err-check_usable.field-0.0 c.from_residual-in_err-check_usable.ensures.1
    ∙ by_state_id (site_of c.args.site.now) at rest c.args.tree.now c.args.opens.now c.args.id.now (way_of c.args.way) c.in_ok-held.held c.in_ok-held.ensures (λ n holds. c.in_ok-check_file.ensures at n holds.tells.kind) _
    (c.in_ok-check_allowed.ensures ∙ ap (λ (q : Asks). denial (site_of c.args.site.now) c.args.caller.now.subject.0 q) c.question-question.ensures)
    (λ n holds. c.in_err-check_usable.ensures p (with_tree rest c.args.tree.now) n tells client holds.id)

pub returns-clause-refused : goal.returns-clause-refused
returns-clause-refused g c = λ p rest tells client.
    let at : Place = placed p c.args.caller.now in
    by_state_id (site_of c.args.site.now) at rest c.args.tree.now c.args.opens.now c.args.id.now (way_of c.args.way) c.in_ok-held.held c.in_ok-held.ensures (λ n holds. c.in_ok-check_file.ensures at n holds.tells.kind) None
    (c.in_ok-check_allowed.ensures ∙ ap (λ (q : Asks). denial (site_of c.args.site.now) c.args.caller.now.subject.0 q) c.question-question.ensures)
    (λ n holds. c.in_ok-check_usable.ensures p (with_tree rest c.args.tree.now) n tells client holds.id)

pub returns-clause-file : goal.returns-clause-file
returns-clause-file g c =
    let at : Place = placed some_place c.args.caller.now in
    let x = is_there c.args.tree.now _ c.in_ok-held.held c.in_ok-held.ensures in
    is_file at x.0 _ x.1.tells.kind (c.in_ok-check_file.ensures at x.0 x.1.tells.kind)
