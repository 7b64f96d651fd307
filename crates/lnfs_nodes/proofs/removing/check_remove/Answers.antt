use Rattle.std.proofs.Common.{◌∙◌, sym}
use Rattle.lnfs_site.specs.Site.{site_of}
use Rattle.lnfs_nodes.specs.Acts.{placed}
use Rattle.lnfs_nodes.proofs.Going.{held_is}
use Rattle.lnfs_nodes.proofs.Peeling.{err_checked}
use Rattle.lnfs_nodes.proofs.RemoveChecked.{name_off, dir_off, kind_off, change_off, child_off, drop_off, remove_checked}
use Rattle.lnfs_nodes.proofs.removing.check_remove.Goals as goal

pub returns-in_err-check_name-clause-checked : goal.returns-in_err-check_name-clause-checked
returns-in_err-check_name-clause-checked c = λ p rest.
    name_off (site_of c.args.site.now) (placed p c.args.caller.now) rest c.args.tree.now c.args.name.now c.in_err-check_name.field-0.0 c.in_err-check_name.ensures
    ∙ sym (err_checked _ c.from_residual.result _ _ c.from_residual.ensures.1)

pub returns-in_err-dir-clause-checked : goal.returns-in_err-dir-clause-checked
returns-in_err-dir-clause-checked c = λ p rest.
    dir_off (site_of c.args.site.now) (placed p c.args.caller.now) rest c.args.tree.now c.args.name.now c.in_ok-check_name.ensures c.in_err-dir.field-0.0 c.in_err-dir.ensures
    ∙ sym (err_checked _ c.from_residual-in_err-dir.result _ _ c.from_residual-in_err-dir.ensures.1)

pub returns-in_err-check_directory-clause-checked : goal.returns-in_err-check_directory-clause-checked
returns-in_err-check_directory-clause-checked c = λ p rest.
    kind_off (site_of c.args.site.now) (placed p c.args.caller.now) rest c.args.tree.now c.args.name.now c.in_ok-check_name.ensures c.in_ok-dir.dir c.in_ok-dir.ensures c.in_err-check_directory.field-0.0 c.in_err-check_directory.ensures
    ∙ sym (err_checked _ c.from_residual-in_err-check_directory.result _ _ c.from_residual-in_err-check_directory.ensures.1)

pub returns-in_err-check_allowed-clause-checked : goal.returns-in_err-check_allowed-clause-checked
returns-in_err-check_allowed-clause-checked c = λ p rest.
    change_off (site_of c.args.site.now) (placed p c.args.caller.now) rest c.args.tree.now c.args.name.now c.in_ok-check_name.ensures c.in_ok-dir.dir c.in_ok-dir.ensures c.in_ok-check_directory.ensures c.in_err-check_allowed.field-0.0 c.in_err-check_allowed.ensures
    ∙ sym (err_checked _ c.from_residual-in_err-check_allowed.result _ _ c.from_residual-in_err-check_allowed.ensures.1)

pub returns-in_err-child-clause-checked : goal.returns-in_err-child-clause-checked
returns-in_err-child-clause-checked c = λ p rest.
    child_off (site_of c.args.site.now) (placed p c.args.caller.now) rest c.args.tree.now c.args.name.now c.in_ok-check_name.ensures c.in_ok-dir.dir c.in_ok-dir.ensures c.in_ok-check_directory.ensures c.in_ok-check_allowed.ensures c.in_err-child.field-0.0 (λ d holds one. c.in_err-child.ensures d holds one)
    ∙ sym (err_checked _ c.from_residual-in_err-child.result _ _ c.from_residual-in_err-child.ensures.1)

pub returns-in_err-check_allowed-2-clause-checked : goal.returns-in_err-check_allowed-2-clause-checked
returns-in_err-check_allowed-2-clause-checked c = λ p rest.
    drop_off (site_of c.args.site.now) (placed p c.args.caller.now) rest c.args.tree.now c.args.name.now c.in_ok-check_name.ensures c.in_ok-dir.dir c.in_ok-dir.ensures c.in_ok-check_directory.ensures c.in_ok-check_allowed.ensures c.in_ok-child.child (λ d holds one. c.in_ok-child.ensures d holds one) c.in_err-check_allowed-2.field-0.0 c.in_err-check_allowed-2.ensures
    ∙ sym (err_checked _ c.from_residual-in_err-check_allowed-2.result _ _ c.from_residual-in_err-check_allowed-2.ensures.1)

pub returns-clause-checked : goal.returns-clause-checked
returns-clause-checked c = λ p rest.
    remove_checked (site_of c.args.site.now) (placed p c.args.caller.now) rest c.args.tree.now c.args.name.now c.in_ok-check_name.ensures c.in_ok-dir.dir c.in_ok-dir.ensures c.in_ok-check_directory.ensures c.in_ok-check_allowed.ensures c.in_ok-child.child (λ d holds one. c.in_ok-child.ensures d holds one) c.in_ok-check_allowed-2.ensures

pub returns-clause-dir : goal.returns-clause-dir
returns-clause-dir c = held_is c.args.tree.now _ c.in_ok-dir.dir c.in_ok-dir.ensures
