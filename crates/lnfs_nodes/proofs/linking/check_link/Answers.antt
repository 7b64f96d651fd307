use Rattle.std.proofs.Common.{◌∙◌, sym}
use Rattle.lnfs_site.specs.Site.{site_of}
use Rattle.lnfs_nodes.specs.Acts.{placed}
use Rattle.lnfs_nodes.proofs.Peeling.{err_checked}
use Rattle.lnfs_nodes.proofs.LinkChecked.{name_off, node_off, dir_off, kind_off, no_dir, change_off, drop_off, link_checked}
use Rattle.lnfs_nodes.proofs.linking.check_link.Goals as goal

pub returns-in_err-check_name : goal.returns-in_err-check_name
returns-in_err-check_name c = λ p rest.
    name_off (site_of c.args.site.now) (placed p c.args.caller.now) rest c.args.tree.now c.args.name.now c.in_err-check_name.field-0.0 c.in_err-check_name.ensures
    ∙ sym (err_checked _ c.from_residual.result _ _ c.from_residual.ensures.1)

pub returns-in_err-node : goal.returns-in_err-node
returns-in_err-node c = λ p rest.
    node_off (site_of c.args.site.now) (placed p c.args.caller.now) rest c.args.tree.now c.args.name.now c.in_ok-check_name.ensures c.in_err-node.field-0.0 c.in_err-node.ensures
    ∙ sym (err_checked _ c.from_residual-in_err-node.result _ _ c.from_residual-in_err-node.ensures.1)

pub returns-in_err-dir : goal.returns-in_err-dir
returns-in_err-dir c = λ p rest.
    dir_off (site_of c.args.site.now) (placed p c.args.caller.now) rest c.args.tree.now c.args.name.now c.in_ok-check_name.ensures c.in_ok-node.node c.in_ok-node.ensures c.in_err-dir.field-0.0 c.in_err-dir.ensures
    ∙ sym (err_checked _ c.from_residual-in_err-dir.result _ _ c.from_residual-in_err-dir.ensures.1)

pub returns-then-is_dir : goal.returns-then-is_dir
returns-then-is_dir c = λ p rest.
    kind_off (site_of c.args.site.now) (placed p c.args.caller.now) rest c.args.tree.now c.args.name.now c.in_ok-check_name.ensures c.in_ok-node.node c.in_ok-node.ensures c.in_ok-dir.dir c.in_ok-dir.ensures (sym c.is_dir.ensures ∙ c.if-is_dir.true) c.namespace.result c.namespace.ensures

pub returns-in_err-check_directory : goal.returns-in_err-check_directory
returns-in_err-check_directory c = λ p rest.
    no_dir (site_of c.args.site.now) (placed p c.args.caller.now) rest c.args.tree.now c.args.name.now c.in_ok-node.node c.in_ok-dir.dir c.in_ok-check_name.ensures c.in_ok-node.ensures c.in_ok-dir.ensures (sym c.is_dir.ensures ∙ c.if-is_dir.false) c.in_err-check_directory.field-0.0 c.in_err-check_directory.ensures
    ∙ sym (err_checked _ c.from_residual-in_err-check_directory.result _ _ c.from_residual-in_err-check_directory.ensures.1)

pub returns-in_err-check_allowed : goal.returns-in_err-check_allowed
returns-in_err-check_allowed c = λ p rest.
    change_off (site_of c.args.site.now) (placed p c.args.caller.now) rest c.args.tree.now c.args.name.now c.in_ok-node.node c.in_ok-dir.dir c.in_ok-check_name.ensures c.in_ok-node.ensures c.in_ok-dir.ensures (sym c.is_dir.ensures ∙ c.if-is_dir.false) c.in_ok-check_directory.ensures c.in_err-check_allowed.field-0.0 c.in_err-check_allowed.ensures
    ∙ sym (err_checked _ c.from_residual-in_err-check_allowed.result _ _ c.from_residual-in_err-check_allowed.ensures.1)

pub returns-in_err-check_allowed-2 : goal.returns-in_err-check_allowed-2
returns-in_err-check_allowed-2 c = λ p rest.
    drop_off (site_of c.args.site.now) (placed p c.args.caller.now) rest c.args.tree.now c.args.name.now c.in_ok-node.node c.in_ok-dir.dir c.in_ok-check_name.ensures c.in_ok-node.ensures c.in_ok-dir.ensures (sym c.is_dir.ensures ∙ c.if-is_dir.false) c.in_ok-check_directory.ensures c.in_ok-check_allowed.ensures c.in_err-check_allowed-2.field-0.0 c.in_err-check_allowed-2.ensures
    ∙ sym (err_checked _ c.from_residual-in_err-check_allowed-2.result _ _ c.from_residual-in_err-check_allowed-2.ensures.1)

pub returns : goal.returns
returns c = λ p rest.
    link_checked (site_of c.args.site.now) (placed p c.args.caller.now) rest c.args.tree.now c.args.name.now c.in_ok-node.node c.in_ok-dir.dir c.in_ok-check_name.ensures c.in_ok-node.ensures c.in_ok-dir.ensures (sym c.is_dir.ensures ∙ c.if-is_dir.false)
    c.in_ok-check_directory.ensures c.in_ok-check_allowed.ensures c.in_ok-check_allowed-2.ensures
