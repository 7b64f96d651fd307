use Rattle.lnfs_world.specs.Outcome.{Place}
use Rattle.lnfs_site.specs.Site.{site_of}
use Rattle.lnfs_nodes.specs.Acts.{placed}
use Rattle.lnfs_nodes.proofs.RenameChecked.{ends_refused, source_off, target_off, source_kind_off, target_kind_off, source_label_off, target_label_off}
use Rattle.lnfs_nodes.proofs.renaming.check_ends.Goals as goal

pub returns-in_err-from-clause-refused : goal.returns-in_err-from-clause-refused
returns-in_err-from-clause-refused c =
    ends_refused (site_of c.args.site.now) (λ (p : Place). placed p c.args.caller.now) c.args.tree.now c.from_residual.result c.in_err-from.field-0.0 c.from_residual.ensures.1 (λ p rest next.
    source_off (site_of c.args.site.now) (placed p c.args.caller.now) rest c.args.tree.now next c.in_err-from.field-0.0 c.in_err-from.ensures)

pub returns-in_err-to-clause-refused : goal.returns-in_err-to-clause-refused
returns-in_err-to-clause-refused c =
    ends_refused (site_of c.args.site.now) (λ (p : Place). placed p c.args.caller.now) c.args.tree.now c.from_residual-in_err-to.result c.in_err-to.field-0.0 c.from_residual-in_err-to.ensures.1 (λ p rest next.
    target_off (site_of c.args.site.now) (placed p c.args.caller.now) rest c.args.tree.now next c.in_ok-from.from c.in_ok-from.ensures c.in_err-to.field-0.0 c.in_err-to.ensures)

pub returns-in_err-check_directory-clause-refused : goal.returns-in_err-check_directory-clause-refused
returns-in_err-check_directory-clause-refused c =
    ends_refused (site_of c.args.site.now) (λ (p : Place). placed p c.args.caller.now) c.args.tree.now c.from_residual-in_err-check_directory.result c.in_err-check_directory.field-0.0 c.from_residual-in_err-check_directory.ensures.1 (λ p rest next.
    source_kind_off (site_of c.args.site.now) (placed p c.args.caller.now) rest c.args.tree.now next c.in_ok-from.from c.in_ok-from.ensures c.in_ok-to.to c.in_ok-to.ensures c.in_err-check_directory.field-0.0 c.in_err-check_directory.ensures)

pub returns-in_err-check_directory-2-clause-refused : goal.returns-in_err-check_directory-2-clause-refused
returns-in_err-check_directory-2-clause-refused c =
    ends_refused (site_of c.args.site.now) (λ (p : Place). placed p c.args.caller.now) c.args.tree.now c.from_residual-in_err-check_directory-2.result c.in_err-check_directory-2.field-0.0 c.from_residual-in_err-check_directory-2.ensures.1 (λ p rest next.
    target_kind_off (site_of c.args.site.now) (placed p c.args.caller.now) rest c.args.tree.now next c.in_ok-from.from c.in_ok-from.ensures c.in_ok-to.to c.in_ok-to.ensures c.in_ok-check_directory.ensures c.in_err-check_directory-2.field-0.0 c.in_err-check_directory-2.ensures)

pub returns-in_err-check_allowed-clause-refused : goal.returns-in_err-check_allowed-clause-refused
returns-in_err-check_allowed-clause-refused c =
    ends_refused (site_of c.args.site.now) (λ (p : Place). placed p c.args.caller.now) c.args.tree.now c.from_residual-in_err-check_allowed.result c.in_err-check_allowed.field-0.0 c.from_residual-in_err-check_allowed.ensures.1 (λ p rest next.
    source_label_off (site_of c.args.site.now) (placed p c.args.caller.now) rest c.args.tree.now next c.in_ok-from.from c.in_ok-from.ensures c.in_ok-to.to c.in_ok-to.ensures c.in_ok-check_directory.ensures c.in_ok-check_directory-2.ensures c.in_err-check_allowed.field-0.0 c.in_err-check_allowed.ensures)

pub returns-in_err-check_allowed-2-clause-refused : goal.returns-in_err-check_allowed-2-clause-refused
returns-in_err-check_allowed-2-clause-refused c =
    ends_refused (site_of c.args.site.now) (λ (p : Place). placed p c.args.caller.now) c.args.tree.now c.from_residual-in_err-check_allowed-2.result c.in_err-check_allowed-2.field-0.0 c.from_residual-in_err-check_allowed-2.ensures.1 (λ p rest next.
    target_label_off (site_of c.args.site.now) (placed p c.args.caller.now) rest c.args.tree.now next c.in_ok-from.from c.in_ok-from.ensures c.in_ok-to.to c.in_ok-to.ensures c.in_ok-check_directory.ensures c.in_ok-check_directory-2.ensures c.in_ok-check_allowed.ensures c.in_err-check_allowed-2.field-0.0 c.in_err-check_allowed-2.ensures)
