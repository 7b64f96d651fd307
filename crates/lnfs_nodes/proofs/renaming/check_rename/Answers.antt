use Rattle.std.proofs.Common.{◌∙◌, sym, subst}
use Rattle.lnfs_calipso.specs.Label.{IsPreorderWithBottom}
use Rattle.lnfs_policy.specs.Policy.{Policy, dominance}
use Rattle.lnfs_site.specs.Site.{site_of}
use Rattle.lnfs_nodes.specs.Acts.{placed}
use Rattle.lnfs_nodes.proofs.Going.{held_is}
use Rattle.lnfs_nodes.proofs.Peeling.{err_checked}
use Rattle.lnfs_nodes.proofs.RenameChecked.{new_off, ends_off, mover_off, other_off, rename_checked}
use Rattle.lnfs_nodes.proofs.renaming.check_rename.Goals as goal

pub returns-in_err-check_name-2-clause-checked : goal.returns-in_err-check_name-2-clause-checked
returns-in_err-check_name-2-clause-checked c = λ p rest.
    new_off (site_of c.args.site.now) (placed p c.args.caller.now) rest c.args.tree.now c.args.old.now c.args.new.now c.in_ok-check_name.ensures c.in_err-check_name-2.field-0.0 c.in_err-check_name-2.ensures
    ∙ sym (err_checked _ c.from_residual-in_err-check_name-2.result _ _ c.from_residual-in_err-check_name-2.ensures.1)

pub returns-in_err-ends-clause-checked : goal.returns-in_err-ends-clause-checked
returns-in_err-ends-clause-checked c = λ p rest.
    ends_off (site_of c.args.site.now) (placed p c.args.caller.now) rest c.args.tree.now c.args.old.now c.args.new.now c.in_ok-check_name.ensures c.in_ok-check_name-2.ensures
    c.in_err-ends.field-0.0 (λ next. c.in_err-ends.ensures.refused p rest next)
    ∙ sym (err_checked _ c.from_residual-in_err-ends.result _ _ c.from_residual-in_err-ends.ensures.1)

pub returns-in_err-mover-clause-checked : goal.returns-in_err-mover-clause-checked
returns-in_err-mover-clause-checked c = λ p rest.
    mover_off (site_of c.args.site.now) (placed p c.args.caller.now) rest c.args.tree.now c.args.old.now c.args.new.now c.in_ok-check_name.ensures c.in_ok-check_name-2.ensures
    c.in_ok-ends.ends.from c.in_ok-ends.ends.to c.in_ok-ends.ensures.ends c.in_err-mover.field-0.0 (λ d holds dir. c.in_err-mover.ensures d holds dir)
    ∙ sym (err_checked _ c.from_residual-in_err-mover.result _ _ c.from_residual-in_err-mover.ensures.1)

pub returns-in_err-check_other-clause-checked : goal.returns-in_err-check_other-clause-checked
returns-in_err-check_other-clause-checked c = λ p rest.
    other_off (site_of c.args.site.now) (placed p c.args.caller.now) rest c.args.tree.now c.args.old.now c.args.new.now c.in_ok-check_name.ensures c.in_ok-check_name-2.ensures
    c.in_ok-ends.ends.from c.in_ok-ends.ends.to c.in_ok-ends.ensures.ends c.in_ok-mover.mover (λ d holds dir. c.in_ok-mover.ensures d holds dir)
    c.in_err-check_other.field-0.0 (λ d holds dir. c.in_err-check_other.ensures d holds dir)
    ∙ sym (err_checked _ c.from_residual-in_err-check_other.result _ _ c.from_residual-in_err-check_other.ensures.1)

pub returns : goal.returns
returns c = record {
  checked = λ p rest.
      rename_checked (site_of c.args.site.now) (placed p c.args.caller.now) rest c.args.tree.now c.args.old.now c.args.new.now c.in_ok-check_name.ensures c.in_ok-check_name-2.ensures
      c.in_ok-ends.ends.from c.in_ok-ends.ends.to c.in_ok-ends.ensures.ends c.in_ok-mover.mover (λ d holds dir. c.in_ok-mover.ensures d holds dir)
      (subst (λ (k : Policy). IsPreorderWithBottom (dominance k)) c.policy.ensures c.law_preorder.ensures) c.requires.facts
      (λ d holds dir. c.in_ok-check_other.ensures d holds dir);
  from = held_is c.args.tree.now _ c.in_ok-ends.ends.from c.in_ok-ends.ensures.ends.source;
  to = held_is c.args.tree.now _ c.in_ok-ends.ends.to c.in_ok-ends.ensures.ends.target;
}
