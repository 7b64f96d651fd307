use Rattle.std.proofs.Common.{ap, sym, ◌∙◌}
use Rattle.lnfs_step.specs.Request.{asked_of}
use Rattle.lnfs_vault.proofs.request.read_request.Goals as goal

pub returns-in-Err-clause-asked : goal.returns-in-Err-clause-asked
unfolding Rattle.lnfs_step.specs.Request.request_with
returns-in-Err-clause-asked g c =
    let m = g.M.Mechanism.signing in
    c.refused.ensures.asked m c.args.policy.now c.args.class ∙ sym (ap (asked_of g.E.ExtraGrammar.grammar m c.args.policy.now c.args.class) c.in-Err.ensures)

pub returns-in-Err-clause-form : goal.returns-in-Err-clause-form
returns-in-Err-clause-form g c = c.refused.ensures.form
