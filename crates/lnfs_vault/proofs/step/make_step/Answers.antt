use Rattle.std.proofs.Common.{◌≡◌, sym, ap, ◌∙◌, subst}
use Rattle.lnfs_policy.specs.PolicyText.{IsPolicy}
use Rattle.lnfs_step.specs.Request.{Asked, request_with}
use Rattle.lnfs_vault.specs.Requests.{seen_asked, seen_call, seen_task}
use Rattle.lnfs_vault.proofs.Asking.{asked_level}
use Rattle.lnfs_vault.proofs.step.make_step.Goals as goal

pub answer-requires-clause-level : goal.answer-requires-clause-level
answer-requires-clause-level g c =
    let X = g.X.ExtraRows.extra in
    let m = g.M.Mechanism.signing in
    let p = c.args.site.now in
    let event = c.args.arrival.event.now in
    let x = c.in-Asked in
    let is : Asked (seen_call x.call) (seen_task x.task) ≡ request_with X.grammar m p event.class event.message = sym (ap seen_asked x.is) ∙ c.requires.prepared.asked in
    asked_level X.grammar m p (subst IsPolicy c.policy.ensures c.law_policy.ensures) event.class event.message (seen_call x.call) (seen_task x.task) is
