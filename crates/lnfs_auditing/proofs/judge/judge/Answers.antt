use Rattle.std.proofs.Common.{rules, ◌∷◌, [], sym}
use Rattle.lnfs_policy.specs.Policy.{Policy}
use Rattle.lnfs_stage.specs.Contents.{Contents}
use Rattle.lnfs_commands.proofs.Ruling.{rules_stop, rules_then}
use Rattle.lnfs_auditing.specs.Audits.{audited, permitted}
use Rattle.lnfs_auditing.proofs.Auditing.{is_permitted_due, follows_as, stops_at_mode}
use Rattle.lnfs_auditing.proofs.judge.judge.Goals as goal

pub returns-in_err-policy : goal.returns-in_err-policy
returns-in_err-policy g c =
    let a = c.args.asked.now in
    let next = λ (p : Policy) (files : Contents). permitted a.purged p.mode (audited p a.traffic.now a.replies.now files) in
    rules_stop a.policy.now (a.traffic.now ∷ a.replies.now ∷ []) next _ (search rules) c.in_err-policy.ensures

pub returns-then-not-is_permitted : goal.returns-then-not-is_permitted
returns-then-not-is_permitted g c =
    let a = c.args.asked.now in
    let next = λ (p : Policy) (files : Contents). permitted a.purged p.mode (audited p a.traffic.now a.replies.now files) in
    rules_then a.policy.now (a.traffic.now ∷ a.replies.now ∷ []) next c.in_ok-policy.policy c.in_ok-policy.ensures
    (stops_at_mode _ _ (a.traffic.now ∷ a.replies.now ∷ []) (λ files. audited c.in_ok-policy.policy a.traffic.now a.replies.now files) (search rules) (search rules))

pub returns : goal.returns
returns g c =
    let a = c.args.asked.now in
    let next = λ (p : Policy) (files : Contents). permitted a.purged p.mode (audited p a.traffic.now a.replies.now files) in
    rules_then a.policy.now (a.traffic.now ∷ a.replies.now ∷ []) next c.in_ok-policy.policy c.in_ok-policy.ensures
    (follows_as _ _ (λ files. sym (is_permitted_due _ _ (search rules))) c.under.ensures)
