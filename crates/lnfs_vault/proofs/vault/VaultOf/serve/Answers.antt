use Rattle.std.proofs.Common.{◌≡◌, ◌≤◌, ℕ, List, Option, length, sym, ap, ◌∙◌, subst}
use Rattle.std.specs.Prelude.{IfSome}
use Rattle.std.proofs.lemmas.Result.{IfOk-weaker}
use Rattle.lnfs_calipso.specs.Label.{IsPreorderWithBottom}
use Rattle.lnfs_policy.specs.Policy.{Policy, dominance}
use Rattle.lnfs_policy.specs.PolicyText.{IsPolicy}
use Rattle.lnfs_step.specs.Journal.{state_after}
use Rattle.lnfs_world.specs.World as rows
use Rattle.lnfs_operations.specs.Identifiers.{client_named, session_named}
use Rattle.lnfs_operations.proofs.SessionLaws.{session_under-at}
use Rattle.lnfs_step.specs.Sessions.{HasOrigin}
use Rattle.lnfs_vault.specs.Kept.{Kept}
use Rattle.lnfs_vault.proofs.Retrying.{served_again}
use Rattle.lnfs_vault.proofs.vault.VaultOf.serve.Goals as goal

pub returns-clause-answer : goal.returns-clause-answer
returns-clause-answer g c =
    let old = c.args.self.now in
    let policy : c.policy.result.now ≡ old.policy = c.policy.ensures ∙ ap (λ (k : Kept). k.policy) c.self.view_is in
    let lattice = subst (λ (p : Policy). IsPreorderWithBottom (dominance p)) policy c.law_preorder.ensures in
    IfOk-weaker c.attempt.result _ _ (λ served reply. reply ∙ c.purge.ensures.replies old.policy lattice old.journal c.args.event) c.attempt.ensures.reply

pub returns-clause-retry : goal.returns-clause-retry
returns-clause-retry g c = λ call arguments compound args x slot first comes same.
    let X = g.X.ExtraRows.extra in
    let m = g.M.Mechanism.signing in
    let old = c.args.self.now in
    let view = ap (λ (k : Kept). k.policy) c.self.view_is in
    let lattice = subst (λ (p : Policy). IsPreorderWithBottom (dominance p)) (c.policy.ensures ∙ view) c.law_preorder.ensures in
    let spelled = subst IsPolicy (c.policy-2.ensures ∙ view) c.law_policy.ensures in
    let kept : rows.Kept = record { arguments = arguments; reply = first } in
    let names = comes.names in
    let there = session_under-at args.session (state_after X m old.policy old.journal).world.sessions x names.session in
    let origin = c.sessions.ensures.origin old.policy lattice old.journal (session_named args.session) x args.slot slot kept there names.slot (ap (λ (s : rows.Slot). s.kept) same) in
    served_again X m old c.attempt.new.self c.args.event call arguments first c.attempt.result c.attempt.ensures.reply c.attempt.ensures.line c.attempt.ensures.kept
    (subst (λ l. HasOrigin X m old.policy old.journal l kept) names.own origin)
    (c.sessions.ensures.retry old.policy spelled old.journal c.args.event call arguments compound args x slot first comes same)

pub returns-clause-created : goal.returns-clause-created
returns-clause-created g c = λ call arguments compound args client first comes last kept.
    let X = g.X.ExtraRows.extra in
    let m = g.M.Mechanism.signing in
    let old = c.args.self.now in
    let view = ap (λ (k : Kept). k.policy) c.self.view_is in
    let lattice = subst (λ (p : Policy). IsPreorderWithBottom (dominance p)) (c.policy.ensures ∙ view) c.law_preorder.ensures in
    let origin = c.sessions.ensures.origin_created old.policy lattice old.journal (client_named args.client) client (record { arguments = arguments; reply = first }) comes.record_of kept in
    served_again X m old c.attempt.new.self c.args.event call arguments first c.attempt.result c.attempt.ensures.reply c.attempt.ensures.line c.attempt.ensures.kept
    (subst (λ l. HasOrigin X m old.policy old.journal l (record { arguments = arguments; reply = first })) comes.own origin)
    (c.sessions.ensures.created old.policy old.journal c.args.event call arguments compound args client first comes last kept)

pub returns-clause-room : goal.returns-clause-room
returns-clause-room g c = λ call arguments compound args x slot comes.
    let old = c.args.self.now in
    let view = ap (λ (k : Kept). k.policy) c.self.view_is in
    let spelled = subst IsPolicy (c.policy-2.ensures ∙ view) c.law_policy.ensures in
    let room = c.sessions.ensures.room old.policy spelled old.journal c.args.event call arguments compound args x slot comes in
    IfOk-weaker c.attempt.result _ _ (λ served reply. subst (λ (r : Option (List ℕ)). IfSome r (λ bytes. length bytes ≤ x.channel.max_response)) (sym reply) room) c.attempt.ensures.reply
