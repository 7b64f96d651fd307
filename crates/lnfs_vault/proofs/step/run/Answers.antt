use Rattle.std.proofs.Common.{ℕ, ◌++◌, ap, ◌∙◌, subst}
use Rattle.std.specs.Prelude.{option_map}
use Rattle.lnfs_calipso.specs.Label.{IsPreorderWithBottom}
use Rattle.lnfs_policy.specs.Policy.{Policy, dominance}
use Rattle.lnfs_world.specs.Outcome.{begins_at}
use Rattle.lnfs_world.specs.Lawful.{Turn}
use Rattle.lnfs_world.specs.Both.{Both, both}
use Rattle.lnfs_site.specs.Site.{site_of}
use Rattle.lnfs_operations.specs.SlotRule.{Answer, served}
use Rattle.lnfs_step.specs.Step.{line_of}
use Rattle.std.specs.Prelude.{Some}
use Rattle.lnfs_step.specs.Wrapping.{answer_text}
use Rattle.lnfs_vault.specs.Lines.{IsLineOf}
use Rattle.lnfs_vault.specs.Requests.{seen_wrapping}
use Rattle.lnfs_vault.specs.Seals.{seen_sealing}
use Rattle.lnfs_vault.proofs.Bodies.{has_begun, body_fits}
use Rattle.lnfs_vault.proofs.step.run.Goals as goal

pub answered-unsealed-requires-clause-room : goal.answered-unsealed-requires-clause-room
answered-unsealed-requires-clause-room g c =
    let X = g.X.ExtraRows.extra in
    let call = c.args.call.now in
    let run = c.args.run.now in
    let b = both c.args.engine.now.store (g.X.ExtraRows.rows c.args.engine.now.extra) in
    let turn = served X (site_of c.args.site.now) (record { arguments = run.arguments.now; size = c.len-size.result; count = run.compound.count }) run.compound (begins_at call.level.0 c.args.arrival.event.now.moment) b in
    has_begun (seen_sealing c.args.sealing) call.xid c.in_ok-ran.ran.reply.items turn.answer.result (c.in_ok-ran.ensures.reply ∙ ap (λ out. out ++ turn.answer.result) c.requires.begun)

pub answered-unsealed-requires-clause-short : goal.answered-unsealed-requires-clause-short
answered-unsealed-requires-clause-short g c =
    let X = g.X.ExtraRows.extra in
    let event = c.args.arrival.event.now in
    let call = c.args.call.now in
    let run = c.args.run.now in
    let b = both c.args.engine.now.store (g.X.ExtraRows.rows c.args.engine.now.extra) in
    let turn = served X (site_of c.args.site.now) (record { arguments = run.arguments.now; size = c.len-size.result; count = run.compound.count }) run.compound (begins_at call.level.0 event.moment) b in
    let built = c.in_ok-ran.ensures.reply ∙ ap (λ out. out ++ turn.answer.result) c.requires.begun in
    body_fits X g.X.ExtraRows.lawful (seen_sealing c.args.sealing) call.xid c.in_ok-ran.ran.reply.items c.args.site.now (subst (λ (p : Policy). IsPreorderWithBottom (dominance p)) c.policy.ensures c.law_preorder.ensures) (record { arguments = run.arguments.now; size = c.len-size.result; count = run.compound.count }) run.compound call.level.0 event.moment b c.requires.facts c.requires.level c.requires.bounds c.requires.read built

pub returns : goal.returns
returns g c =
    let X = g.X.ExtraRows.extra in
    let m = g.M.Mechanism.signing in
    let event = c.args.arrival.event.now in
    let call = c.args.call.now in
    let run = c.args.run.now in
    let b = both c.args.engine.now.store (g.X.ExtraRows.rows c.args.engine.now.extra) in
    let w = seen_wrapping call.wrapping in
    let turn : ℕ → Turn Answer (Both X.Row) = λ size. served X (site_of c.args.site.now) (record { arguments = run.arguments.now; size = size; count = run.compound.count }) run.compound (begins_at call.level.0 event.moment) b in
    let size = c.len-size.ensures in
    let built = c.in_ok-ran.ensures.reply ∙ ap (λ out. out ++ (turn c.len-size.result).answer.result) c.requires.begun in
    record {
      stands = c.in_ok-ran.ensures.state ∙ ap (λ n. (turn n).state) size;
      reply = c.answered-unsealed.ensures (turn c.len-size.result).answer.result built ∙ ap (λ n. Some (answer_text m w call.xid (turn n).answer.result)) size;
      line = subst (λ d. IsLineOf c.args.arrival.at (option_map line_of d) c.in_ok-line.line) (c.in_ok-ran.ensures.denial ∙ ap (λ n. (turn n).answer.denial) size) c.in_ok-line.ensures;
    }
