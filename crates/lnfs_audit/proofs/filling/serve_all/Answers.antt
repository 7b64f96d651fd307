use Rattle.std.proofs.Common.{◌≡◌, ◌<◌, ◌+◌, ℕ, length, ap, subst, ◌∙◌, arith}
use Rattle.lnfs_audit.specs.Replies.{answers_to}
use Rattle.lnfs_audit.specs.Filled.{IsBelow, level_at}
use Rattle.lnfs_audit.proofs.Answered.{all_below, an_answer_for_each, served_under}
use Rattle.lnfs_audit.proofs.Filled.{all_filled}
use Rattle.lnfs_audit.proofs.filling.serve_all.Goals as goal

pub loop-number-preserved : goal.loop-number-preserved
loop-number-preserved g c =
    let X = g.X.ExtraRows.extra in
    let m = g.M.Mechanism.signing in
    record {
      policy = c.in_ok-passed-2.ensures.policy ∙ c.loop-number.invariant.policy;
      served = served_under X m c.loop-number.passed.policy c.args.first.policy c.args.events.now (c.loop-number.number + 1) c.loop-number.invariant.policy c.in_ok-passed-2.ensures.served;
    }

pub returns : goal.returns
returns g c =
    let X = g.X.ExtraRows.extra in
    let m = g.M.Mechanism.signing in
    let p = c.args.first.policy in
    let events = c.args.events.now in
    let n = c.loop-number.number in
    let count : c.len-count.result ≡ length p.labels = c.len-count.ensures.value ∙ ap length c.lattice.ensures in
    let all : length p.labels ≡ n = omega (arith, count, c.loop-number-test.false, c.loop-number.auto.number-end) in
    all_filled (answers_to X m p events) (λ i. IsBelow n (level_at m p events i)) c.loop-number.replies c.loop-number.invariant.served
    (λ i within.
    let there : i < length events = omega (arith, within, an_answer_for_each X m p events) in
    subst (λ (k : ℕ). IsBelow k (level_at m p events i)) all (all_below m p events c.args.levels.now c.requires.levels i there))
