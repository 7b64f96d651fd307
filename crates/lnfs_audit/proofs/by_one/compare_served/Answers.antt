use Rattle.std.proofs.Common.{◌≡◌, ◌<◌, ◌≤◌, ◌++◌, ◌∷◌, [], length, sym, ap, ◌∙◌, arith}
use Rattle.lnfs_vault.specs.Kept.{Kept}
use Rattle.lnfs_audit.specs.Replies.{answers_to}
use Rattle.lnfs_audit.proofs.Answered.{an_answer_for_each, answered, taken_more}
use Rattle.lnfs_audit.proofs.Compared.{goes_on, differs, found_all}
use Rattle.lnfs_audit.proofs.by_one.compare_served.Goals as goal

pub returns-in_default : goal.returns-in_default
returns-in_default g c =
    let X = g.X.ExtraRows.extra in
    let m = g.M.Mechanism.signing in
    let p = c.args.vault.now.policy in
    let events = c.args.events.now in
    let i = c.loop-index.index in
    let reply = c.in_ok-reply.reply in
    let within : i < length (answers_to X m p events) = omega (arith, c.loop-index-test.true, an_answer_for_each X m p events) in
    let is = answered X m p events i c.index-events-index.result c.loop-index-test.true c.index-events-index.is c.loop-index.vault.policy c.loop-index.vault.journal reply c.loop-index.invariant.policy c.loop-index.invariant.journal c.in_ok-reply.ensures.answer in
    differs (answers_to X m p events) c.args.records.now i c.loop-index.at reply within is c.loop-index.invariant.same (rw c.in_default.is at c.in_ok-next.ensures)

pub loop-index-preserved : goal.loop-index-preserved
loop-index-preserved g c =
    let X = g.X.ExtraRows.extra in
    let m = g.M.Mechanism.signing in
    let p = c.args.vault.now.policy in
    let events = c.args.events.now in
    let i = c.loop-index.index in
    let event = c.index-events-index.result in
    let reply = c.in_ok-reply.reply in
    let within : i < length (answers_to X m p events) = omega (arith, c.loop-index-test.true, an_answer_for_each X m p events) in
    let is = answered X m p events i event c.loop-index-test.true c.index-events-index.is c.loop-index.vault.policy c.loop-index.vault.journal reply c.loop-index.invariant.policy c.loop-index.invariant.journal c.in_ok-reply.ensures.answer in
    let kept : c.serve.new.vault ≡ record c.loop-index.vault { journal = c.loop-index.vault.journal ++ event ∷ [] } = c.in_ok-reply.ensures.kept in
    record {
      policy = ap (λ (k : Kept). k.policy) kept ∙ c.loop-index.invariant.policy;
      journal = ap (λ (k : Kept). k.journal) kept ∙ taken_more events i event c.loop-index.vault.journal c.loop-index-test.true c.index-events-index.is c.loop-index.invariant.journal;
      same = goes_on (answers_to X m p events) c.args.records.now i c.loop-index.at reply within is c.loop-index.invariant.same c.in-Some.next (rw c.in-Some.is at c.in_ok-next.ensures);
    }

pub returns : goal.returns
returns g c =
    let X = g.X.ExtraRows.extra in
    let m = g.M.Mechanism.signing in
    let p = c.args.vault.now.policy in
    let events = c.args.events.now in
    let all : length (answers_to X m p events) ≤ c.loop-index.index = omega (arith, c.loop-index-test.false, an_answer_for_each X m p events) in
    found_all (answers_to X m p events) c.args.records.now c.loop-index.index c.loop-index.at (length events) all (sym (an_answer_for_each X m p events)) c.loop-index.invariant.same c.found_at_end.result c.found_at_end.ensures.faithful c.found_at_end.ensures.surplus
