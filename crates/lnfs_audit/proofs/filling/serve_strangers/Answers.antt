use Rattle.std.proofs.Common.{◌<◌, ◌≤◌, [], length, get_or, None, refl, sym, ◌∙◌, arith}
use Rattle.lnfs_audit.specs.Replies.{answers_to}
use Rattle.lnfs_audit.specs.Filled.{level_at}
use Rattle.lnfs_audit.proofs.Answered.{an_answer_for_each, answered_purged, as_many, some_level, stranger_journal}
use Rattle.lnfs_audit.proofs.Filled.{no_stranger, not_stranger, one_stranger, all_strangers}
use Rattle.lnfs_audit.proofs.filling.serve_strangers.Goals as goal

pub loop-index-init : goal.loop-index-init
loop-index-init g c =
    let X = g.X.ExtraRows.extra in
    let m = g.M.Mechanism.signing in
    let p = c.args.passed.policy in
    let events = c.args.events.now in
    record { policy = refl; filled = no_stranger (level_at m p events) (answers_to X m p events) c.args.replies.now (c.requires.room ∙ sym (an_answer_for_each X m p events)) }

pub returns-clause-served : goal.returns-clause-served
returns-clause-served g c =
    let X = g.X.ExtraRows.extra in
    let m = g.M.Mechanism.signing in
    let p = c.args.passed.policy in
    let events = c.args.events.now in
    let all : length (answers_to X m p events) ≤ c.loop-index.index = omega (arith, c.loop-index-test.false, an_answer_for_each X m p events) in
    all_strangers (level_at m p events) (answers_to X m p events) c.loop-index.replies c.loop-index.index c.loop-index.invariant.filled all

pub bounds-levels-index : goal.bounds-levels-index
bounds-levels-index g c = omega (arith, c.loop-index-test.true, as_many g.M.Mechanism.signing c.args.passed.policy c.args.events.now c.args.levels.now c.requires.levels)

pub loop-index-preserved-then-is_some : goal.loop-index-preserved-then-is_some
loop-index-preserved-then-is_some g c =
    let X = g.X.ExtraRows.extra in
    let m = g.M.Mechanism.signing in
    let p = c.args.passed.policy in
    let events = c.args.events.now in
    let i = c.loop-index.index in
    let own = get_or c.args.levels.now i None in
    let of = some_level m p events i c.index-events-index.result c.loop-index-test.true c.index-events-index.is c.args.levels.now c.requires.levels own refl c.if-is_some.ensures in
    record {
      policy = c.loop-index.invariant.policy;
      filled = not_stranger (level_at m p events) (answers_to X m p events) c.loop-index.replies i c.loop-index.invariant.filled of.0 of.1;
    }

pub loop-index-preserved : goal.loop-index-preserved
loop-index-preserved g c =
    let X = g.X.ExtraRows.extra in
    let m = g.M.Mechanism.signing in
    let p = c.args.passed.policy in
    let events = c.args.events.now in
    let i = c.loop-index.index in
    let event = c.index-events-index.result in
    let own = get_or c.args.levels.now i None in
    let reply = c.in_ok-left.reply in
    let within : i < length (answers_to X m p events) = omega (arith, c.loop-index-test.true, an_answer_for_each X m p events) in
    let none = stranger_journal m p events i event c.loop-index-test.true c.index-events-index.is c.args.levels.now c.requires.levels own refl c.if-is_some.ensures in
    let is = answered_purged m p events i event c.loop-index-test.true c.index-events-index.is c.args.levels.now c.requires.levels own refl X c.loop-index.passed.policy [] reply c.loop-index.invariant.policy none c.in_ok-left.ensures.reply in
    record {
      policy = c.in_ok-left.ensures.policy ∙ c.loop-index.invariant.policy;
      filled = one_stranger (level_at m p events) (answers_to X m p events) c.loop-index.replies i c.loop-index.invariant.filled reply within is;
    }
