use Rattle.std.proofs.Common.{◌≡◌, ◌<◌, ◌≤◌, ◌++◌, ◌∷◌, [], List, true, false, length, take, get_or, Some, None, refl, sym, ap, ◌∙◌, arith}
use Rattle.std.proofs.lemmas.List.{append-nil}
use Rattle.lnfs_types.specs.declared.event.Event.{Event}
use Rattle.lnfs_policy.specs.Policy.{Policy, dominance}
use Rattle.lnfs_step.specs.Purged.{is_dominated, purged, purged_to}
use Rattle.lnfs_vault.specs.Kept.{Kept}
use Rattle.lnfs_audit.specs.Levels.{numbered}
use Rattle.lnfs_audit.specs.Replies.{answers_to}
use Rattle.lnfs_audit.specs.Filled.{level_at}
use Rattle.lnfs_audit.proofs.Answered.{an_answer_for_each, answered_purged, journal_more, level_kept, not_own, purged_none}
use Rattle.lnfs_audit.proofs.Filled.{none_of_level, one_of_level, not_of_level, all_of_level}
use Rattle.lnfs_audit.proofs.filling.serve_dominated.Goals as goal

pub returns-clause-served : goal.returns-clause-served
returns-clause-served g c =
    let X = g.X.ExtraRows.extra in
    let m = g.M.Mechanism.signing in
    let p = c.args.vault.now.policy in
    let events = c.args.events.now in
    let all : length (answers_to X m p events) ≤ c.loop-index.index = omega (arith, c.loop-index-test.false, an_answer_for_each X m p events) in
    all_of_level (level_at m p events) (answers_to X m p events) c.loop-index.replies c.args.level.0 c.loop-index.index c.loop-index.invariant.filled all

pub loop-index-init : goal.loop-index-init
loop-index-init g c =
    let X = g.X.ExtraRows.extra in
    let m = g.M.Mechanism.signing in
    let p = c.args.vault.now.policy in
    let events = c.args.events.now in
    record {
      policy = refl;
      journal = c.requires.new ∙ sym (purged_none m p c.args.level.0);
      filled = none_of_level (level_at m p events) (answers_to X m p events) c.args.replies.now c.args.level.0 c.requires.served;
    }

pub loop-index-preserved-then-not-is_for : goal.loop-index-preserved-then-not-is_for
loop-index-preserved-then-not-is_for g c =
    let X = g.X.ExtraRows.extra in
    let m = g.M.Mechanism.signing in
    let p = c.args.vault.now.policy in
    let events = c.args.events.now in
    let i = c.loop-index.index in
    let event = c.index-events-index.result in
    let own = get_or c.args.levels.now i None in
    let s = c.args.level.0 in
    let before : List Event = purged m p (take i events) s in
    let same : c.policy.result.now ≡ p = c.policy.ensures ∙ c.loop-index.invariant.policy in
    let seen : false ≡ is_dominated (dominance p) s (numbered own) = c.if-not-is_for.ensures ∙ ap (λ (q : Policy). is_dominated (dominance q) s (numbered own)) same in
    let not = not_own m p events i event c.loop-index-test.true c.index-events-index.is c.args.levels.now c.requires.levels own refl s seen in
    record {
      policy = c.loop-index.invariant.policy;
      journal = c.loop-index.invariant.journal ∙ sym (append-nil before) ∙ journal_more m p events i event c.loop-index-test.true c.index-events-index.is c.args.levels.now c.requires.levels own refl s false seen;
      filled = not_of_level (level_at m p events) (answers_to X m p events) c.loop-index.replies s i c.loop-index.invariant.filled not;
    }

pub loop-index-preserved-then-not-is_own : goal.loop-index-preserved-then-not-is_own
loop-index-preserved-then-not-is_own g c =
    let X = g.X.ExtraRows.extra in
    let m = g.M.Mechanism.signing in
    let p = c.args.vault.now.policy in
    let events = c.args.events.now in
    let i = c.loop-index.index in
    let event = c.index-events-index.result in
    let own = get_or c.args.levels.now i None in
    let s = c.args.level.0 in
    let same : c.policy.result.now ≡ p = c.policy.ensures ∙ c.loop-index.invariant.policy in
    let seen : true ≡ is_dominated (dominance p) s (numbered own) = c.if-not-is_for.ensures ∙ ap (λ (q : Policy). is_dominated (dominance q) s (numbered own)) same in
    let kept : c.serve.new.vault ≡ record c.loop-index.vault { journal = c.loop-index.vault.journal ++ event ∷ [] } = c.in_ok-reply.ensures.kept in
    let level_is : level_at m p events i ≡ numbered own = level_kept m p events i event c.loop-index-test.true c.index-events-index.is c.args.levels.now c.requires.levels own refl in
    record {
      policy = ap (λ (k : Kept). k.policy) kept ∙ c.loop-index.invariant.policy;
      journal = ap (λ (k : Kept). k.journal) kept ∙ ap (λ (j : List Event). j ++ event ∷ []) c.loop-index.invariant.journal ∙ journal_more m p events i event c.loop-index-test.true c.index-events-index.is c.args.levels.now c.requires.levels own refl s true seen;
      filled = not_of_level (level_at m p events) (answers_to X m p events) c.loop-index.replies s i c.loop-index.invariant.filled (λ is. let e : true ≡ false = sym (c.is_own.ensures.1 (sym level_is ∙ is)) ∙ c.if-not-is_own.true in absurd cc);
    }

pub bounds-replies-index : goal.bounds-replies-index
bounds-replies-index g c = omega (arith, c.loop-index.invariant.filled.count, c.loop-index-test.true, an_answer_for_each g.X.ExtraRows.extra g.M.Mechanism.signing c.args.vault.now.policy c.args.events.now)

pub loop-index-preserved : goal.loop-index-preserved
loop-index-preserved g c =
    let X = g.X.ExtraRows.extra in
    let m = g.M.Mechanism.signing in
    let p = c.args.vault.now.policy in
    let events = c.args.events.now in
    let i = c.loop-index.index in
    let event = c.index-events-index.result in
    let own = get_or c.args.levels.now i None in
    let s = c.args.level.0 in
    let reply = c.in_ok-reply.reply in
    let same : c.policy.result.now ≡ p = c.policy.ensures ∙ c.loop-index.invariant.policy in
    let seen : true ≡ is_dominated (dominance p) s (numbered own) = c.if-not-is_for.ensures ∙ ap (λ (q : Policy). is_dominated (dominance q) s (numbered own)) same in
    let kept : c.serve.new.vault ≡ record c.loop-index.vault { journal = c.loop-index.vault.journal ++ event ∷ [] } = c.in_ok-reply.ensures.kept in
    let level_is : numbered own ≡ Some s = c.is_own.ensures.0 c.if-not-is_own.false in
    let before : c.loop-index.vault.journal ≡ purged_to m p (take i events) (numbered own) = c.loop-index.invariant.journal ∙ sym (ap (purged_to m p (take i events)) level_is) in
    let within : i < length (answers_to X m p events) = omega (arith, c.loop-index-test.true, an_answer_for_each X m p events) in
    let is = answered_purged m p events i event c.loop-index-test.true c.index-events-index.is c.args.levels.now c.requires.levels own refl X c.loop-index.vault.policy c.loop-index.vault.journal reply c.loop-index.invariant.policy before c.in_ok-reply.ensures.reply in
    record {
      policy = ap (λ (k : Kept). k.policy) kept ∙ c.loop-index.invariant.policy;
      journal = ap (λ (k : Kept). k.journal) kept ∙ ap (λ (j : List Event). j ++ event ∷ []) c.loop-index.invariant.journal ∙ journal_more m p events i event c.loop-index-test.true c.index-events-index.is c.args.levels.now c.requires.levels own refl s true seen;
      filled = one_of_level (level_at m p events) (answers_to X m p events) c.loop-index.replies s i c.loop-index.invariant.filled reply within is;
    }
