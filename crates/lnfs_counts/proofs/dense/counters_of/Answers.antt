use Rattle.std.proofs.Common.{◌≡◌, ◌+◌, ◌<◌, ◌∷◌, ℕ, List, drop, get_or, sym, ap, ◌∙◌, subst, arith}
use Rattle.std.specs.Ordering.{is_eq, nat_cmp}
use Rattle.std.specs.Map.{lookup}
use Rattle.std.proofs.lemmas.List.{drop_more}
use Rattle.std.proofs.Math.ListN.{drop_of_length-le}
use Rattle.lnfs_rows.specs.Lasts.{given_of}
use Rattle.lnfs_counts.specs.declared.counters.Counter.{Counter}
use Rattle.lnfs_counts.specs.Levels.{told_in}
use Rattle.lnfs_counts.specs.Counters.{lasts_of}
use Rattle.lnfs_counts.proofs.Made.{IsMade, passed, one_made, all_made, lasts_made, last_made, none_made}
use Rattle.lnfs_counts.proofs.dense.counters_of.Goals as goal

pub loop-level-preserved-then-number-eq0 : goal.loop-level-preserved-then-number-eq0
loop-level-preserved-then-number-eq0 c =
    let ns = c.args.lasts.now in
    let level = c.loop-level.level in
    let left = drop (level + 1) ns in
    let es = c.loop-level.counters.entries in
    let now : drop level ns ≡ 0 ∷ left = drop_more ns level 0 c.loop-level-test.true ∙ ap (λ (n : ℕ). n ∷ left) c.if-number-eq0.true in
    passed (given_of ns) es level left (subst (IsMade (given_of ns) es level) now c.loop-level.invariant)

pub loop-level-preserved : goal.loop-level-preserved
loop-level-preserved c =
    let ns = c.args.lasts.now in
    let level = c.loop-level.level in
    let n = get_or ns level 0 in
    let left = drop (level + 1) ns in
    let es = c.loop-level.counters.entries in
    let now : drop level ns ≡ n ∷ left = drop_more ns level 0 c.loop-level-test.true in
    let some : 0 < n = omega (arith, c.if-number-eq0.false) in
    subst (λ (xs : List (ℕ × Counter)). IsMade (given_of ns) xs (level + 1) left) (sym c.in_ok-insert.ensures.entries)
    (one_made (given_of ns) es level n left (subst (IsMade (given_of ns) es level) now c.loop-level.invariant) some)

pub returns-clause-lasts : goal.returns-clause-lasts
returns-clause-lasts c =
    let ns = c.args.lasts.now in
    let all = all_made (given_of ns) c.loop-level.counters.entries c.loop-level.level _ (drop_of_length-le ns c.loop-level-test.false) c.loop-level.invariant in
    ap lasts_of all ∙ lasts_made 0 ns

pub returns-clause-last : goal.returns-clause-last
returns-clause-last c = λ level.
    let ns = c.args.lasts.now in
    let all = all_made (given_of ns) c.loop-level.counters.entries c.loop-level.level _ (drop_of_length-le ns c.loop-level-test.false) c.loop-level.invariant in
    ap (λ (es : List (ℕ × Counter)). told_in (λ x. x.last) (lookup (λ k. is_eq (nat_cmp level k)) es)) all ∙ last_made level (given_of ns)

pub returns-clause-count : goal.returns-clause-count
returns-clause-count c = λ level.
    let ns = c.args.lasts.now in
    let all = all_made (given_of ns) c.loop-level.counters.entries c.loop-level.level _ (drop_of_length-le ns c.loop-level-test.false) c.loop-level.invariant in
    ap (λ (es : List (ℕ × Counter)). told_in (λ x. x.count) (lookup (λ k. is_eq (nat_cmp level k)) es)) all ∙ none_made level (given_of ns)
