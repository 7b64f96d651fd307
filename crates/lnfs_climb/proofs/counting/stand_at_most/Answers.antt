use Rattle.std.proofs.Common.{◌≡◌, ◌<◌, ◌≤◌, ℕ, length, sym, ap, ◌∙◌, subst, arith}
use Rattle.std.specs.Prelude.{◌==◌, count_by, slice_index}
use Rattle.lnfs_climb.proofs.counting.stand_at_most.Goals as goal

pub returns : goal.returns
returns c =
    let same = c.deref.ensures.value in
    let value : (k : ℕ) → k < c.args.count → slice_index c.deref.result.now k ≡ count_by (λ x. x == k) c.args.numbers.now =
    λ k less. ap (λ fs. slice_index fs k) same ∙ c.in_ok-times.ensures.value k less in (
      λ few k less. subst (λ n. n ≤ c.args.most) (value k less) (c.are_at_most.ensures.0 few k (omega (arith, ap length same, c.in_ok-times.ensures.len, less))),
      λ all. c.are_at_most.ensures.1 (λ k k_in. let less : k < c.args.count = omega (arith, ap length same, c.in_ok-times.ensures.len, k_in) in subst (λ n. n ≤ c.args.most) (sym (value k less)) (all k less)),
    )
