use Rattle.std.proofs.Common.{◌≡◌, ◌<◌, ℕ, ◌+◌, get_or, take, ◌∙◌, arith}
use Rattle.std.specs.Prelude.{◌==◌, count_by, slice_index, slice_set}
use Rattle.std.proofs.lemmas.List.{length-set}
use Rattle.lnfs_climb.proofs.Counted.{one_counted, few_so_far}
use Rattle.lnfs_climb.proofs.counting.times_of.Goals as goal

pub loop-place-preserved : goal.loop-place-preserved
loop-place-preserved c =
    let inv = c.loop-place.invariant in
    let numbers = c.args.numbers.now in
    let n = slice_index numbers c.loop-place.place in
    let value : (k : ℕ) → k < c.args.count → get_or (slice_set c.loop-place.times.items n (c.index_mut.result.now + 1)) k 0 ≡ count_by (λ x. x == k) (take (c.loop-place.place + 1) numbers) =
    one_counted c.loop-place.times.items numbers c.args.count c.loop-place.place c.index_mut.result.now inv.len c.loop-place-test.true (c.requires c.loop-place.place c.loop-place-test.true) c.index_mut.ensures.value inv.value in
    record {
      len = length-set c.loop-place.times.items n (c.index_mut.result.now + 1) ∙ inv.len;
      few = λ k less. omega (arith, value k less, few_so_far numbers (c.loop-place.place + 1) k);
      value = value;
    }
