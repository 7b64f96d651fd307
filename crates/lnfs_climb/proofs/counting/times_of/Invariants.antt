use Rattle.std.proofs.Common.{◌≡◌, ℕ, ◌<◌, ◌≤◌, length, get_or, take}
use Rattle.std.specs.Prelude.{◌==◌, count_by}
use Rattle.lnfs_climb.proofs.counting.times_of.Given as goal

abbrev pub invariant-loop-place : goal.invariant-loop-place
invariant-loop-place l = record {
  len : length l.times.items ≡ l.count;
  few : (k : ℕ) → k < l.count → get_or l.times.items k 0 ≤ l.place;
  value : (k : ℕ) → k < l.count → get_or l.times.items k 0 ≡ count_by (λ x. x == k) (take l.place l.numbers);
}
