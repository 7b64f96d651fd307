-- How many times numbers stand, one number more.
use Rattle.std.proofs.Common.{inl, inr, ◌≡◌, ℕ, ◌+◌, ◌<◌, ◌≤◌, true, false, List, sym, ap, ◌∙◌, length, get_or, take, arith}
use Rattle.std.specs.Prelude.{◌==◌, ◌⊎◌, count_by, slice_index, slice_set}
use Rattle.std.proofs.lemmas.Bool.Decides.{nat_tests}
use Rattle.std.proofs.lemmas.Bool.{cases_eq}
use Rattle.std.proofs.lemmas.Grind.{get_or-set_at}
use Rattle.std.proofs.lemmas.List.{length-take, get_or_default, get_or-set_other}
use Rattle.std.proofs.lemmas.List.Sums.{count_by-le-length, count_by_more_yes, count_by_more_no}

same_places : (a b : ℕ) → a ≡ b → (a == b) ≡ true
same_places a b e = grind (arith, nat_tests)

other_places : (a b : ℕ) → (a ≡ b → ⊥) → (a == b) ≡ false
other_places a b e = grind (arith, nat_tests)

module _ (times numbers : List ℕ) (count place here : ℕ) (len : length times ≡ count) (less : place < length numbers) (within : slice_index numbers place < count) (is : here ≡ get_or times (slice_index numbers place) here) (known : (k : ℕ) → k < count → get_or times k 0 ≡ count_by (λ x. x == k) (take place numbers)) where
  pub one_counted : (k : ℕ) → k < count → get_or (slice_set times (slice_index numbers place) (here + 1)) k 0 ≡ count_by (λ x. x == k) (take (place + 1) numbers)
  one_counted k k_in = at (cases_eq (slice_index numbers place) k)
    where
      at : (slice_index numbers place ≡ k) ⊎ (slice_index numbers place ≡ k → ⊥) → get_or (slice_set times (slice_index numbers place) (here + 1)) k 0 ≡ count_by (λ x. x == k) (take (place + 1) numbers)
      at (inl same) =
          get_or-set_at times (slice_index numbers place) k (here + 1) 0 (sym same) (omega (arith, within, len))
          ∙ ap (λ n. n + 1) (is ∙ get_or_default times (slice_index numbers place) here 0 (omega (arith, within, len)) ∙ ap (λ j. get_or times j 0) same ∙ known k k_in)
          ∙ sym (count_by_more_yes (λ x. x == k) numbers place 0 less (same_places (slice_index numbers place) k same))
      at (inr apart) =
          get_or-set_other times (slice_index numbers place) k (here + 1) 0 (λ e. apart (sym e))
          ∙ known k k_in
          ∙ sym (count_by_more_no (λ x. x == k) numbers place 0 less (other_places (slice_index numbers place) k apart))

pub few_so_far : (numbers : List ℕ) (place k : ℕ) → count_by (λ x. x == k) (take place numbers) ≤ place
few_so_far numbers place k = omega (arith, count_by-le-length (λ x. x == k) (take place numbers), length-take place numbers)
