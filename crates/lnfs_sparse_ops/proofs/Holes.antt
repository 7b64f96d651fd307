-- What is found of a sort is the first of it.
use Rattle.std.proofs.Common.{◌≡◌, ◌<◌, ◌≤◌, ◌+◌, ◌-◌, ℕ, zero, suc, Bool, true, false, cond, refl, sym, subst, arith}
use Rattle.std.specs.Prelude.{◌==◌, min}
use Rattle.std.proofs.lemmas.Bool.{eqb-true}
use Rattle.std.proofs.lemmas.Bool.Decides.{nat_tests}
use Rattle.lnfs_content.specs.Sparse.{first_from, IsFirst}

-- one that is wanted, or else the first behind it
from_here : (wanted : ℕ → Bool) (from count later : ℕ) (b : Bool) → wanted from ≡ b → IsFirst wanted (from + 1) (from + 1 + count) later → IsFirst wanted from (from + suc count) (cond b from later)
from_here wanted from count later true is first = record {
  begun = omega arith;
  within = omega arith;
  before = λ i low high. absurd (omega (arith, low, high));
  here = λ lt. is;
}
from_here wanted from count later false is first = record {
  begun = omega (arith, first.begun);
  within = omega (arith, first.within);
  before = λ i low high. at i low high;
  here = λ lt. first.here (omega (arith, lt));
}
  where
    at : (i : ℕ) → from ≤ i → i < later → wanted i ≡ false
    at i low high = by (i == from) refl
      where
        by : (here : Bool) → (i == from) ≡ here → wanted i ≡ false
        by true here = let same : i ≡ from = eqb-true i from here in subst (λ (j : ℕ). wanted j ≡ false) (sym same) is
        by false here = first.before i (grind (arith, nat_tests, low, here)) high

counted : (wanted : ℕ → Bool) (from count : ℕ) → IsFirst wanted from (from + count) (first_from wanted from count)
counted wanted from zero = record {
  begun = omega arith;
  within = omega arith;
  before = λ i low high. absurd (omega (arith, low, high));
  here = λ lt. absurd (omega (arith, lt));
}
counted wanted from (suc count) = from_here wanted from count (first_from wanted (from + 1) count) (wanted from) refl (counted wanted (from + 1) count)

pub next_is_first : (wanted : ℕ → Bool) (from size : ℕ) → from ≤ size → IsFirst wanted from size (min size (first_from wanted from (size - from)))
next_is_first wanted from size le =
    let whole : from + (size - from) ≡ size = omega (arith, le) in
    let first : IsFirst wanted from size (first_from wanted from (size - from)) = subst (λ (end : ℕ). IsFirst wanted from end (first_from wanted from (size - from))) whole (counted wanted from (size - from)) in
    let same : first_from wanted from (size - from) ≡ min size (first_from wanted from (size - from)) = omega (arith, first.within) in
    subst (IsFirst wanted from size) same first
