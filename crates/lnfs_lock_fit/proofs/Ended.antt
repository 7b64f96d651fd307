-- No range goes past the last offset, as a test of each.
use Rattle.std.proofs.Common.{◌≡◌, ◌≤◌, ℕ, true, List, [], ◌∷◌, refl, arith}
use Rattle.std.specs.Prelude.{nat_le}
use Rattle.std.specs.List.{AllByRecursion, list_all}
use Rattle.std.proofs.lemmas.Bool.{and_parts}
use Rattle.std.proofs.lemmas.Bool.Decides.{nat_tests}
use Rattle.lnfs_ranges.specs.declared.range.LockRange.{LockRange}

le_is : (a b : ℕ) → nat_le a b ≡ true → a ≤ b
le_is a b e = grind (arith, nat_tests)

is_le : (a b : ℕ) → a ≤ b → nat_le a b ≡ true
is_le a b e = grind (arith, nat_tests)

pub all_end : (most : ℕ) (rs : List LockRange) → list_all (λ r. nat_le r.last most) rs ≡ true → AllByRecursion (λ r. r.last ≤ most) rs
all_end most [] all = tt
all_end most (r ∷ rs) all =
    let both = and_parts (nat_le r.last most) (list_all (λ x. nat_le x.last most) rs) all in
    (le_is r.last most both.0, all_end most rs both.1)

pub end_all : (most : ℕ) (rs : List LockRange) → AllByRecursion (λ r. r.last ≤ most) rs → list_all (λ r. nat_le r.last most) rs ≡ true
end_all most [] all = refl
end_all most (r ∷ rs) all = grind (arith, is_le r.last most all.0, end_all most rs all.1)
