-- How many ranges each level has, one lock more.
use Rattle.std.proofs.Common.{inl, inr, ◌≡◌, ℕ, ◌+◌, ◌<◌, ◌≤◌, Bool, true, false, cond, List, [], ◌∷◌, length, take, refl, sym, ap, ◌∙◌, arith}
use Rattle.std.specs.Prelude.{◌==◌, ◌⊎◌, nat_lt}
use Rattle.std.specs.List.{AllByRecursion}
use Rattle.std.proofs.lemmas.Bool.Decides.{nat_tests}
use Rattle.std.proofs.lemmas.Bool.{cases_lt}
use Rattle.std.proofs.lemmas.List.Sums.{sum_by-cons, sum_by_more_le}
use Rattle.lnfs_world.specs.Outcome.{Site}
use Rattle.lnfs_operations.specs.Sizes.{is_level}
use Rattle.lnfs_operations.specs.Bounds.{IsGivenBy}
use Rattle.lnfs_fit.proofs.Indexed.{all_at}
use Rattle.lnfs_locks.specs.Locks.{Lock}
use Rattle.lnfs_locks.specs.Facts.{ranges_at}
use Rattle.lnfs_lock_fit.specs.RowsOf.{no_lock, nth_lock}

same_places : (a b : ℕ) → a ≡ b → (a == b) ≡ true
same_places a b e = grind (arith, nat_tests)

level_below : (site : Site) (l : ℕ) → is_level site l ≡ true → l < site.levels + 1
level_below site l is = at site.limited is
  where
    at : (b : Bool) → cond b (l == 0) (nat_lt l site.levels) ≡ true → l < site.levels + 1
    at true e = grind (arith, nat_tests)
    at false e = grind (arith, nat_tests)

other_level : (a b c : ℕ) → a < c → c ≤ b → (a == b) ≡ false
other_level a b c less from = grind (arith, nat_tests)

-- what a lock has of a level
abbrev pub part : (level : ℕ) → Lock → ℕ
part level l = cond (l.id.level == level) (length l.ranges) 0

module _ (site : Site) (locks : List Lock) (bounds : AllByRecursion (λ l. IsGivenBy site l.id) locks) where
  pub level_within : (place : ℕ) → place < length locks → (nth_lock locks place).id.level < site.levels + 1
  level_within place inside = level_below site (nth_lock locks place).id.level (all_at no_lock (λ l. IsGivenBy site l.id) locks bounds place inside).level

  -- no level of another site has one
  none_of : (level : ℕ) → site.levels + 1 ≤ level → (ls : List Lock) → AllByRecursion (λ l. IsGivenBy site l.id) ls → ranges_at level ls ≡ 0
  none_of level from [] all = refl
  none_of level from (l ∷ ls) all =
      let other : (l.id.level == level) ≡ false = other_level l.id.level level (site.levels + 1) (level_below site l.id.level all.0.level) from in
      sum_by-cons (part level) l ls ∙ (λ i. cond (other i) (length l.ranges) 0 + none_of level from ls all.1 i)

  pub all_few : (most : ℕ) → ((k : ℕ) → k < site.levels + 1 → ranges_at k locks ≤ most) → (level : ℕ) → ranges_at level locks ≤ most
  all_few most few level = at (cases_lt level (site.levels + 1))
    where
      at : (level < site.levels + 1) ⊎ (site.levels + 1 ≤ level) → ranges_at level locks ≤ most
      at (inl less) = few level less
      at (inr from) = omega (arith, none_of level from locks bounds)

-- all of a level have no fewer than those up to one of it, with that
pub many_at_least : (locks : List Lock) (place : ℕ) → place < length locks → (level many sum : ℕ) → level ≡ (nth_lock locks place).id.level → many ≡ length (nth_lock locks place).ranges → sum ≡ ranges_at level (take place locks) → sum + many ≤ ranges_at level locks
many_at_least locks place less level many sum own has known =
    let here : part level (nth_lock locks place) ≡ many =
    (λ i. cond (sym own i == level) (sym has i) 0) ∙ ap (λ b. cond b many 0) (same_places level level refl) in
    omega (arith, known, here, sum_by_more_le (part level) locks place no_lock less)
