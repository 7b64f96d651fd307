-- Last numbers that fit are those of levels of the site.
use Rattle.std.proofs.Common.{◌≡◌, ℕ, zero, suc, ◌+◌, ◌<◌, ◌≤◌, Bool, true, ◌&&◌, ◌||◌, List, [], ◌∷◌, refl, subst, length, get_or, arith}
use Rattle.std.specs.Prelude.{◌==◌, nat_le}
use Rattle.std.specs.List.{AllByRecursion}
use Rattle.std.proofs.lemmas.Bool.Decides.{nat_tests}
use Rattle.std.proofs.lemmas.Bool.{and_parts, and_from}
use Rattle.lnfs_world.specs.Outcome.{Site}
use Rattle.lnfs_world.specs.declared.numbers.TheConstants.{LAST_NUMBER}
use Rattle.lnfs_operations.specs.Sizes.{is_level}
use Rattle.lnfs_operations.specs.Bounds.{IsGivenBy}
use Rattle.lnfs_rows.specs.Lasts.{given_from}
use Rattle.lnfs_fit.specs.Ids.{is_fit_last}

some_last : (n : ℕ) (b : Bool) → (n == 0 || b) ≡ true → 0 < n → b ≡ true
some_last n b is some = grind (arith, nat_tests)

either_last : (a b : Bool) → b ≡ true → (a || b) ≡ true
either_last a b is = grind (arith, is)

no_last : (n : ℕ) (b : Bool) → n ≡ 0 → (n == 0 || b) ≡ true
no_last n b is = grind (arith, nat_tests)

le_is : (a b : ℕ) → nat_le a b ≡ true → a ≤ b
le_is a b e = grind (arith, nat_tests)

is_le : (a b : ℕ) → a ≤ b → nat_le a b ≡ true
is_le a b e = grind (arith, nat_tests)

module _ (site : Site) where
  given_last : (level n : ℕ) → is_fit_last site level (suc n) ≡ true → IsGivenBy site (record { level = level; number = suc n })
  given_last level n fits =
      let both = and_parts (is_level site level) (nat_le (suc n) LAST_NUMBER) (some_last (suc n) (is_level site level && nat_le (suc n) LAST_NUMBER) fits (omega arith)) in
      record { level = both.0; number = (omega arith, le_is (suc n) LAST_NUMBER both.1) }

  last_given : (level n : ℕ) → IsGivenBy site (record { level = level; number = suc n }) → is_fit_last site level (suc n) ≡ true
  last_given level n given = either_last (suc n == 0) (is_level site level && nat_le (suc n) LAST_NUMBER) (and_from _ _ given.level (is_le (suc n) LAST_NUMBER given.number.1))

  to_lasts_from : (level : ℕ) (ns : List ℕ) → ((k : ℕ) → k < length ns → is_fit_last site (level + k) (get_or ns k 0) ≡ true) → AllByRecursion (IsGivenBy site) (given_from level ns)
  to_lasts_from level [] each = tt
  to_lasts_from level (zero ∷ ns) each = to_lasts_from (suc level) ns (λ k less.
      let next : level + suc k ≡ suc level + k = omega arith in
      subst (λ l. is_fit_last site l (get_or ns k 0) ≡ true) next (each (suc k) (omega arith)))
  to_lasts_from level (suc n ∷ ns) each =
      let here : level + zero ≡ level = omega arith in (
        given_last level n (subst (λ l. is_fit_last site l (suc n) ≡ true) here (each zero (omega arith))),
        to_lasts_from (suc level) ns (λ k less.
            let next : level + suc k ≡ suc level + k = omega arith in
            subst (λ l. is_fit_last site l (get_or ns k 0) ≡ true) next (each (suc k) (omega arith))),
      )

  of_lasts_from : (level : ℕ) (ns : List ℕ) → AllByRecursion (IsGivenBy site) (given_from level ns) → (k : ℕ) → k < length ns → is_fit_last site (level + k) (get_or ns k 0) ≡ true
  of_lasts_from level [] all k less = absurd (omega arith)
  of_lasts_from level (zero ∷ ns) all zero less = no_last zero (is_level site (level + zero) && nat_le zero LAST_NUMBER) refl
  of_lasts_from level (zero ∷ ns) all (suc k) less =
      let next : suc level + k ≡ level + suc k = omega arith in
      subst (λ l. is_fit_last site l (get_or ns k 0) ≡ true) next (of_lasts_from (suc level) ns all k (omega arith))
  of_lasts_from level (suc n ∷ ns) all zero less =
      let here : level ≡ level + zero = omega arith in
      subst (λ l. is_fit_last site l (suc n) ≡ true) here (last_given level n all.0)
  of_lasts_from level (suc n ∷ ns) all (suc k) less =
      let next : suc level + k ≡ level + suc k = omega arith in
      subst (λ l. is_fit_last site l (get_or ns k 0) ≡ true) next (of_lasts_from (suc level) ns all.1 k (omega arith))

  pub to_lasts : (ns : List ℕ) → ((k : ℕ) → k < length ns → is_fit_last site k (get_or ns k 0) ≡ true) → AllByRecursion (IsGivenBy site) (given_from 0 ns)
  to_lasts ns each = to_lasts_from 0 ns (λ k less. let here : k ≡ 0 + k = omega arith in subst (λ l. is_fit_last site l (get_or ns k 0) ≡ true) here (each k less))

  pub of_lasts : (ns : List ℕ) → AllByRecursion (IsGivenBy site) (given_from 0 ns) → (k : ℕ) → k < length ns → is_fit_last site k (get_or ns k 0) ≡ true
  of_lasts ns all k less = let here : 0 + k ≡ k = omega arith in subst (λ l. is_fit_last site l (get_or ns k 0) ≡ true) here (of_lasts_from 0 ns all k less)
