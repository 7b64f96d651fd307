-- Last numbers that are put into a map, level by level.
use Rattle.std.proofs.Common.{◌≡◌, ℕ, zero, suc, ◌+◌, ◌<◌, ◌≤◌, List, [], ◌∷◌, ◌++◌, length, take, drop, get_or, Option, Some, None, map, refl, sym, ap, ◌∙◌, subst, arith}
use Rattle.std.specs.Prelude.{◌^◌, ◌==◌, find}
use Rattle.std.specs.List.{AllByRecursion}
use Rattle.std.specs.BTreeMap.{insert_entry}
use Rattle.std.specs.declared.cmp.Ordering.TheVariants.{Greater}
use Rattle.std.proofs.lemmas.Bool.Decides.{nat_tests}
use Rattle.std.proofs.lemmas.List.{take_more, length-take-le, append-nil}
use Rattle.lnfs_calipso.specs.declared.Level.{Level}
use Rattle.lnfs_rows.specs.Lasts.{given_from, given_of, each_from, each_of}
use Rattle.lnfs_world.specs.Rows.{inserted}
use Rattle.lnfs_world.specs.World.{Id, level_order, last_of, number_in}
use Rattle.lnfs_world.specs.declared.numbers.TheConstants.{LAST_NUMBER}
use Rattle.lnfs_world.proofs.Rows.{all_weaker, all_find}
use Rattle.lnfs_tree.specs.Flat.{last_row, level_cmp}
use Rattle.lnfs_tree.specs.Makes.{IsNumbered}
use Rattle.lnfs_tree.proofs.LastNumbers.{last_set}
use Rattle.lnfs_tree.proofs.Sequences.{parted, all_back, inserted_last}

given-append : (level : ℕ) (ns ms : List ℕ) → given_from level (ns ++ ms) ≡ given_from level ns ++ given_from (level + length ns) ms
given-append level [] ms = let here : level ≡ level + 0 = omega arith in ap (λ (l : ℕ). given_from l ms) here
given-append level (zero ∷ ns) ms = let next : suc level + length ns ≡ level + suc (length ns) = omega arith in given-append (suc level) ns ms ∙ ap (λ (l : ℕ). given_from (suc level) ns ++ given_from l ms) next
given-append level (suc n ∷ ns) ms = let next : suc level + length ns ≡ level + suc (length ns) = omega arith in ap (λ (es : List Id). record { level = level; number = suc n } ∷ es) (given-append (suc level) ns ms ∙ ap (λ (l : ℕ). given_from (suc level) ns ++ given_from l ms) next)

levels_below : (level : ℕ) (ns : List ℕ) → AllByRecursion (λ i. i.level < level + length ns) (given_from level ns)
levels_below level [] = tt
levels_below level (zero ∷ ns) = all_weaker _ _ (λ i less. omega (arith, less)) (given_from (suc level) ns) (levels_below (suc level) ns)
levels_below level (suc n ∷ ns) = (omega arith, all_weaker _ _ (λ i less. omega (arith, less)) (given_from (suc level) ns) (levels_below (suc level) ns))

abbrev numbered : (level n : ℕ) → Id
numbered level n = record { level = level; number = n }

one_given : (level n : ℕ) (ms : List ℕ) → 0 < n → given_from level (n ∷ ms) ≡ numbered level n ∷ given_from (suc level) ms
one_given level zero ms some = absurd (omega (arith, some))
one_given level (suc n) ms some = refl

later_level : (home : Level) (n : ℕ) (i : Id) → i.level < home.0 → level_order (last_row (home, n)) i ≡ Greater
later_level home n i less = grind (arith, nat_tests, less)

module _ (numbers : List ℕ) (level d : ℕ) (inside : level < length numbers) where
  abbrev n : ℕ
  n = get_or numbers level d

  front : List ℕ
  front = take level numbers

  count : length (take level numbers) ≡ level
  count = length-take-le level numbers (omega (arith, inside))

  given-more : given_of (take (level + 1) numbers) ≡ given_of (take level numbers) ++ given_from level (n ∷ [])
  given-more =
      ap given_of (take_more numbers level d inside)
      ∙ given-append 0 (take level numbers) (n ∷ [])
      ∙ (let here : 0 + length (take level numbers) ≡ level = omega (arith, count) in ap (λ (l : ℕ). given_of (take level numbers) ++ given_from l (n ∷ [])) here)

  pub none_more : n ≡ 0 → given_of (take (level + 1) numbers) ≡ given_of (take level numbers)
  none_more zero_is = given-more ∙ ap (λ (m : ℕ). given_of (take level numbers) ++ given_from level (m ∷ [])) zero_is ∙ append-nil (given_of (take level numbers))

  pub is_numbered : AllByRecursion IsNumbered (given_of numbers) → 0 < n → IsNumbered (numbered level n)
  is_numbered all some =
      let here : 0 + length (take level numbers) ≡ level = omega (arith, count) in
      let parts : given_of numbers ≡ given_of (take level numbers) ++ numbered level n ∷ given_from (suc level) (drop (level + 1) numbers) =
      ap given_of (sym (parted numbers level d inside))
      ∙ given-append 0 (take level numbers) (n ∷ drop (level + 1) numbers)
      ∙ ap (λ (l : ℕ). given_of (take level numbers) ++ given_from l (n ∷ drop (level + 1) numbers)) here
      ∙ ap (λ (es : List Id). given_of (take level numbers) ++ es) (one_given level n (drop (level + 1) numbers) some) in
      (all_back IsNumbered (given_of (take level numbers)) (numbered level n ∷ given_from (suc level) (drop (level + 1) numbers)) (subst (AllByRecursion IsNumbered) parts all)).0

  pub one_more : (es : List (Level × ℕ)) (home : Level) → map last_row es ≡ given_of (take level numbers) → home.0 ≡ level → 0 < n → map last_row (insert_entry level_cmp es home n) ≡ given_of (take (level + 1) numbers)
  one_more es home told is some =
      last_set home n es
      ∙ ap (inserted level_order (last_row (home, n))) told
      ∙ inserted_last level_order (last_row (home, n)) (given_of (take level numbers)) (all_weaker _ _ (λ i less. later_level home n i (omega (arith, less, is, count))) (given_of (take level numbers)) (levels_below 0 (take level numbers)))
      ∙ (λ k. given_of (take level numbers) ++ numbered (is k) n ∷ [])
      ∙ sym (given-more ∙ ap (λ (es : List Id). given_of (take level numbers) ++ es) (one_given level n [] some))

-- ---- last numbers that are told, and given again
last_fits : (level : ℕ) (lasts : List Id) → AllByRecursion IsNumbered lasts → last_of level lasts ≤ LAST_NUMBER
last_fits level lasts all = at (find (λ i. i.level == level) lasts) refl
  where
    at : (o : Option Id) → find (λ i. i.level == level) lasts ≡ o → number_in o ≤ LAST_NUMBER
    at None found = omega arith
    at (Some i) found = (all_find IsNumbered (λ i. i.level == level) lasts i all found).0.number

given_fits : (level count : ℕ) (lasts : List Id) → AllByRecursion IsNumbered lasts → level + count ≤ 2 ^ 32 → AllByRecursion IsNumbered (given_from level (each_from level count lasts))
given_fits level zero lasts all within = tt
given_fits level (suc count) lasts all within = at (last_of level lasts) (last_fits level lasts all) (given_fits (suc level) count lasts all (omega (arith, within)))
  where
    at : (n : ℕ) → n ≤ LAST_NUMBER → AllByRecursion IsNumbered (given_from (suc level) (each_from (suc level) count lasts)) → AllByRecursion IsNumbered (given_from level (n ∷ each_from (suc level) count lasts))
    at zero fits rest = rest
    at (suc n) fits rest = (record { level = omega (arith, within); number = fits }, rest)

pub numbered_again : (levels : ℕ) (lasts : List Id) → levels ≤ 2 ^ 32 → AllByRecursion IsNumbered lasts → AllByRecursion IsNumbered (given_of (each_of levels lasts))
numbered_again levels lasts within all = given_fits 0 levels lasts all (omega (arith, within))
