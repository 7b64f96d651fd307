-- One number for each level, and those alone that were given.
use Rattle.std.proofs.Common.{inl, inr, ◌≡◌, ℕ, zero, suc, ◌+◌, ◌<◌, ◌≤◌, true, false, cond, List, [], ◌∷◌, Some, refl, sym, ap, ◌∙◌, subst, length, get_or, arith}
use Rattle.std.specs.Prelude.{◌==◌, ◌⊎◌}
use Rattle.std.specs.List.{AllByRecursion, find}
use Rattle.std.specs.Ordering.{nat_cmp}
use Rattle.std.specs.declared.cmp.Ordering.TheVariants.{Less}
use Rattle.std.proofs.lemmas.Bool.Decides.{nat_tests}
use Rattle.std.proofs.lemmas.Bool.{cases_eq, cases_lt}
use Rattle.lnfs_world.specs.Rows.{Rising}
use Rattle.lnfs_world.specs.World.{Id, level_order, last_of, number_in}
use Rattle.lnfs_world.proofs.Rows.{all_weaker, all_two}
use Rattle.lnfs_rows.specs.Lasts.{given_from, given_of, each_from, each_of}
use Rattle.lnfs_decide.specs.Lasts.{IsOfLevels}

level_before : (a b : ℕ) → a < b → nat_cmp a b ≡ Less
level_before a b less = grind (arith, nat_tests)

before_level : (a b : ℕ) → nat_cmp a b ≡ Less → a < b
before_level a b less = grind (arith, nat_tests)

not_level : (a b : ℕ) → (a ≡ b → ⊥) → (a == b) ≡ false
not_level a b apart = grind (arith, nat_tests)

is_level : (a : ℕ) → (a == a) ≡ true
is_level a = grind (arith, nat_tests)

-- a level that no identifier has
pub none_of : (l : ℕ) (lasts : List Id) → AllByRecursion (λ i. i.level ≡ l → ⊥) lasts → last_of l lasts ≡ 0
none_of l [] all = refl
none_of l (i ∷ lasts) all = ap (λ b. number_in (cond b (Some i) (find (λ j. j.level == l) lasts))) (not_level i.level l all.0) ∙ none_of l lasts all.1

skipped : (l : ℕ) (i : Id) (lasts : List Id) → (i.level ≡ l → ⊥) → last_of l (i ∷ lasts) ≡ last_of l lasts
skipped l i lasts apart = ap (λ b. number_in (cond b (Some i) (find (λ j. j.level == l) lasts))) (not_level i.level l apart)

all_from : (level : ℕ) (ns : List ℕ) → AllByRecursion (λ i. (level ≤ i.level) × (i.level < level + length ns) × (0 < i.number)) (given_from level ns)
all_from level [] = tt
all_from level (n ∷ ns) = at n (all_weaker _ _ (λ i h. (omega (arith, h.0), omega (arith, h.1), h.2)) (given_from (suc level) ns) (all_from (suc level) ns))
  where
    at : (n : ℕ) → AllByRecursion (λ i. (level ≤ i.level) × (i.level < level + length (n ∷ ns)) × (0 < i.number)) (given_from (suc level) ns) → AllByRecursion (λ i. (level ≤ i.level) × (i.level < level + length (n ∷ ns)) × (0 < i.number)) (given_from level (n ∷ ns))
    at zero rest = rest
    at (suc n) rest = ((omega arith, omega arith, omega arith), rest)

early : (l level : ℕ) (ns : List ℕ) → l < level → last_of l (given_from level ns) ≡ 0
early l level ns less = none_of l (given_from level ns) (all_weaker _ _ (λ i h. λ same. omega (arith, h.0, same)) (given_from level ns) (all_from level ns))

told_from : (level k : ℕ) (ns : List ℕ) → last_of (level + k) (given_from level ns) ≡ get_or ns k 0
told_from level k [] = refl
told_from level zero (n ∷ ns) = at n
  where
    here : level + zero ≡ level
    here = omega arith

    at : (n : ℕ) → last_of (level + zero) (given_from level (n ∷ ns)) ≡ n
    at zero = early (level + zero) (suc level) ns (omega arith)
    at (suc n) = ap (λ l. last_of l (given_from level (suc n ∷ ns))) here ∙ ap (λ b. number_in (cond b (Some (record { level = level; number = suc n })) (find (λ j. j.level == level) (given_from (suc level) ns)))) (is_level level)
told_from level (suc k) (n ∷ ns) = at n (ap (λ l. last_of l (given_from (suc level) ns)) next ∙ told_from (suc level) k ns)
  where
    next : level + suc k ≡ suc level + k
    next = omega arith

    at : (n : ℕ) → last_of (level + suc k) (given_from (suc level) ns) ≡ get_or ns k 0 → last_of (level + suc k) (given_from level (n ∷ ns)) ≡ get_or ns k 0
    at zero rest = rest
    at (suc n) rest = skipped (level + suc k) (record { level = level; number = suc n }) (given_from (suc level) ns) (λ same. omega (arith, same)) ∙ rest

-- the last number of a level is the one at its place
pub told : (ns : List ℕ) (l : ℕ) → last_of l (given_of ns) ≡ get_or ns l 0
told ns l = let here : 0 + l ≡ l = omega arith in subst (λ m. last_of m (given_of ns) ≡ get_or ns l 0) here (told_from 0 l ns)

rising_from : (level : ℕ) (ns : List ℕ) → Rising level_order (given_from level ns)
rising_from level [] = tt
rising_from level (n ∷ ns) = at n (rising_from (suc level) ns)
  where
    at : (n : ℕ) → Rising level_order (given_from (suc level) ns) → Rising level_order (given_from level (n ∷ ns))
    at zero rest = rest
    at (suc n) rest = (all_weaker _ _ (λ i h. level_before level i.level (omega (arith, h.0))) (given_from (suc level) ns) (all_from (suc level) ns), rest)

pub given_rise : (ns : List ℕ) → Rising level_order (given_of ns)
given_rise ns = rising_from 0 ns

pub of_levels : (ns : List ℕ) → IsOfLevels (length ns) (given_of ns)
of_levels ns = all_weaker _ _ (λ i h. (omega (arith, h.1), h.2)) (given_of ns) (all_from 0 ns)

-- ---- there and back

same_from : (level count : ℕ) (a b : List Id) → ((l : ℕ) → level ≤ l → last_of l a ≡ last_of l b) → each_from level count a ≡ each_from level count b
same_from level zero a b same = refl
same_from level (suc count) a b same = λ i. same level (omega arith) i ∷ same_from (suc level) count a b (λ l from. same l (omega (arith, from))) i

pub back_from : (level : ℕ) (ns : List ℕ) → each_from level (length ns) (given_from level ns) ≡ ns
back_from level [] = refl
back_from level (n ∷ ns) =
    let here : level + zero ≡ level = omega arith in
    let first : last_of level (given_from level (n ∷ ns)) ≡ n = subst (λ l. last_of l (given_from level (n ∷ ns)) ≡ n) here (told_from level zero (n ∷ ns)) in
    let rest : each_from (suc level) (length ns) (given_from level (n ∷ ns)) ≡ ns = same_from (suc level) (length ns) (given_from level (n ∷ ns)) (given_from (suc level) ns) (without n) ∙ back_from (suc level) ns in
    λ i. first i ∷ rest i
  where
    without : (n l : ℕ) → suc level ≤ l → last_of l (given_from level (n ∷ ns)) ≡ last_of l (given_from (suc level) ns)
    without zero l from = refl
    without (suc n) l from = skipped l (record { level = level; number = suc n }) (given_from (suc level) ns) (λ same. omega (arith, same, from))

pub back : (ns : List ℕ) → each_of (length ns) (given_of ns) ≡ ns
back ns = back_from 0 ns

pub forth_from : (level count : ℕ) (lasts : List Id) → Rising level_order lasts → AllByRecursion (λ i. (level ≤ i.level) × (i.level < level + count) × (0 < i.number)) lasts → given_from level (each_from level count lasts) ≡ lasts
forth_from level zero [] rising all = refl
forth_from level zero (i ∷ lasts) rising all = absurd (omega (arith, all.0.0, all.0.1))
forth_from level (suc count) [] rising all = forth_from (suc level) count [] tt tt
forth_from level (suc count) (i ∷ lasts) rising all = at (λ h. forth_from (suc level) count lasts rising.1 h) (λ h. forth_from (suc level) count (i ∷ lasts) rising h) (cases_eq i.level level)
  where
    later : AllByRecursion (λ j. (suc level ≤ j.level) × (j.level < suc level + count) × (0 < j.number)) lasts
    later = all_two _ _ _ (λ j less h. (omega (arith, before_level i.level j.level less, all.0.0), omega (arith, h.1), h.2)) lasts rising.0 all.1

    number : (n : ℕ) → 0 < n → given_from level (n ∷ each_from (suc level) count (i ∷ lasts)) ≡ record { level = level; number = n } ∷ given_from (suc level) (each_from (suc level) count (i ∷ lasts))
    number zero some = absurd (omega arith)
    number (suc n) some = refl

    at : (AllByRecursion (λ j. (suc level ≤ j.level) × (j.level < suc level + count) × (0 < j.number)) lasts → given_from (suc level) (each_from (suc level) count lasts) ≡ lasts) → (AllByRecursion (λ j. (suc level ≤ j.level) × (j.level < suc level + count) × (0 < j.number)) (i ∷ lasts) → given_from (suc level) (each_from (suc level) count (i ∷ lasts)) ≡ i ∷ lasts) → (i.level ≡ level) ⊎ (i.level ≡ level → ⊥) → given_from level (each_from level (suc count) (i ∷ lasts)) ≡ i ∷ lasts
    at fewer all_of_them (inl same) =
        let first : last_of level (i ∷ lasts) ≡ i.number = ap (λ l. last_of l (i ∷ lasts)) (sym same) ∙ ap (λ b. number_in (cond b (Some i) (find (λ j. j.level == i.level) lasts))) (is_level i.level) in
        let rest : given_from (suc level) (each_from (suc level) count (i ∷ lasts)) ≡ lasts =
        ap (given_from (suc level)) (same_from (suc level) count (i ∷ lasts) lasts (λ l from. skipped l i lasts (λ e. omega (arith, e, same, from)))) ∙ fewer later in
        ap (λ n. given_from level (n ∷ each_from (suc level) count (i ∷ lasts))) first ∙ number i.number all.0.2 ∙ (λ k. record { level = sym same k; number = i.number } ∷ rest k)
    at fewer all_of_them (inr apart) =
        let first : last_of level (i ∷ lasts) ≡ 0 = none_of level (i ∷ lasts) (apart, all_weaker _ _ (λ j h. λ e. omega (arith, h.0, e)) lasts later) in
        let from : level < i.level = before (cases_lt level i.level) in
        ap (λ n. given_from level (n ∷ each_from (suc level) count (i ∷ lasts))) first
        ∙ all_of_them ((omega (arith, from), omega (arith, all.0.1), all.0.2), later)
      where
        before : (level < i.level) ⊎ (i.level ≤ level) → level < i.level
        before (inl less) = less
        before (inr more) = absurd (apart (omega (arith, more, all.0.0)))

pub forth : (levels : ℕ) (lasts : List Id) → Rising level_order lasts → IsOfLevels levels lasts → given_of (each_of levels lasts) ≡ lasts
forth levels lasts rising all = forth_from 0 levels lasts rising (all_weaker _ _ (λ i h. (omega arith, omega (arith, h.0), h.1)) lasts all)
