-- Lists with the same compartments.
use Rattle.std.proofs.Common.{◌≡◌, ℕ, ◌+◌, ◌<◌, ◌≤◌, ◌&&◌, Bool, true, false, cond, eqb, ltb, List, [], ◌∷◌, refl, sym, ap, ◌∙◌, subst, inl, inr, arith, filter, suc, zero}
use Rattle.std.specs.List.{list_all, range_with_len}
use Rattle.std.proofs.lemmas.Bool.{eqb-true, eq-eqb, ltb-true, lt-ltb, le-ltb, or_cases, and_parts, and_from, or_left, or_right, false≢true}
use Rattle.lnfs_calipso.specs.Label.{has_comp, compartments, numbers_below}
use Rattle.lnfs_calipso.proofs.Among.{has_comp-compartments}

agree_range : (p q : ℕ → Bool) (a n : ℕ) → ((c : ℕ) → c < a + n → p c ≡ q c) → filter p (range_with_len a n) ≡ filter q (range_with_len a n)
agree_range p q a zero h = refl
agree_range p q a (suc n) h =
    ap (λ b. cond b (a ∷ filter p (range_with_len (a + 1) n)) (filter p (range_with_len (a + 1) n))) (h a (omega arith))
    ∙ ap (λ xs. cond (q a) (a ∷ xs) xs) (agree_range p q (a + 1) n (λ c l. h c (omega arith)))

-- tests that agree have the same compartments
numbers_below-agree : (n : ℕ) (p q : ℕ → Bool) → ((c : ℕ) → c < n → p c ≡ q c) → numbers_below n p ≡ numbers_below n q
unfolding numbers_below
numbers_below-agree n p q h = agree_range p q 0 n (λ c l. h c (omega arith))

pub compartments-agree : (p q : ℕ → Bool) → ((c : ℕ) → c < 1920 → p c ≡ q c) → compartments p ≡ compartments q
compartments-agree p q h = numbers_below-agree 1920 p q h

-- all of ys are among xs
pub among : (xs ys : List ℕ) → list_all (has_comp xs) ys ≡ true → (c : ℕ) → has_comp ys c ≡ true → has_comp xs c ≡ true
among xs [] h c i = absurd (false≢true i)
among xs (y ∷ ys) h c i =
    let both = and_parts (has_comp xs y) (list_all (has_comp xs) ys) h in
    elim (or_cases (eqb y c) (has_comp ys c) i) [ inl same ↦ subst (λ (x : ℕ). has_comp xs x ≡ true) (eqb-true y c same) both.0 | inr other ↦ among xs ys both.1 c other ]

pub all_among : (xs ys : List ℕ) → ((c : ℕ) → has_comp ys c ≡ true → has_comp xs c ≡ true) → list_all (has_comp xs) ys ≡ true
all_among xs [] h = refl
all_among xs (y ∷ ys) h =
    and_from (has_comp xs y) (list_all (has_comp xs) ys) (h y (or_left (eqb y y) (has_comp ys y) (eq-eqb y y refl))) (all_among xs ys (λ c i. h c (or_right (eqb y c) (has_comp ys c) i)))

-- the same compartments, seen as a list
pub has_comp-below : (p : ℕ → Bool) (c : ℕ) → has_comp (compartments p) c ≡ true → c < 1920
has_comp-below p c h = ltb-true c 1920 (and_parts (ltb c 1920) (p c) (sym (has_comp-compartments p c) ∙ h)).0

pub has_comp-past : (p : ℕ → Bool) (c : ℕ) → 1920 ≤ c → has_comp (compartments p) c ≡ false
has_comp-past p c h = has_comp-compartments p c ∙ ap (λ b. b && p c) (le-ltb c 1920 h)

-- compartments are those that are among them
pub compartments-are : (p : ℕ → Bool) → compartments p ≡ compartments (has_comp (compartments p))
compartments-are p = compartments-agree p (has_comp (compartments p)) (λ c l. sym (has_comp-compartments p c ∙ ap (λ b. b && p c) (lt-ltb c 1920 l)))

-- no number passes
none_range : (a n : ℕ) → filter (λ _. false) (range_with_len a n) ≡ []
none_range a zero = refl
none_range a (suc n) = none_range (a + 1) n

none_below : (n : ℕ) → numbers_below n (λ _. false) ≡ []
unfolding numbers_below
none_below n = none_range 0 n

pub no_compartments : (p : ℕ → Bool) → ((c : ℕ) → p c ≡ false) → compartments p ≡ []
no_compartments p h = compartments-agree p (λ _. false) (λ c l. h c) ∙ none_below 1920
