-- Ranges of compartments.
use Rattle.std.proofs.Common.{◌≡◌, ℕ, ◌+◌, ◌<◌, ◌≤◌, ◌&&◌, ◌||◌, Bool, true, false, eqb, ltb, leb, List, [], ◌∷◌, refl, ap, ◌∙◌, arith, max}
use Rattle.std.proofs.lemmas.Bool.{false≢true, lt-ltb}
use Rattle.std.proofs.lemmas.Bool.Decides.{nat_tests}
use Rattle.lnfs_calipso.specs.Label.{Label, IsLabel, has_comp, compartments, with_comp}
use Rattle.lnfs_calipso.proofs.Among.{has_comp-compartments}
use Rattle.lnfs_calipso.proofs.Members.{compartments-agree, no_compartments}
use Rattle.lnfs_calipso.specs.Equality.{same_parts}
use Rattle.lnfs_format.specs.Reading.{with_range}

-- a label with the compartments from low up to n
abbrev pub between : Label → ℕ → ℕ → Label
between label low n = record label { comps = compartments (λ c. has_comp label.comps c || (leb low c && ltb c n)) }

none_between : (h : Bool) (low c : ℕ) → h ≡ (h || (leb low c && ltb c low))
none_between true low c = refl
none_between false low c = grind (arith, nat_tests)

pub range_none : (label : Label) → IsLabel label → (low : ℕ) → label ≡ between label low low
range_none label is low =
    same_parts label (between label low low) refl refl
    (is.comps ∙ compartments-agree (has_comp label.comps) (λ c. has_comp label.comps c || (leb low c && ltb c low)) (λ c l. none_between (has_comp label.comps c) low c))

one_between : (h : Bool) (low n c : ℕ) → low ≤ n → ((h || (leb low c && ltb c n)) || eqb n c) ≡ (h || (leb low c && ltb c (n + 1)))
one_between true low n c l = refl
one_between false low n c l = grind (arith, nat_tests)

pub true_and : (x y : Bool) → x ≡ true → (x && y) ≡ y
true_and true y e = refl
true_and false y e = absurd (false≢true e)

pub range_more : (label : Label) (low n : ℕ) → low ≤ n → with_comp (between label low n) n ≡ between label low (n + 1)
range_more label low n l =
    let p = λ (c : ℕ). has_comp label.comps c || (leb low c && ltb c n) in
    same_parts (with_comp (between label low n) n) (between label low (n + 1)) refl refl
    (compartments-agree (λ c. has_comp (compartments p) c || eqb n c) (λ c. has_comp label.comps c || (leb low c && ltb c (n + 1))) (λ c u.
    ap (λ b. b || eqb n c) (has_comp-compartments p c ∙ true_and (ltb c 1920) (p c) (lt-ltb c 1920 u)) ∙ one_between (has_comp label.comps c) low n c l))

all_between : (h : Bool) (low high n c : ℕ) → high + 1 ≤ n → n ≤ max low (high + 1) → (h || (leb low c && ltb c n)) ≡ (h || (leb low c && leb c high))
all_between true low high n c l u = refl
all_between false low high n c l u = grind (arith, nat_tests)

pub range_all : (label : Label) (low high n : ℕ) → high + 1 ≤ n → n ≤ max low (high + 1) → between label low n ≡ with_range label low high
range_all label low high n l u =
    same_parts (between label low n) (with_range label low high) refl refl
    (compartments-agree (λ c. has_comp label.comps c || (leb low c && ltb c n)) (λ c. has_comp label.comps c || (leb low c && leb c high)) (λ c k. all_between (has_comp label.comps c) low high n c l u))

-- whether there is a compartment
pub some_comp : (comps : List ℕ) (c : ℕ) → has_comp comps c ≡ true → (others : List ℕ) × (d : ℕ) × (comps ≡ d ∷ others)
some_comp [] c h = absurd (false≢true h)
some_comp (d ∷ others) c h = (others, d, refl)

pub no_comp : (comps : List ℕ) → comps ≡ compartments (has_comp comps) → ((c : ℕ) → c < 1920 → has_comp comps c ≡ false) → comps ≡ []
no_comp comps is h = is ∙ compartments-agree (has_comp comps) (λ _. false) h ∙ no_compartments (λ _. false) (λ _. refl)
