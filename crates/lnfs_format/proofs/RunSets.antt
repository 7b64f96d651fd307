-- Which numbers are in the runs of a list.
use Rattle.std.proofs.Common.{◌≡◌, ℕ, ◌+◌, ◌<◌, ◌≤◌, ◌&&◌, ◌||◌, Bool, true, false, eqb, ltb, leb, List, [], ◌∷◌, refl, sym, ap, ◌∙◌, subst, arith, inl, inr}
use Rattle.std.proofs.lemmas.Bool.{cases_Bool, cond-true, cond-false, eqb-true, eq-eqb, lt-ltb, or_left, or_right}
use Rattle.std.proofs.lemmas.Bool.Decides.{nat_tests}
use Rattle.lnfs_calipso.specs.Label.{Label, IsLabel, has_comp, compartments}
use Rattle.lnfs_calipso.proofs.Among.{has_comp-compartments}
use Rattle.lnfs_calipso.proofs.Members.{has_comp-below, compartments-agree, no_compartments}
use Rattle.lnfs_calipso.specs.Equality.{same_parts}
use Rattle.lnfs_format.specs.Text.{Run, join, runs_of}
use Rattle.lnfs_format.specs.Reading.{with_range}
use Rattle.lnfs_format.proofs.RangeLemmas.{true_and}
use Rattle.lnfs_format.proofs.TextLaws.{Ordered, with_runs}

-- whether a number is in one of the runs
abbrev pub in_runs : List Run → ℕ → Bool
in_runs [] c = false
in_runs (run ∷ runs) c = (leb run.first c && leb c run.last) || in_runs runs c

alone : (a c : ℕ) → (leb a c && leb c a) ≡ eqb a c
alone a c = grind (arith, nat_tests)

extended : (a first last c : ℕ) → first ≡ a + 1 → first ≤ last → (leb a c && leb c last) ≡ (eqb a c || (leb first c && leb c last))
extended a first last c e l = grind (arith, nat_tests)

or_assoc : (x y z : Bool) → ((x || y) || z) ≡ (x || (y || z))
or_assoc true y z = refl
or_assoc false y z = refl

in_runs-join : (a : ℕ) (runs : List Run) → Ordered runs → (c : ℕ) → in_runs (join a runs) c ≡ (eqb a c || in_runs runs c)
unfolding Ordered
in_runs-join a [] order c = ap (λ b. b || false) (alone a c)
in_runs-join a (run ∷ runs) order c =
    let longer : List Run = record { first = a; last = run.last } ∷ runs in
    let more : List Run = record { first = a; last = a } ∷ run ∷ runs in
    elim (cases_Bool (eqb run.first (a + 1))) [
      | inl next ↦
          ap (λ (rs : List Run). in_runs rs c) (cond-true (eqb run.first (a + 1)) longer more next)
          ∙ ap (λ b. b || in_runs runs c) (extended a run.first run.last c (eqb-true run.first (a + 1) next) order.0)
          ∙ or_assoc (eqb a c) (leb run.first c && leb c run.last) (in_runs runs c)
      | inr apart ↦
          ap (λ (rs : List Run). in_runs rs c) (cond-false (eqb run.first (a + 1)) longer more apart) ∙ ap (λ b. b || in_runs (run ∷ runs) c) (alone a c)
    ]

ordered-join : (a : ℕ) (runs : List Run) → a < 1920 → Ordered runs → Ordered (join a runs)
unfolding Ordered
ordered-join a [] l order = (omega arith, l, tt)
ordered-join a (run ∷ runs) l order =
    let longer : List Run = record { first = a; last = run.last } ∷ runs in
    let more : List Run = record { first = a; last = a } ∷ run ∷ runs in
    elim (cases_Bool (eqb run.first (a + 1))) [
      | inl next ↦
          subst Ordered (sym (cond-true (eqb run.first (a + 1)) longer more next)) (below a run.first run.last (eqb-true run.first (a + 1) next) order.0, order.1, order.2)
      | inr apart ↦ subst Ordered (sym (cond-false (eqb run.first (a + 1)) longer more apart)) (omega arith, l, order)
    ]
  where
    below : (a first last : ℕ) → first ≡ a + 1 → first ≤ last → a ≤ last
    below a first last e l = omega arith

pub ordered-runs_of : (comps : List ℕ) → ((c : ℕ) → has_comp comps c ≡ true → c < 1920) → Ordered (runs_of comps)
unfolding Ordered
ordered-runs_of [] h = tt
ordered-runs_of (c ∷ comps) h =
    ordered-join c (runs_of comps) (h c (or_left (eqb c c) (has_comp comps c) (eq-eqb c c refl))) (ordered-runs_of comps (λ d i. h d (or_right (eqb c d) (has_comp comps d) i)))

-- the runs of a list have its numbers
pub in_runs-runs_of : (comps : List ℕ) → ((c : ℕ) → has_comp comps c ≡ true → c < 1920) → (c : ℕ) → in_runs (runs_of comps) c ≡ has_comp comps c
in_runs-runs_of [] h c = refl
in_runs-runs_of (d ∷ comps) h c =
    let h' : (c : ℕ) → has_comp comps c ≡ true → c < 1920 = λ e i. h e (or_right (eqb d e) (has_comp comps e) i) in
    in_runs-join d (runs_of comps) (ordered-runs_of comps h') c ∙ ap (λ b. eqb d c || b) (in_runs-runs_of comps h' c)

or_false : (x : Bool) → (x || false) ≡ x
or_false true = refl
or_false false = refl

-- adding runs adds their numbers
pub with_runs-is : (label : Label) (runs : List Run) → label.comps ≡ compartments (has_comp label.comps) → with_runs label runs ≡ record label { comps = compartments (λ c. has_comp label.comps c || in_runs runs c) }
unfolding with_runs
with_runs-is label [] is =
    same_parts label (record label { comps = compartments (λ c. has_comp label.comps c || false) }) refl refl
    (is ∙ compartments-agree (has_comp label.comps) (λ c. has_comp label.comps c || false) (λ c l. sym (or_false (has_comp label.comps c))))
with_runs-is label (run ∷ runs) is =
    let p = λ (c : ℕ). has_comp label.comps c || (leb run.first c && leb c run.last) in
    with_runs-is (with_range label run.first run.last) runs (again p)
    ∙ same_parts (record label { comps = compartments (λ c. has_comp (compartments p) c || in_runs runs c) }) (record label { comps = compartments (λ c. has_comp label.comps c || in_runs (run ∷ runs) c) }) refl refl
    (compartments-agree (λ c. has_comp (compartments p) c || in_runs runs c) (λ c. has_comp label.comps c || in_runs (run ∷ runs) c) (λ c l.
    ap (λ b. b || in_runs runs c) (has_comp-compartments p c ∙ true_and (ltb c 1920) (p c) (lt-ltb c 1920 l))
    ∙ or_assoc (has_comp label.comps c) (leb run.first c && leb c run.last) (in_runs runs c)))
  where
    again : (p : ℕ → Bool) → compartments p ≡ compartments (has_comp (compartments p))
    again p = compartments-agree p (has_comp (compartments p)) (λ c l. sym (has_comp-compartments p c ∙ true_and (ltb c 1920) (p c) (lt-ltb c 1920 l)))

-- the label that has all runs of some compartments
pub all_runs_of : (label : Label) → IsLabel label → with_runs (record label { comps = [] }) (runs_of label.comps) ≡ label
all_runs_of label is =
    let below : (c : ℕ) → has_comp label.comps c ≡ true → c < 1920 = λ c h. has_comp-below (has_comp label.comps) c (ap (λ (xs : List ℕ). has_comp xs c) (sym is.comps) ∙ h) in
    with_runs-is (record label { comps = [] }) (runs_of label.comps) (sym (no_compartments (λ _. false) (λ _. refl)))
    ∙ same_parts (record label { comps = compartments (λ c. in_runs (runs_of label.comps) c) }) label refl refl
    (compartments-agree (in_runs (runs_of label.comps)) (has_comp label.comps) (λ c l. in_runs-runs_of label.comps below c) ∙ sym is.comps)

pub comps-below : (label : Label) → IsLabel label → (c : ℕ) → has_comp label.comps c ≡ true → c < 1920
comps-below label is c h = has_comp-below (has_comp label.comps) c (ap (λ (xs : List ℕ). has_comp xs c) (sym is.comps) ∙ h)
