-- Runs of rising numbers.
use Rattle.std.proofs.Common.{◌≡◌, ℕ, ◌+◌, ◌-◌, ◌<◌, ◌≤◌, Bool, true, false, cond, eqb, List, [], ◌∷◌, ◌++◌, refl, sym, ap, ◌∙◌, subst, arith, inl, inr, filter, suc, zero, zero-add, add-zero, append_assoc}
use Rattle.std.proofs.lemmas.List.{append-nil}
use native.Mathlib.Nat.{suc-add}
use Rattle.std.specs.List.{range_with_len, flat_map}
use Rattle.std.proofs.lemmas.Bool.{cases_Bool, eq-eqb, ne_eqb, cond-true, cond-false}
use Rattle.lnfs_calipso.specs.Label.{has_comp, numbers_below, compartments}
use Rattle.lnfs_format.specs.Text.{Run, join, runs_of, run_text, next_text, runs_text, comps_text}
use Rattle.lnfs_format.specs.Runs.{numbers_from, runs_from}

runs : (ℕ → Bool) → ℕ → ℕ → List Run
runs p a n = runs_of (numbers_from p a n)

none_more : (p : ℕ → Bool) (a n : ℕ) → p a ≡ false → runs p a (suc n) ≡ runs p (a + 1) n
unfolding runs numbers_from
none_more p a n h = ap (λ b. runs_of (cond b (a ∷ filter p (range_with_len (a + 1) n)) (filter p (range_with_len (a + 1) n)))) h

one_more : (p : ℕ → Bool) (a n : ℕ) → p a ≡ true → runs p a (suc n) ≡ join a (runs p (a + 1) n)
unfolding runs numbers_from
one_more p a n h = ap (λ b. runs_of (cond b (a ∷ filter p (range_with_len (a + 1) n)) (filter p (range_with_len (a + 1) n)))) h

no_numbers : (p : ℕ → Bool) (a : ℕ) → runs p a 0 ≡ []
unfolding runs numbers_from
no_numbers p a = refl

-- no run begins before b
abbrev Above : ℕ → List Run → Type 0
Above b [] = Unit {0}
Above b (run ∷ others) = b ≤ run.first

above-join : (a : ℕ) (rs : List Run) → Above a (join a rs)
above-join a [] = omega arith
above-join a (run ∷ rs) = elim (cases_Bool (eqb run.first (a + 1))) [
  | inl h ↦ subst (Above a) (sym (cond-true (eqb run.first (a + 1)) (record { first = a; last = run.last } ∷ rs) (record { first = a; last = a } ∷ run ∷ rs) h)) (omega arith)
  | inr h ↦ subst (Above a) (sym (cond-false (eqb run.first (a + 1)) (record { first = a; last = run.last } ∷ rs) (record { first = a; last = a } ∷ run ∷ rs) h)) (omega arith)
]

weaker : (a b : ℕ) (rs : List Run) → a ≤ b → Above b rs → Above a rs
weaker a b [] l h = tt
weaker a b (run ∷ rs) l h = omega arith

above : (p : ℕ → Bool) (a n : ℕ) → Above a (runs p a n)
above p a zero = subst (Above a) (sym (no_numbers p a)) tt
above p a (suc n) = elim (cases_Bool (p a)) [
  | inl h ↦ subst (Above a) (sym (one_more p a n h)) (above-join a (runs p (a + 1) n))
  | inr h ↦ subst (Above a) (sym (none_more p a n h)) (weaker a (a + 1) (runs p (a + 1) n) (omega arith) (above p (a + 1) n))
]

apart : (a : ℕ) (rs : List Run) → Above (a + 2) rs → join a rs ≡ record { first = a; last = a } ∷ rs
apart a [] h = refl
apart a (run ∷ rs) h = cond-false (eqb run.first (a + 1)) (record { first = a; last = run.last } ∷ rs) (record { first = a; last = a } ∷ run ∷ rs) (ne_eqb run.first (a + 1) (λ e. omega arith))

-- a number that isn't followed by the next is a run
lone : (p : ℕ → Bool) (a n : ℕ) → (0 < n → p (a + 1) ≡ false) → join a (runs p (a + 1) n) ≡ record { first = a; last = a } ∷ runs p (a + 1) n
lone p a zero h = apart a (runs p (a + 1) 0) (subst (Above (a + 2)) (sym (no_numbers p (a + 1))) tt)
lone p a (suc n) h =
    apart a (runs p (a + 1) (suc n)) (subst (Above (a + 2)) (sym (none_more p (a + 1) n (h (omega arith)))) (weaker (a + 2) (a + 1 + 1) (runs p (a + 1 + 1) n) (omega arith) (above p (a + 1 + 1) n)))

-- numbers that don't pass are skipped
skipped : (p : ℕ → Bool) (a m n : ℕ) → ((k : ℕ) → a ≤ k → k < a + m → p k ≡ false) → runs p a (m + n) ≡ runs p (a + m) n
skipped p a zero n h = ap (runs p a) (zero-add n) ∙ ap (λ (k : ℕ). runs p k n) (sym (add-zero a))
skipped p a (suc m) n h =
    ap (runs p a) (suc-add m n) ∙ none_more p a (m + n) (h a (omega arith) (omega arith)) ∙ skipped p (a + 1) m n (λ k l u. h k (omega arith) (omega arith)) ∙ ap (λ (k : ℕ). runs p k n) (omega arith)

joined : (a last : ℕ) (rs : List Run) → join a (record { first = a + 1; last = last } ∷ rs) ≡ record { first = a; last = last } ∷ rs
joined a last rs = cond-true (eqb (a + 1) (a + 1)) (record { first = a; last = last } ∷ rs) (record { first = a; last = a } ∷ record { first = a + 1; last = last } ∷ rs) (eq-eqb (a + 1) (a + 1) refl)

-- numbers that pass, up to one that doesn't, are a run
whole : (p : ℕ → Bool) (a m n : ℕ) → ((k : ℕ) → a ≤ k → k ≤ a + m → p k ≡ true) → (0 < n → p (a + m + 1) ≡ false) → runs p a (suc (m + n)) ≡ record { first = a; last = a + m } ∷ runs p (a + m + 1) n
whole p a zero n h e =
    one_more p a (0 + n) (h a (omega arith) (omega arith))
    ∙ ap (λ (k : ℕ). join a (runs p (a + 1) k)) (zero-add n)
    ∙ lone p a n (λ l. ap p (omega arith) ∙ e l)
    ∙ ap (λ (k : ℕ). record { first = a; last = k } ∷ runs p (k + 1) n) (sym (add-zero a))
whole p a (suc m) n h e =
    one_more p a (suc m + n) (h a (omega arith) (omega arith))
    ∙ ap (λ (k : ℕ). join a (runs p (a + 1) k)) (suc-add m n)
    ∙ ap (join a) (whole p (a + 1) m n (λ k l u. h k (omega arith) (omega arith)) (λ l. ap p (omega arith) ∙ e l))
    ∙ joined a (a + 1 + m) (runs p (a + 1 + m + 1) n)
    ∙ ap (λ (k : ℕ). record { first = a; last = k } ∷ runs p (k + 1) n) (omega arith)

-- from a number that isn't above 1920 up to the next compartment
pub skip_to : (comps : List ℕ) (from c : ℕ) → from ≤ c → c ≤ 1920 → ((k : ℕ) → from ≤ k → k < c → has_comp comps k ≡ false) → runs_from comps from ≡ runs_from comps c
unfolding runs_from runs
skip_to comps from c l u h =
    let p = has_comp comps in
    ap (λ (n : ℕ). runs_of (numbers_from p from n)) (split from c l u)
    ∙ skipped p from (c - from) (1920 - c) (λ k a b. h k a (omega arith))
    ∙ ap (λ (k : ℕ). runs_of (numbers_from p k (1920 - c))) (omega arith)
  where
    split : (from c : ℕ) → from ≤ c → c ≤ 1920 → 1920 - from ≡ (c - from) + (1920 - c)
    split from c l u = omega arith

ends : (comps : List ℕ) → runs_from comps 1920 ≡ []
unfolding runs_from numbers_from
ends comps = refl

pub no_runs : (comps : List ℕ) (from : ℕ) → from ≤ 1920 → ((k : ℕ) → from ≤ k → k < 1920 → has_comp comps k ≡ false) → runs_from comps from ≡ []
no_runs comps from l h = skip_to comps from 1920 l (omega arith) h ∙ ends comps

pub run_from : (comps : List ℕ) (first last : ℕ) → first ≤ last → last < 1920 → ((k : ℕ) → first ≤ k → k ≤ last → has_comp comps k ≡ true) → (last + 1 < 1920 → has_comp comps (last + 1) ≡ false)
    → runs_from comps first ≡ record { first = first; last = last } ∷ runs_from comps (last + 1)
unfolding runs_from runs
run_from comps first last l u h e =
    let p = has_comp comps in
    let same : first + (last - first) ≡ last = omega arith in
    ap (λ (n : ℕ). runs_of (numbers_from p first n)) (split first last l u)
    ∙ whole p first (last - first) (1920 - (last + 1)) (λ k a b. h k a (omega arith)) (λ pos. ap (λ (k : ℕ). p (k + 1)) same ∙ e (omega arith))
    ∙ ap (λ (k : ℕ). record { first = first; last = k } ∷ runs_of (numbers_from p (k + 1) (1920 - (last + 1)))) same
  where
    split : (first last : ℕ) → first ≤ last → last < 1920 → 1920 - first ≡ suc ((last - first) + (1920 - (last + 1)))
    split first last l u = omega arith

numbers_below-from : (n : ℕ) (p : ℕ → Bool) → numbers_below n p ≡ numbers_from p 0 n
unfolding numbers_below numbers_from
numbers_below-from n p = refl

-- all runs of a label
pub all_runs : (comps : List ℕ) → comps ≡ compartments (has_comp comps) → runs_of comps ≡ runs_from comps 0
unfolding runs_from
all_runs comps is = ap runs_of (is ∙ numbers_below-from 1920 (has_comp comps))

pub none_written : (comps text : List ℕ) → comps ≡ compartments (has_comp comps) → runs_from comps 0 ≡ [] → text ≡ text ++ comps_text comps
none_written comps text is none = sym (append-nil text) ∙ ap (λ (rs : List Run). text ++ runs_text rs) (sym (all_runs comps is ∙ none))

pub first_written : (comps old text : List ℕ) (run : Run) (rest : List Run) → comps ≡ compartments (has_comp comps) → runs_from comps 0 ≡ run ∷ rest → text ≡ old ++ run_text run → text ++ flat_map next_text rest ≡ old ++ comps_text comps
first_written comps old text run rest is first written =
    ap (λ (t : List ℕ). t ++ flat_map next_text rest) written
    ∙ append_assoc old (run_text run) (flat_map next_text rest)
    ∙ ap (λ (rs : List Run). old ++ runs_text rs) (sym (all_runs comps is ∙ first))
