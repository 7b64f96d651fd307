-- The text of a label is read as that label.
use Rattle.std.proofs.Common.{◌≡◌, ℕ, ◌+◌, ◌-◌, ◌*◌, ◌/◌, ◌%◌, ◌<◌, ◌≤◌, ◌&&◌, ◌||◌, Bool, true, false, eqb, leb, ltb, List, [], ◌∷◌, ◌++◌, Option, Some, None, refl, ap, ◌∙◌, subst, arith, inl, inr, append_assoc, unwrap_or}
use Rattle.std.specs.Option.{option_and_then}
use Rattle.std.specs.Fmt.{decimal}
use Rattle.std.specs.List.{flat_map}
use Rattle.std.proofs.lemmas.Bool.{cases_lt, cases_eq, cond-true, cond-false, le-leb, lt-ltb, eq-eqb, ne_eqb}
use Rattle.std.proofs.lemmas.Bool.Decides.{nat_tests}
use Rattle.lnfs_calipso.specs.Label.{Label, has_comp, compartments}
use Rattle.lnfs_calipso.proofs.Among.{has_comp-compartments}
use Rattle.lnfs_calipso.proofs.Members.{compartments-agree}
use Rattle.lnfs_calipso.specs.Equality.{same_parts}
use Rattle.lnfs_format.specs.declared.reading.Reading.{Reading}
use Rattle.lnfs_format.specs.Text.{Run, comp_text, run_text, next_text, runs_text}
use Rattle.lnfs_format.specs.Reading.{with_range, bare, closed, step, read_bytes}
use Rattle.lnfs_format.proofs.Digits.{one_digit, two_digits, three_digits, four_digits}

-- a byte is read
pub one : (r s : Reading) (byte : ℕ) (rest : List ℕ) → step r byte ≡ Some s → read_bytes r (byte ∷ rest) ≡ read_bytes s rest
one r s byte rest h = ap (option_and_then (λ t. read_bytes t rest)) h

step_digit : (r : Reading) (d : ℕ) → d < 10 → 10 * r.number + d < 1920 → step r (48 + d) ≡ Some (record r { number = 10 * r.number + d })
unfolding step
step_digit r d l u =
    let value : 48 + d - 48 ≡ d = omega arith in
    let low : leb 48 (48 + d) ≡ true = le-leb 48 (48 + d) (omega arith) in
    let high : leb (48 + d) 57 ≡ true = le-leb (48 + d) 57 (omega arith) in
    let fits : ltb (10 * r.number + d) 1920 ≡ true = lt-ltb (10 * r.number + d) 1920 u in
    rw (low, high, value, fits)

step_letter : (r : Reading) → step r 99 ≡ Some (record r { number = 0 })
unfolding step
step_letter r = refl

pub step_first : (r : Reading) → step r 115 ≡ Some (record r { number = 0 })
unfolding step
step_first r = refl

pub step_colon : (r : Reading) → r.number < 256 → step r 58 ≡ Some (record r { label = bare r.label.doi r.number; in_comps = true })
unfolding step
step_colon r l = cond-true (ltb r.number 256) (Some (record r { label = bare r.label.doi r.number; in_comps = true })) None (lt-ltb r.number 256 l)

step_comma : (r : Reading) → step r 44 ≡ Some (record r { label = closed r; from = None })
unfolding step
step_comma r = refl

step_dot : (r : Reading) → step r 46 ≡ Some (record r { from = Some r.number })
unfolding step
step_dot r = refl

unfoldable pub with_number : Reading → ℕ → Reading
with_number r n = record r { number = n }

digit : (r : Reading) (m d : ℕ) (rest : List ℕ) → d < 10 → 10 * m + d < 1920 → read_bytes (with_number r m) ((48 + d) ∷ rest) ≡ read_bytes (with_number r (10 * m + d)) rest
unfolding with_number
digit r m d rest l u = one (record r { number = m }) (record r { number = 10 * m + d }) (48 + d) rest (step_digit (record r { number = m }) d l u)

-- a number is read
pub number_read : (r : Reading) (n : ℕ) (rest : List ℕ) → n < 1920 → read_bytes (with_number r 0) (decimal n ++ rest) ≡ read_bytes (with_number r n) rest
number_read r n rest l =
    let read = λ (text : List ℕ). read_bytes (with_number r 0) (text ++ rest) in
    elim (cases_lt n 10) [
      | inl small ↦ ap read (one_digit n small) ∙ digit r 0 n rest small (omega arith) ∙ ap (λ (m : ℕ). read_bytes (with_number r m) rest) (omega arith)
      | inr ten ↦ elim (cases_lt n 100) [
        | inl below ↦
            ap read (two_digits n ten below)
            ∙ digit r 0 (n / 10) ((48 + n % 10) ∷ rest) (omega arith) (omega arith)
            ∙ digit r (10 * 0 + n / 10) (n % 10) rest (omega arith) (omega arith)
            ∙ ap (λ (m : ℕ). read_bytes (with_number r m) rest) (omega arith)
        | inr hundred ↦ elim (cases_lt n 1000) [
          | inl short ↦
              ap read (three_digits n hundred short)
              ∙ digit r 0 (n / 100) ((48 + n / 10 % 10) ∷ (48 + n % 10) ∷ rest) (omega arith) (omega arith)
              ∙ digit r (10 * 0 + n / 100) (n / 10 % 10) ((48 + n % 10) ∷ rest) (omega arith) (omega arith)
              ∙ digit r (10 * (10 * 0 + n / 100) + n / 10 % 10) (n % 10) rest (omega arith) (omega arith)
              ∙ ap (λ (m : ℕ). read_bytes (with_number r m) rest) (omega arith)
          | inr thousand ↦
              ap read (four_digits n thousand (omega arith))
              ∙ digit r 0 (n / 1000) ((48 + n / 100 % 10) ∷ (48 + n / 10 % 10) ∷ (48 + n % 10) ∷ rest) (omega arith) (omega arith)
              ∙ digit r (10 * 0 + n / 1000) (n / 100 % 10) ((48 + n / 10 % 10) ∷ (48 + n % 10) ∷ rest) (omega arith) (omega arith)
              ∙ digit r (10 * (10 * 0 + n / 1000) + n / 100 % 10) (n / 10 % 10) ((48 + n % 10) ∷ rest) (omega arith) (omega arith)
              ∙ digit r (10 * (10 * (10 * 0 + n / 1000) + n / 100 % 10) + n / 10 % 10) (n % 10) rest (omega arith) (omega arith)
              ∙ ap (λ (m : ℕ). read_bytes (with_number r m) rest) (omega arith)
        ]
      ]
    ]

-- a compartment is read
comp_read : (r : Reading) (n : ℕ) (rest : List ℕ) → n < 1920 → read_bytes r (comp_text n ++ rest) ≡ read_bytes (record r { number = n }) rest
unfolding with_number
comp_read r n rest l = one r (record r { number = 0 }) 99 (decimal n ++ rest) (step_letter r) ∙ number_read r n rest l

-- a reading among the compartments, with no range begun
pub record Between (r : Reading) : Type 0 where
  pub from : r.from ≡ None
  pub in_comps : r.in_comps ≡ true

-- two ranges that follow one another are one
two_ranges : (label : Label) (a b : ℕ) → a + 1 ≡ b → with_range (with_range label a a) b b ≡ with_range label a b
two_ranges label a b e =
    let p = λ (c : ℕ). has_comp label.comps c || (leb a c && leb c a) in
    same_parts (with_range (with_range label a a) b b) (with_range label a b) refl refl
    (compartments-agree (λ c. has_comp (compartments p) c || (leb b c && leb c b)) (λ c. has_comp label.comps c || (leb a c && leb c b)) (λ c l.
    ap (λ x. x || (leb b c && leb c b)) (has_comp-compartments p c ∙ ap (λ x. x && p c) (lt-ltb c 1920 l)) ∙ both (has_comp label.comps c) a b c e))
  where
    both : (h : Bool) (a b c : ℕ) → a + 1 ≡ b → ((h || (leb a c && leb c a)) || (leb b c && leb c b)) ≡ (h || (leb a c && leb c b))
    both true a b c e = refl
    both false a b c e = grind (arith, nat_tests)

-- what is left after a run: the run is in the label once the item is closed
record Ran (r : Reading) (run : Run) : Type 0 where
  pub after : Reading
  pub in_comps : after.in_comps ≡ true
  label : closed after ≡ with_range r.label run.first run.last
  reads : (rest : List ℕ) → read_bytes r (run_text run ++ rest) ≡ read_bytes after rest

single : (r : Reading) (n : ℕ) → Between r → n < 1920 → Ran r (record { first = n; last = n })
unfolding run_text
single r n is l = record {
  after = record r { number = n };
  in_comps = is.in_comps;
  label = ap (λ (o : Option ℕ). with_range r.label (unwrap_or o n) n) is.from;
  reads = λ rest.
      ap (λ (text : List ℕ). read_bytes r (text ++ rest)) (cond-true (eqb n n) (comp_text n) _ (eq-eqb n n refl)) ∙ comp_read r n rest l;
}

pair_of : (r : Reading) (a b : ℕ) → Between r → a + 1 ≡ b → b < 1920 → Ran r (record { first = a; last = b })
unfolding run_text
pair_of r a b is e l =
    let first = record r { number = a } in
    let closing = record first { label = closed first; from = None } in
    record {
      after = record closing { number = b };
      in_comps = is.in_comps;
      label = ap (λ (o : Option ℕ). with_range (with_range r.label (unwrap_or o a) a) b b) is.from ∙ two_ranges r.label a b e;
      reads = λ rest.
          ap (λ (text : List ℕ). read_bytes r (text ++ rest)) (cond-false (eqb a b) (comp_text a) _ (ne_eqb a b (λ s. omega arith)) ∙ ap (λ (n : ℕ). comp_text a ++ n ∷ comp_text b) (cond-true (eqb (a + 1) b) 44 46 (eq-eqb (a + 1) b e)))
          ∙ ap (read_bytes r) (append_assoc (comp_text a) (44 ∷ comp_text b) rest)
          ∙ comp_read r a (44 ∷ comp_text b ++ rest) (omega arith)
          ∙ one first closing 44 (comp_text b ++ rest) (step_comma first)
          ∙ comp_read closing b rest l;
    }

range_of : (r : Reading) (a b : ℕ) → Between r → a + 1 < b → b < 1920 → Ran r (record { first = a; last = b })
unfolding run_text
range_of r a b is e l =
    let first = record r { number = a } in
    let opened = record first { from = Some a } in
    record {
      after = record opened { number = b };
      in_comps = is.in_comps;
      label = refl;
      reads = λ rest.
          ap (λ (text : List ℕ). read_bytes r (text ++ rest)) (cond-false (eqb a b) (comp_text a) _ (ne_eqb a b (λ s. omega arith)) ∙ ap (λ (n : ℕ). comp_text a ++ n ∷ comp_text b) (cond-false (eqb (a + 1) b) 44 46 (ne_eqb (a + 1) b (λ s. omega arith))))
          ∙ ap (read_bytes r) (append_assoc (comp_text a) (46 ∷ comp_text b) rest)
          ∙ comp_read r a (46 ∷ comp_text b ++ rest) (omega arith)
          ∙ one first opened 46 (comp_text b ++ rest) (step_dot first)
          ∙ comp_read opened b rest l;
    }

run_read : (r : Reading) (run : Run) → Between r → run.first ≤ run.last → run.last < 1920 → Ran r run
run_read r run is order below =
    elim (cases_eq run.first run.last) [
      | inl same ↦ same_run r run same (single r run.first is (omega arith))
      | inr apart ↦ elim (cases_eq (run.first + 1) run.last) [
        | inl next ↦ pair_of r run.first run.last is next below
        | inr far ↦ range_of r run.first run.last is (omega arith) below
      ]
    ]
  where
    same_run : (r : Reading) (run : Run) → run.first ≡ run.last → Ran r (record { first = run.first; last = run.first }) → Ran r run
    same_run r run e h = subst (λ (n : ℕ). Ran r (record { first = run.first; last = n })) e h

-- runs are in order, and none is above 1,919
unfoldable pub Ordered : List Run → Type 0
Ordered [] = Unit {0}
Ordered (run ∷ runs) = (run.first ≤ run.last) × (run.last < 1920) × Ordered runs

-- a label with the compartments of runs
unfoldable pub with_runs : Label → List Run → Label
with_runs label [] = label
with_runs label (run ∷ runs) = with_runs (with_range label run.first run.last) runs

pub record AllRan (r : Reading) (label : Label) (text : List ℕ) : Type 0 where
  pub after : Reading
  pub in_comps : after.in_comps ≡ true
  pub label_is : closed after ≡ label
  pub reads : read_bytes r text ≡ Some after

pub others_read : (r : Reading) (runs : List Run) → r.in_comps ≡ true → Ordered runs → AllRan r (with_runs (closed r) runs) (flat_map next_text runs)
unfolding Ordered with_runs
others_read r [] is order = record { after = r; in_comps = is; label_is = refl; reads = refl }
others_read r (run ∷ runs) is order =
    let closing = record r { label = closed r; from = None } in
    let ran = run_read closing run (record { from = refl; in_comps = is }) order.0 order.1 in
    let rest = others_read ran.after runs ran.in_comps order.2 in
    record {
      after = rest.after;
      in_comps = rest.in_comps;
      label_is = rest.label_is ∙ ap (λ (l : Label). with_runs l runs) ran.label;
      reads =
          one r closing 44 (run_text run ++ flat_map next_text runs) (step_comma r) ∙ ran.reads (flat_map next_text runs) ∙ rest.reads;
    }

pub runs_read : (r : Reading) (run : Run) (runs : List Run) → Between r → Ordered (run ∷ runs) → AllRan r (with_runs r.label (run ∷ runs)) (runs_text (run ∷ runs))
unfolding Ordered with_runs
runs_read r run runs is order =
    let ran = run_read r run is order.0 order.1 in
    let rest = others_read ran.after runs ran.in_comps order.2 in
    record {
      after = rest.after;
      in_comps = rest.in_comps;
      label_is = rest.label_is ∙ ap (λ (l : Label). with_runs l runs) ran.label;
      reads = ran.reads (flat_map next_text runs) ∙ rest.reads;
    }
