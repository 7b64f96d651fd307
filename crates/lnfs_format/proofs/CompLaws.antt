-- Texts and compartments: what is read and what is written are inverse to each other.
use Rattle.std.proofs.Common.{◌≡◌, ℕ, ◌+◌, ◌-◌, ◌*◌, ◌<◌, ◌≤◌, ◌^◌, ◌==◌, ◌&&◌, ◌||◌, true, false, cond, eqb, leb, ltb, length, List, [], ◌∷◌, ◌++◌, Option, Some, None, refl, sym, ap, ◌∙◌, subst, arith, inl, inr, unwrap_or}
use Rattle.std.specs.Option.{option_and_then}
use Rattle.std.specs.Prelude.{slice_index}
use Rattle.std.proofs.lemmas.Bool.{cases_Bool, cond-true, cond-false, cond_both, eqb-true, eq-eqb, false_from_ne_true, leb-true, le-leb, ltb-true, lt-ltb}
use Rattle.lnfs_calipso.specs.Label.{Label, IsLabel, has_comp}
use Rattle.std.specs.Str.{bytes_eq}
use Rattle.lnfs_calipso.specs.Same.{same_label}
use Rattle.lnfs_calipso.proofs.Members.{compartments-are, no_compartments}
use Rattle.std.proofs.lemmas.Slice.Eq.{bytes_eq-Decides}
use Rattle.lnfs_calipso.specs.Equality.{same_parts, same_label-refl, same_label-true}
use Rattle.lnfs_calipso.specs.Body.{body_of, label_of_body}
use Rattle.lnfs_format.specs.declared.reading.Reading.{Reading}
use Rattle.std.specs.Fmt.{decimal}
use Rattle.lnfs_format.specs.Text.{Run, join, runs_of, runs_text, comps_text, marked_text, text_of}
use Rattle.lnfs_format.specs.Reading.{with_range, bare, closed, step, read_bytes, finished, start, start_comps, told, where_spelled, short, reads_text, reads_comps, writes_text}
use Rattle.lnfs_format.specs.Kinds.{reads_name, writes_name, reads, writes}
use Rattle.lnfs_format.specs.Laws.{IsTable, IsFormat, IsComps}
use Rattle.lnfs_format.specs.declared.kind.NameRow.{NameRow}
use Rattle.lnfs_format.specs.declared.kind.Kind.{Kind}
use Rattle.lnfs_format.specs.declared.kind.Kind.TheVariants.{Calipso, Text, Name, Long}
use Rattle.lnfs_format.proofs.TextLaws.{Between, AllRan, Ordered, with_runs, runs_read, number_read, with_number, one, step_colon, step_first}
use Rattle.lnfs_format.proofs.RunSets.{ordered-runs_of, all_runs_of, comps-below}

some_join : (c : ℕ) (runs : List Run) → join c runs ≡ [] → ⊥
some_join c [] e = cc
some_join c (run ∷ runs) e = elim (cases_Bool (eqb run.first (c + 1))) [
  | inl h ↦ no_cons (sym (cond-true (eqb run.first (c + 1)) (record { first = c; last = run.last } ∷ runs) (record { first = c; last = c } ∷ run ∷ runs) h) ∙ e)
  | inr h ↦ no_cons (sym (cond-false (eqb run.first (c + 1)) (record { first = c; last = run.last } ∷ runs) (record { first = c; last = c } ∷ run ∷ runs) h) ∙ e)
]
  where
    no_cons : {x : Run} {xs : List Run} → x ∷ xs ≡ [] → ⊥
    no_cons e = cc

all_read : (r : Reading) (runs : List Run) → (runs ≡ [] → ⊥) → Between r → Ordered runs → AllRan r (with_runs r.label runs) (runs_text runs)
all_read r [] some is order = absurd (some refl)
all_read r (run ∷ runs) some is order = runs_read r run runs is order

-- the compartments of a label are told by their text
comps_told : (r : Reading) (label : Label) → IsLabel label → Between r → r.label ≡ record label { comps = [] } → (label.comps ≡ [] → ⊥) → told r (comps_text label.comps) ≡ Some label
comps_told r label is between same some =
    let ran = all_read r (runs_of label.comps) (some_runs label.comps some) between (ordered-runs_of label.comps (comps-below label is)) in
    ap (option_and_then finished) ran.reads
    ∙ cond-true ran.after.in_comps (Some (closed ran.after)) (cond (ltb ran.after.number 256) (Some (bare ran.after.label.doi ran.after.number)) None) ran.in_comps
    ∙ ap Some (ran.label_is ∙ ap (λ (l : Label). with_runs l (runs_of label.comps)) same ∙ all_runs_of label is)
  where
    some_runs : (comps : List ℕ) → (comps ≡ [] → ⊥) → runs_of comps ≡ [] → ⊥
    some_runs [] h = λ _. h refl
    some_runs (c ∷ comps) h = some_join c (runs_of comps)

-- the bytes after the sensitivity
marked_told : (label : Label) → IsLabel label → (comps : List ℕ) → label.comps ≡ comps → told (with_number (start label.doi) label.sens) (marked_text comps) ≡ Some label
unfolding with_number
marked_told label is [] e =
    cond-true (ltb label.sens 256) (Some (bare label.doi label.sens)) None (lt-ltb label.sens 256 is.sens)
    ∙ ap Some (same_parts (bare label.doi label.sens) label refl refl (sym e))
marked_told label is (c ∷ comps) e =
    let r : Reading = record { label = bare label.doi label.sens; number = label.sens; from = None; in_comps = true } in
    ap (option_and_then finished) (one (record { label = bare label.doi 0; number = label.sens; from = None; in_comps = false }) r 58 (comps_text (c ∷ comps)) (step_colon (record { label = bare label.doi 0; number = label.sens; from = None; in_comps = false }) is.sens))
    ∙ ap (λ (xs : List ℕ). told r (comps_text xs)) (sym e)
    ∙ comps_told r label is (record { from = refl; in_comps = refl }) refl (λ none. no_cons (sym e ∙ none))
  where
    no_cons : {x : ℕ} {xs : List ℕ} → x ∷ xs ≡ [] → ⊥
    no_cons e = cc

text_told : (label : Label) → IsLabel label → told (start label.doi) (text_of label) ≡ Some label
unfolding text_of with_number
text_told label is =
    ap (option_and_then finished) (one (start label.doi) (start label.doi) 115 (decimal label.sens ++ marked_text label.comps) (step_first (start label.doi)) ∙ number_read (start label.doi) label.sens (marked_text label.comps) (omega (arith, is.sens)))
    ∙ marked_told label is label.comps refl

spelled : (label : Label) (text : List ℕ) → where_spelled label text text ≡ Some label
spelled label text = cond-true (bytes_eq text text) (Some label) None ((bytes_eq-Decides text text).1 refl)

-- what is no longer than a spelling may be
pub short_is : (text : List ℕ) → length text ≤ 1024 → short text ≡ Some text
short_is text l = cond-true (leb (length text) 1024) (Some text) None (le-leb (length text) 1024 l)

-- the text of a label is read as that label
pub text_read : (label : Label) → IsLabel label → length (text_of label) ≤ 1024 → reads_text label.doi (text_of label) ≡ Some label
unfolding reads_text
text_read label is few =
    ap (option_and_then (λ text. option_and_then (λ l. where_spelled l (text_of l) text) (told (start label.doi) text))) (short_is (text_of label) few)
    ∙ ap (option_and_then (λ l. where_spelled l (text_of l) (text_of label))) (text_told label is) ∙ spelled label (text_of label)

-- and so are the compartments of a label that has one
pub comps_read : (label : Label) → IsLabel label → (label.comps ≡ [] → ⊥) → reads_comps label.doi label.sens (comps_text label.comps) ≡ Some label
unfolding reads_comps
comps_read label is some =
    ap (option_and_then (λ l. cond (l.sens == label.sens) (where_spelled l (comps_text l.comps) (comps_text label.comps)) None)) (comps_told (start_comps label.doi label.sens) label is (record { from = refl; in_comps = refl }) refl some)
    ∙ cond-true (label.sens == label.sens) (where_spelled label (comps_text label.comps) (comps_text label.comps)) None (eq-eqb label.sens label.sens refl)
    ∙ spelled label (comps_text label.comps)

-- what a reading keeps
record Good (doi : ℕ) (r : Reading) : Type 0 where
  pub doi_is : r.label.doi ≡ doi
  pub is : IsLabel r.label
  pub number : r.number < 1920

GoodIf : ℕ → Option Reading → Type 0
GoodIf doi None = Unit {0}
GoodIf doi (Some r) = Good doi r

bare-label : (doi sens : ℕ) → doi < 2 ^ 32 → sens < 256 → IsLabel (bare doi sens)
bare-label doi sens d s = record { doi = d; sens = s; comps = sym (no_compartments (λ _. false) (λ _. refl)) }

ranged-label : (label : Label) (low high : ℕ) → IsLabel label → IsLabel (with_range label low high)
ranged-label label low high is =
    record { doi = is.doi; sens = is.sens; comps = compartments-are (λ c. has_comp label.comps c || (leb low c && leb c high)) }

good_step : (doi : ℕ) (r : Reading) (byte : ℕ) → Good doi r → GoodIf doi (step r byte)
unfolding step GoodIf
good_step doi r byte good =
    let P = GoodIf doi in
    cond_both (leb 48 byte && leb byte 57) _ _ P
    (λ _. cond_both (ltb (10 * r.number + (byte - 48)) 1920) (Some (record r { number = 10 * r.number + (byte - 48) })) None P
    (λ small. (let fits = ltb-true (10 * r.number + (byte - 48)) 1920 small in record { doi_is = good.doi_is; is = good.is; number = omega arith })) (λ _. tt))
    (λ _. cond_both (byte == 99 || byte == 115) (Some (record r { number = 0 })) _ P (λ _. record { doi_is = good.doi_is; is = good.is; number = omega arith })
    (λ _. cond_both (byte == 58) _ _ P
    (λ _. cond_both (ltb r.number 256) (Some (record r { label = bare r.label.doi r.number; in_comps = true })) None P
    (λ small. (let fits = ltb-true r.number 256 small in record { doi_is = good.doi_is; is = bare-label r.label.doi r.number good.is.doi fits; number = good.number })) (λ _. tt))
    (λ _. cond_both (byte == 44) (Some (record r { label = closed r; from = None })) _ P
    (λ _. record { doi_is = good.doi_is; is = ranged-label r.label (unwrap_or r.from r.number) r.number good.is; number = good.number })
    (λ _. cond_both (byte == 46) (Some (record r { from = Some r.number })) None P (λ _. record { doi_is = good.doi_is; is = good.is; number = good.number }) (λ _. tt)))))

good_after : (doi : ℕ) (bytes : List ℕ) → ((s : Reading) → Good doi s → GoodIf doi (read_bytes s bytes)) → (o : Option Reading) → GoodIf doi o → GoodIf doi (option_and_then (λ s. read_bytes s bytes) o)
unfolding GoodIf
good_after doi bytes next None h = tt
good_after doi bytes next (Some s) h = next s h

good_bytes : (doi : ℕ) (r : Reading) (bytes : List ℕ) → Good doi r → GoodIf doi (read_bytes r bytes)
unfolding GoodIf
good_bytes doi r [] good = good
good_bytes doi r (byte ∷ bytes) good = good_after doi bytes (λ s h. good_bytes doi s bytes h) (step r byte) (good_step doi r byte good)

record Finished (doi : ℕ) (label : Label) : Type 0 where
  pub doi_is : label.doi ≡ doi
  pub is : IsLabel label

FinishedIf : ℕ → Option Label → Type 0
FinishedIf doi None = Unit {0}
FinishedIf doi (Some label) = Finished doi label

good_label : (doi : ℕ) (r : Reading) → Good doi r → FinishedIf doi (finished r)
unfolding FinishedIf
good_label doi r good =
    cond_both r.in_comps (Some (closed r)) _ (FinishedIf doi)
    (λ _. record { doi_is = good.doi_is; is = ranged-label r.label (unwrap_or r.from r.number) r.number good.is })
    (λ _. cond_both (ltb r.number 256) (Some (bare r.label.doi r.number)) None (FinishedIf doi)
    (λ small. record { doi_is = good.doi_is; is = bare-label r.label.doi r.number good.is.doi (ltb-true r.number 256 small) }) (λ _. tt))

pub none_some : (l : Label) → None ≡ Some l → ⊥
none_some l e = cc

pub some_some : (a b : Label) → Some a ≡ Some b → a ≡ b
some_some a b e = cc

finished_is : (doi : ℕ) (o : Option Label) → FinishedIf doi o → (label : Label) → o ≡ Some label → Finished doi label
unfolding FinishedIf
finished_is doi None g label e = absurd (none_some label e)
finished_is doi (Some l) g label e = subst (Finished doi) (some_some l label e) g

-- what is told is a label of the DOI
told_label : (doi : ℕ) (r : Reading) (bytes : List ℕ) → Good doi r → (label : Label) → told r bytes ≡ Some label → Finished doi label
unfolding GoodIf
told_label doi r bytes good label h = of_end (read_bytes r bytes) (good_bytes doi r bytes good) label h
  where
    of_end : (o : Option Reading) → GoodIf doi o → (label : Label) → option_and_then finished o ≡ Some label → Finished doi label
    of_end None g l e = absurd (none_some l e)
    of_end (Some s) g l e = finished_is doi (finished s) (good_label doi s g) l e

-- where a label was taken, the bytes are its text
pub record Taken (doi : ℕ) (label : Label) (text bytes : List ℕ) : Type 0 where
  pub doi_is : label.doi ≡ doi
  pub is : IsLabel label
  pub text_is : text ≡ bytes

taken : (doi : ℕ) (text : Label → List ℕ) (bytes : List ℕ) (o : Option Label) → ((l : Label) → o ≡ Some l → Finished doi l) → (label : Label) → option_and_then (λ l. where_spelled l (text l) bytes) o ≡ Some label → Taken doi label (text label) bytes
taken doi text bytes None h label e = absurd (none_some label e)
  where
    none_some : (l : Label) → None ≡ Some l → ⊥
    none_some l e = cc
taken doi text bytes (Some l) h label e =
    elim (cases_Bool (bytes_eq (text l) bytes)) [
      | inl same ↦
          subst (λ (x : Label). Taken doi x (text x) bytes) (some_some l label (sym (cond-true (bytes_eq (text l) bytes) (Some l) None same) ∙ e))
          (record { doi_is = (h l refl).doi_is; is = (h l refl).is; text_is = (bytes_eq-Decides (text l) bytes).0 same })
      | inr other ↦ absurd (none_some label (sym (cond-false (bytes_eq (text l) bytes) (Some l) None other) ∙ e))
    ]
  where
    none_some : (l : Label) → None ≡ Some l → ⊥
    none_some l e = cc

    some_some : (a b : Label) → Some a ≡ Some b → a ≡ b
    some_some a b e = cc

good_start : (doi : ℕ) → doi < 2 ^ 32 → Good doi (start doi)
good_start doi l = record { doi_is = refl; is = bare-label doi 0 l (omega arith); number = omega arith }

pub none_bytes : (b : List ℕ) → None ≡ Some b → ⊥
none_bytes b e = cc

pub some_bytes : (a b : List ℕ) → Some a ≡ Some b → a ≡ b
some_bytes a b e = cc

-- what is taken of short bytes
pub record IsShort (text bytes : List ℕ) : Type 0 where
  pub few : length bytes ≤ 1024
  pub same : text ≡ bytes

pub short_of : (text bytes : List ℕ) → short text ≡ Some bytes → IsShort text bytes
short_of text bytes e =
    elim (cases_Bool (leb (length text) 1024)) [
      | inl few ↦
          (let same = some_bytes text bytes (sym (cond-true (leb (length text) 1024) (Some text) None few) ∙ e) in
          record { few = subst (λ (xs : List ℕ). length xs ≤ 1024) same (leb-true (length text) 1024 few); same = same })
      | inr long ↦ absurd (none_bytes bytes (sym (cond-false (leb (length text) 1024) (Some text) None long) ∙ e))
    ]

-- only short bytes are read
pub if_short : {B : Type 0} (f : List ℕ → Option B) (bytes : List ℕ) (b : B) → option_and_then f (short bytes) ≡ Some b → (length bytes ≤ 1024) × (f bytes ≡ Some b)
if_short f bytes b e =
    elim (cases_Bool (leb (length bytes) 1024)) [
      | inl few ↦ (leb-true (length bytes) 1024 few, sym (ap (option_and_then f) (short_is bytes (leb-true (length bytes) 1024 few))) ∙ e)
      | inr long ↦ absurd (none b (sym (ap (option_and_then f) (cond-false (leb (length bytes) 1024) (Some bytes) None long)) ∙ e))
    ]
  where
    none : {B : Type 0} (b : B) → None ≡ Some b → ⊥
    none b e = cc

pub text_taken : (doi : ℕ) (bytes : List ℕ) → doi < 2 ^ 32 → (label : Label) → reads_text doi bytes ≡ Some label → (length bytes ≤ 1024) × Taken doi label (text_of label) bytes
unfolding reads_text
text_taken doi bytes l label e =
    let s = if_short (λ text. option_and_then (λ l. where_spelled l (text_of l) text) (told (start doi) text)) bytes label e in
    (s.0, taken doi text_of bytes (told (start doi) bytes) (told_label doi (start doi) bytes (good_start doi l)) label s.1)

pub text_back : (doi : ℕ) (bytes : List ℕ) → doi < 2 ^ 32 → (label : Label) → reads_text doi bytes ≡ Some label → writes_text doi label ≡ Some bytes
unfolding writes_text
text_back doi bytes l label e =
    let t = text_taken doi bytes l label e in
    cond-true (label.doi == doi) (short (text_of label)) None (eq-eqb label.doi doi t.1.doi_is) ∙ ap short t.1.text_is ∙ short_is bytes t.0

pub text_again : (doi : ℕ) (label : Label) → IsLabel label → (bytes : List ℕ) → writes_text doi label ≡ Some bytes → reads_text doi bytes ≡ Some label
unfolding writes_text
text_again doi label is bytes e =
    elim (cases_Bool (label.doi == doi)) [
      | inl same ↦
          (let s = short_of (text_of label) bytes (sym (cond-true (label.doi == doi) (short (text_of label)) None same) ∙ e) in
          ap (λ (d : ℕ). reads_text d bytes) (sym (eqb-true label.doi doi same))
          ∙ ap (reads_text label.doi) (sym s.same)
          ∙ text_read label is (subst (λ (xs : List ℕ). length xs ≤ 1024) (sym s.same) s.few))
      | inr other ↦ absurd (none_bytes bytes (sym (cond-false (label.doi == doi) (short (text_of label)) None other) ∙ e))
    ]

none_label : (l : Label) → None ≡ Some l → ⊥
none_label l e = cc

some_label : (a b : Label) → Some a ≡ Some b → a ≡ b
some_label a b e = cc

-- compartments alone
comps_good : (doi sens : ℕ) → doi < 2 ^ 32 → sens < 256 → Good doi (start_comps doi sens)
comps_good doi sens d s = record { doi_is = refl; is = bare-label doi sens d s; number = omega arith }

comps_of : (doi sens : ℕ) (bytes : List ℕ) (o : Option Label) → ((l : Label) → o ≡ Some l → Finished doi l) → (label : Label)
    → option_and_then (λ l. cond (l.sens == sens) (where_spelled l (comps_text l.comps) bytes) None) o ≡ Some label → IsComps doi sens label bytes
comps_of doi sens bytes None h label e = absurd (none_label label e)
comps_of doi sens bytes (Some l) h label e =
    elim (cases_Bool (l.sens == sens)) [
      | inr other ↦ absurd (none_label label (sym (cond-false (l.sens == sens) (where_spelled l (comps_text l.comps) bytes) None other) ∙ e))
      | inl right ↦
          (let t = taken doi (λ x. comps_text x.comps) bytes (Some l) h label (sym (cond-true (l.sens == sens) (where_spelled l (comps_text l.comps) bytes) None right) ∙ e) in
          record {
            doi_is = t.doi_is;
            sens_is = sym (ap (λ (x : Label). x.sens) (same_of l bytes label (sym (cond-true (l.sens == sens) (where_spelled l (comps_text l.comps) bytes) None right) ∙ e))) ∙ eqb-true l.sens sens right;
            label_is = t.is;
            text_is = t.text_is;
          })
    ]
  where
    same_of : (l : Label) (bytes : List ℕ) (label : Label) → where_spelled l (comps_text l.comps) bytes ≡ Some label → l ≡ label
    same_of l bytes label e = elim (cases_Bool (bytes_eq (comps_text l.comps) bytes)) [
      | inl same ↦ some_label l label (sym (cond-true (bytes_eq (comps_text l.comps) bytes) (Some l) None same) ∙ e)
      | inr other ↦ absurd (none_label label (sym (cond-false (bytes_eq (comps_text l.comps) bytes) (Some l) None other) ∙ e))
    ]

pub comps_taken : (doi sens : ℕ) → doi < 2 ^ 32 → sens < 256 → (bytes : List ℕ) (label : Label) → reads_comps doi sens bytes ≡ Some label → IsComps doi sens label bytes
unfolding reads_comps
comps_taken doi sens d s bytes label e = comps_of doi sens bytes (told (start_comps doi sens) bytes) (told_label doi (start_comps doi sens) bytes (comps_good doi sens d s)) label e
