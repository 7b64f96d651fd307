-- One more label keeps what is sound.
use Rattle.std.proofs.Common.{◌≡◌, ◌<◌, ◌≤◌, ◌==◌, ℕ, zero, suc, true, false, not, ◌&&◌, List, [], ◌∷◌, ◌++◌, length, nat_lt, get_or, refl, sym, subst, ◌∙◌, inl, inr, arith}
use Rattle.std.specs.Prelude.{Option, Some}
use Rattle.std.specs.List.{list_any, list_all}
use Rattle.std.proofs.lemmas.Bool.{and_parts, and_from, ltb-true, lt-ltb, not-true, cases_order, false≢true, false_from_ne_true, or_parts, or_cases, or_left, or_right, eqb-true, eq-eqb}
use Rattle.std.proofs.lemmas.List.{get_or_append_left, get_or_push, get_or_default, length_push}
use Rattle.lnfs_calipso.specs.Label.{Label, has_comp, label_at}
use Rattle.lnfs_calipso.specs.Same.{same_label}
use Rattle.lnfs_calipso.specs.Equality.{same_label-refl}
use Rattle.lnfs_calipso.specs.Levels.{Apart, AreFirstLevels}
use Rattle.lnfs_calipso.specs.declared.lattice.TheConstants.{MAX_LEVELS}
use Rattle.lnfs_policy.specs.Fits.{is_next, is_narrow, in_version, level_fits}

-- an earlier level keeps its label
pub label_kept : (labels : List Label) (label : Label) (a : ℕ) → a < length labels → label_at (labels ++ label ∷ []) a ≡ label_at labels a
label_kept labels label a lt = get_or_append_left labels (label ∷ []) _ a lt ∙ get_or_default labels a _ _ lt

-- the next level has the label
pub label_next : (labels : List Label) (label : Label) (a : ℕ) → a ≡ length labels → label_at (labels ++ label ∷ []) a ≡ label
label_next labels label a e = get_or_push labels label _ a (sym e)

-- a number of the longer list is one of the shorter, or the last
pub data Place (n a : ℕ) : Type 0 where
  before : a < n → Place n a
  here : a ≡ n → Place n a

pub place : (labels : List Label) (label : Label) (a : ℕ) → a < length (labels ++ label ∷ []) → Place (length labels) a
place labels label a lt =
    let n = length_push labels label in
    elim (cases_order a (length labels)) [ inl e ↦ here e | inr o ↦ elim o [ inl l ↦ before l | inr g ↦ absurd (omega arith) ] ]

-- a label that is new is none of the earlier ones
untaken : (labels : List Label) (label d : Label) (a : ℕ) → list_any (λ l. same_label l label) labels ≡ false → a < length labels → get_or labels a d ≡ label → ⊥
untaken [] label d a e lt same = absurd (omega arith)
untaken (x ∷ xs) label d zero e lt same =
    let f = (or_parts (same_label x label) (list_any (λ l. same_label l label) xs) e).0 in
    false≢true (sym (subst (λ (y : Label). same_label y label ≡ false) same f) ∙ same_label-refl label)
untaken (x ∷ xs) label d (suc a) e lt same = untaken xs label d a (or_parts (same_label x label) (list_any (λ l. same_label l label) xs) e).1 (omega arith) same

apart : (labels : List Label) (label : Label) → Apart labels (length labels) → list_any (λ l. same_label l label) labels ≡ false → Apart (labels ++ label ∷ []) (length (labels ++ label ∷ []))
apart labels label old new i j ij lj same =
    let n = length_push labels label in
    let li : i < length labels = omega arith in
    elim (place labels label j lj) [
      | before m ↦ old i j ij m (sym (label_kept labels label i li) ∙ same ∙ label_kept labels label j m)
      | here f ↦ untaken labels label _ i new li (sym (label_kept labels label i li) ∙ same ∙ label_next labels label j f)
    ]

pub next_sound : (labels : List Label) (label : Label) → AreFirstLevels labels → is_next labels label ≡ true → AreFirstLevels (labels ++ label ∷ [])
unfolding is_next
next_sound labels label old e =
    let parts = and_parts (nat_lt (length labels) MAX_LEVELS) (not (list_any (λ l. same_label l label) labels)) e in
    let room : length labels < MAX_LEVELS = ltb-true _ _ parts.0 in
    record {
      few = omega (arith, length_push labels label);
      apart = apart labels label old.apart (not-true _ parts.1);
    }

-- a level line that fits brings a label that may come next
pub fits_next : (version : Option ℕ) (labels : List Label) (place : ℕ) (label : Label) → level_fits version labels place (Some label) ≡ true → is_next labels label ≡ true
fits_next version labels place label e =
    (and_parts (place == length labels) (is_next labels label)
    (and_parts (place == length labels && is_next labels label) (in_version version (is_narrow labels label)) e).0).1

-- all compartments are below a number, or one isn't
pub all_below : (comps : List ℕ) (bound : ℕ) → ((c : ℕ) → has_comp comps c ≡ true → c < bound) → list_all (λ c. nat_lt c bound) comps ≡ true
all_below [] bound h = refl
all_below (c ∷ comps) bound h =
    and_from (nat_lt c bound) (list_all (λ c. nat_lt c bound) comps) (lt-ltb c bound (h c (or_left (c == c) (has_comp comps c) (eq-eqb c c refl))))
    (all_below comps bound (λ d i. h d (or_right (c == d) (has_comp comps d) i)))

pub not_below : (comps : List ℕ) (bound c : ℕ) → has_comp comps c ≡ true → bound ≤ c → list_all (λ c. nat_lt c bound) comps ≡ false
not_below comps bound c h high = false_from_ne_true (list_all (λ c. nat_lt c bound) comps) (λ all. (let low = below comps all c h in absurd (omega arith)))
  where
    below : (comps : List ℕ) → list_all (λ c. nat_lt c bound) comps ≡ true → (c : ℕ) → has_comp comps c ≡ true → c < bound
    below [] all c h = absurd (false≢true h)
    below (x ∷ comps) all c h =
        let parts = and_parts (nat_lt x bound) (list_all (λ c. nat_lt c bound) comps) all in
        elim (or_cases (x == c) (has_comp comps c) h) [
          | inl same ↦ (let e = eqb-true x c same in let l = ltb-true x bound parts.0 in omega arith)
          | inr other ↦ below comps parts.1 c other
        ]
