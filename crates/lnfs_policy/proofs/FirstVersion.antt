-- What version 1 asks of each label holds of all labels of its policies.
use Rattle.std.proofs.Common.{◌≡◌, ◌<◌, ◌==◌, ◌&&◌, ◌||◌, ℕ, Bool, true, List, [], ◌∷◌, ◌++◌, length, nat_lt, get_or, refl, sym, ap, subst, ◌∙◌, arith}
use Rattle.std.specs.Prelude.{Ok, Option, Some, None, All}
use Rattle.std.specs.List.{list_all}
use Rattle.std.specs.Option.{unwrap_or, option_or}
use Rattle.std.proofs.lemmas.Bool.{and_parts}
use Rattle.std.proofs.lemmas.List.Elements.{All-push, All-nil}
use Rattle.lnfs_calipso.specs.Label.{Label, label_at, dominates}
use Rattle.lnfs_calipso.specs.Levels.{AllAbove}
use Rattle.lnfs_policy.specs.FirstVersion.{IsOfFirst}
use Rattle.lnfs_policy.specs.Line.{Line, level_line, line_of}
use Rattle.lnfs_policy.specs.Rows.{label_of, label_in, version_in, version_of, labels_of}
use Rattle.lnfs_policy.specs.Fits.{fits, is_next, is_narrow, in_version, level_fits}
use Rattle.lnfs_policy.specs.Policy.{Policy, policy_in}
use Rattle.lnfs_policy.specs.PolicyText.{policy_of}
use Rattle.lnfs_policy.proofs.Kept.{lines_of}
use Rattle.lnfs_policy.proofs.Sound.{Place, before, here, place, label_kept, label_next}
use Rattle.lnfs_policy.proofs.Tables.{and_some, one_more}

pub record AreOfFirst (labels : List Label) : Type 0 where
  pub above : AllAbove labels (length labels)
  pub narrow : All IsOfFirst labels

-- ---- one label more

first_is : (labels : List Label) (label : Label) → label_at (labels ++ label ∷ []) 0 ≡ get_or labels 0 label
first_is [] label = refl
first_is (first ∷ labels) label = refl

above_more : (labels : List Label) (label : Label) → AllAbove labels (length labels) → dominates label (get_or labels 0 label) ≡ true → AllAbove (labels ++ label ∷ []) (length (labels ++ label ∷ []))
above_more labels label old fits i lt =
    elim (place labels label i lt) [
      | before l ↦
          let kept = label_kept labels label i l in
          let bottom = label_kept labels label 0 (omega arith) in
          rw (kept, bottom) (old i l)
      | here e ↦ rw (label_next labels label i e, first_is labels label) fits
    ]

narrow_more : (labels : List Label) (label : Label) → AreOfFirst labels → is_narrow labels label ≡ true → AreOfFirst (labels ++ label ∷ [])
unfolding is_narrow
narrow_more labels label are e =
    let parts = and_parts (dominates label (get_or labels 0 label)) (list_all (λ c. nat_lt c 256) label.comps) e in
    record { above = above_more labels label are.above parts.0; narrow = All-push IsOfFirst labels label are.narrow parts.1 }

-- ---- one line more

-- the version of the lines, where they have none yet: 1
abbrev version_so_far : List Line → ℕ
version_so_far ls = unwrap_or (version_of ls) 1

stays_behind : (o rest more : Option ℕ) → (unwrap_or more 1 ≡ 1 → unwrap_or rest 1 ≡ 1) → unwrap_or (option_or o more) 1 ≡ 1 → unwrap_or (option_or o rest) 1 ≡ 1
stays_behind None rest more f e = f e
stays_behind (Some v) rest more f e = e

version_stays : (ls : List Line) (line : Line) → version_so_far (ls ++ line ∷ []) ≡ 1 → version_so_far ls ≡ 1
version_stays [] line e = refl
version_stays (l ∷ ls) line e = stays_behind (version_in l) (version_of ls) (version_of (ls ++ line ∷ [])) (version_stays ls line) e

in_first : (o : Option ℕ) (x : Bool) → unwrap_or o 1 ≡ 1 → in_version o x ≡ true → x ≡ true
in_first None x is e = e
in_first (Some v) x is e = subst (λ (n : ℕ). (nat_lt 1 n || x) ≡ true) is e

none_is : {A : Type 0} (a : A) → None ≡ Some a → ⊥
none_is a e = cc

asked_of : (ls : List Line) (line : Line) (a : Label) → fits ls line ≡ true → label_in line ≡ Some a → in_version (version_of ls) (is_narrow (labels_of ls) a) ≡ true
asked_of ls (level_line place doi sens comps) a f e =
    let g : level_fits (version_of ls) (labels_of ls) place (Some a) ≡ true = rw e at f in
    (and_parts (place == length (labels_of ls) && is_next (labels_of ls) a) (in_version (version_of ls) (is_narrow (labels_of ls) a)) g).1
asked_of ls line a f e = absurd (none_is a e)

-- what holds of lines that are of version 1 so far
abbrev IsKept : List Line → Type 0
IsKept ls = version_so_far ls ≡ 1 → AreOfFirst (labels_of ls)

kept_more : (ls : List Line) (words : List (List ℕ)) (line : Line) → IsKept ls → line_of words ≡ Ok line → fits ls line ≡ true → IsKept (ls ++ line ∷ [])
kept_more ls words line kept w f v = more (label_in line) refl
  where
    first : version_so_far ls ≡ 1
    first = version_stays ls line v

    more : (o : Option Label) → label_in line ≡ o → AreOfFirst (labels_of (ls ++ line ∷ []))
    more None e = subst AreOfFirst (sym (one_more label_in ls line ∙ ap (and_some (labels_of ls)) e)) (kept first)
    more (Some a) e =
        subst AreOfFirst (sym (one_more label_in ls line ∙ ap (and_some (labels_of ls)) e))
        (narrow_more (labels_of ls) a (kept first) (in_first (version_of ls) (is_narrow (labels_of ls) a) first (asked_of ls line a f e)))

pub of_first : (text : List ℕ) (p : Policy) → policy_of text ≡ Ok p → p.version ≡ 1 → AreOfFirst p.labels
of_first text p e v =
    let lines = lines_of IsKept kept_more text p (λ _. record { above = λ i li. absurd (omega arith); narrow = All-nil IsOfFirst }) e in
    let same = lines.2 in
    subst (λ (q : Policy). AreOfFirst q.labels) same (lines.1 (ap (λ (q : Policy). q.version) same ∙ v))
