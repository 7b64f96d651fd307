-- The labels of levels.
use Rattle.std.proofs.Common.{◌≡◌, ℕ, ◌+◌, ◌<◌, ◌==◌, ◌&&◌, Bool, true, false, List, length, get_or, take, refl, sym, ap, ◌∙◌, subst, arith, inl, inr, slice_index_or, length-take, ltb, Some, None, All}
use Rattle.std.specs.List.{list_any, position_or_len}
use borrow.Author.Count.{below_more}
use Rattle.std.proofs.lemmas.List.Folds.{Any-from_list_any, list_any_at}
use Rattle.std.proofs.lemmas.List.Sums.{fails_before_first}
use Rattle.std.proofs.lemmas.List.Quantifiers.{position-Some}
use Rattle.std.proofs.lemmas.Bool.{cases_eq, cases_lt, cases_order, both_ways, cond-true, lt-ltb, ltb-true, or_cases, or_left, or_right, and_parts, and_from, eqb-true, eq-eqb}
use Rattle.std.proofs.lemmas.List.{get_or_default, get_or-take}
use Rattle.lnfs_calipso.specs.Label.{Label, IsLabel, dominates, label_at, lowest, dom_of, IsPreorderWithBottom, IsAntisymmetric, IsOfLabels}
use Rattle.lnfs_calipso.specs.Levels.{StandsEarlier, Apart, AllAbove, IsPlaceOf, IsNowhere}
use Rattle.lnfs_calipso.specs.Same.{same_label, level_of}
use Rattle.lnfs_calipso.specs.Equality.{agree, same_label-true, same_label-refl}
use Rattle.lnfs_calipso.proofs.Orders.{dominates-reflexive, dominates-transitive, dominates-antisymmetric}

-- of labels apart no two are equal
pub one_place : (labels : List Label) → Apart labels (length labels) → (i j : ℕ) → i < length labels → j < length labels → label_at labels i ≡ label_at labels j → i ≡ j
one_place labels apart i j li lj same =
    elim (cases_order i j) [ inl e ↦ e | inr o ↦ elim o [ inl l ↦ absurd (apart i j l lj same) | inr g ↦ absurd (apart j i g li (sym same)) ] ]

module _ (labels : List Label) where
  of_two : (a b : ℕ) → (b ≡ 0 → ⊥) → dom_of labels a b ≡ true → (0 < a) × (dominates (label_at labels a) (label_at labels b) ≡ true)
  of_two a b some h =
      elim (or_cases (b == 0) (ltb 0 a && dominates (label_at labels a) (label_at labels b)) h) [
        | inl zero ↦ absurd (some (eqb-true b 0 zero))
        | inr both ↦
            (let parts = and_parts (ltb 0 a) (dominates (label_at labels a) (label_at labels b)) both in
            (ltb-true 0 a parts.0, parts.1))
      ]

  two_of : (a b : ℕ) → 0 < a → dominates (label_at labels a) (label_at labels b) ≡ true → dom_of labels a b ≡ true
  two_of a b pos h = or_right (b == 0) (ltb 0 a && dominates (label_at labels a) (label_at labels b)) (and_from (ltb 0 a) (dominates (label_at labels a) (label_at labels b)) (lt-ltb 0 a pos) h)

  bottom_of : (a b : ℕ) → b ≡ 0 → dom_of labels a b ≡ true
  bottom_of a b e = or_left (b == 0) (ltb 0 a && dominates (label_at labels a) (label_at labels b)) (eq-eqb b 0 e)

  reflexive_of : (a : ℕ) → dom_of labels a a ≡ true
  reflexive_of a = elim (cases_eq a 0) [ inl none ↦ bottom_of a a none | inr some ↦ two_of a a (omega arith) (dominates-reflexive (label_at labels a)) ]

  transitive_of : (a b c : ℕ) → dom_of labels a b ≡ true → dom_of labels b c ≡ true → dom_of labels a c ≡ true
  transitive_of a b c h k =
      elim (cases_eq c 0) [
        | inl none ↦ bottom_of a c none
        | inr some ↦
            (let lower = of_two b c some k in
            let some' : b ≡ 0 → ⊥ = λ e. positive b lower.0 e in
            let upper = of_two a b some' h in
            two_of a c upper.0 (dominates-transitive (label_at labels a) (label_at labels b) (label_at labels c) upper.1 lower.1))
      ]
    where
      positive : (n : ℕ) → 0 < n → n ≡ 0 → ⊥
      positive n l e = omega arith

  pub preorder_of : IsPreorderWithBottom (dom_of labels)
  preorder_of = record { reflexive = reflexive_of; transitive = transitive_of; bottom = λ a. bottom_of a 0 refl }

  -- levels that dominate one another are one
  pub antisymmetric_of : Apart labels (length labels) → All IsLabel labels → IsAntisymmetric labels (dom_of labels)
  antisymmetric_of apart are a b al bl h k =
      elim (cases_eq a 0) [
        | inl zero_a ↦ elim (cases_eq b 0) [ inl zero_b ↦ zero_a ∙ sym zero_b | inr some_b ↦ (let up = of_two a b some_b h in absurd (positive a up.0 zero_a)) ]
        | inr some_a ↦
            (let down = of_two b a some_a k in
            let up = of_two a b (positive b down.0) h in
            one_place labels apart a b al bl
            (dominates-antisymmetric (label_at labels a) (label_at labels b) (is_label a al) (is_label b bl) up.1 down.1))
      ]
    where
      positive : (n : ℕ) → 0 < n → n ≡ 0 → ⊥
      positive n l e = omega arith

      is_label : (i : ℕ) → i < length labels → IsLabel (label_at labels i)
      is_label i l = are i (slice_index_or labels 0 lowest) l

  -- where each label dominates the first, the levels are as their labels
  pub of_labels : Apart labels (length labels) → All IsLabel labels → AllAbove labels (length labels) → IsOfLabels labels (dom_of labels)
  of_labels apart are above a b al bl = agree (dom_of labels a b) (dominates (label_at labels a) (label_at labels b)) down up
    where
      down : dom_of labels a b ≡ true → dominates (label_at labels a) (label_at labels b) ≡ true
      down h =
          elim (cases_eq b 0) [
            | inl none ↦ ap (λ (n : ℕ). dominates (label_at labels a) (label_at labels n)) none ∙ above a al
            | inr some ↦ (of_two a b some h).1
          ]

      up : dominates (label_at labels a) (label_at labels b) ≡ true → dom_of labels a b ≡ true
      up h =
          elim (cases_eq b 0) [
            | inl none ↦ bottom_of a b none
            | inr some ↦
                elim (cases_eq a 0) [
                  | inr first ↦ two_of a b (omega arith) h
                  | inl zero_a ↦
                      (let low : dominates (label_at labels 0) (label_at labels b) ≡ true = ap (λ (n : ℕ). dominates (label_at labels n) (label_at labels b)) (sym zero_a) ∙ h in
                      let d = slice_index_or labels 0 lowest in
                      absurd (apart 0 b (omega arith) bl (dominates-antisymmetric (label_at labels 0) (label_at labels b) (are 0 d (omega arith)) (are b d bl) low (above b bl))))
                ]
          ]

-- the label at a place, whatever stands for what is past the end
pub at : (labels : List Label) (i : ℕ) (x : Label) → i < length labels → x ≡ get_or labels i x → x ≡ label_at labels i
at labels i x l e = e ∙ get_or_default labels i x (slice_index_or labels 0 lowest) l

pub stands_earlier : (labels : List Label) (i : ℕ) (x : Label) → i < length labels → x ≡ label_at labels i → list_any (λ y. same_label y x) (take i labels) ≡ true → StandsEarlier labels i
stands_earlier labels i x l e h =
    let any = Any-from_list_any (λ y. same_label y x) (take i labels) h in
    let before : any.0 < i = omega (arith, any.2, length-take i labels) in
    record {
      place = any.0;
      before = before;
      same =
          sym (get_or-take i labels any.0 (slice_index_or labels 0 lowest) before)
          ∙ get_or_default (take i labels) any.0 (slice_index_or labels 0 lowest) any.1 any.2
          ∙ any.3 ∙ same_label-true any.1 x any.4 ∙ e;
    }

pub stands_not : (labels : List Label) (i : ℕ) (x : Label) → i < length labels → x ≡ label_at labels i → list_any (λ y. same_label y x) (take i labels) ≡ false → (j : ℕ) → j < i → label_at labels j ≡ label_at labels i → ⊥
stands_not labels i x l e h j below same =
    let d = slice_index_or labels 0 lowest in
    let here : get_or (take i labels) j d ≡ x = get_or-take i labels j d below ∙ same ∙ sym e in
    both_ways (list_any (λ y. same_label y x) (take i labels)) h
    (list_any_at (λ y. same_label y x) (take i labels) j d (omega (arith, length-take i labels)) (subst (λ (y : Label). same_label y x ≡ true) (sym here) (same_label-refl x)))

pub apart_more : (labels : List Label) (n : ℕ) → Apart labels n → ((j : ℕ) → j < n → label_at labels j ≡ label_at labels n → ⊥) → Apart labels (n + 1)
apart_more labels n apart more i j ij jn same =
    elim (cases_lt j n) [
      | inl l ↦ apart i j ij l same
      | inr l ↦ (let last : j ≡ n = omega arith in more i (omega arith) (same ∙ ap (label_at labels) last))
    ]

pub above_more : (labels : List Label) (n : ℕ) → AllAbove labels n → dominates (label_at labels n) (label_at labels 0) ≡ true → AllAbove labels (n + 1)
above_more labels n above more = below_more (λ i. dominates (label_at labels i) (label_at labels 0) ≡ true) n above more

-- the place of an equal label
pub place_found : (labels : List Label) (label : Label) (i : ℕ) → level_of labels label ≡ Some i → IsPlaceOf labels label i
place_found labels label i h =
    let first = position-Some (λ l. same_label l label) labels i (slice_index_or labels 0 lowest) h in
    (first.0, same_label-true (label_at labels i) label first.1)

pub place_missing : (labels : List Label) (label : Label) → level_of labels label ≡ None → IsNowhere labels label
place_missing labels label h i l same =
    let test = λ (x : Label). same_label x label in
    let d = slice_index_or labels 0 lowest in
    elim (cases_lt (position_or_len test labels) (length labels)) [
      | inl found ↦ absurd (some_none (position_or_len test labels) (sym (cond-true (ltb (position_or_len test labels) (length labels)) (Some (position_or_len test labels)) None (lt-ltb (position_or_len test labels) (length labels) found)) ∙ h))
      | inr none ↦
          both_ways (test (label_at labels i)) (fails_before_first test labels i d (omega arith)) (subst (λ (x : Label). same_label x label ≡ true) (sym same) (same_label-refl label))
    ]
  where
    some_none : (i : ℕ) → Some i ≡ None → ⊥
    some_none i e = cc

pub at_bottom : (labels : List Label) (i : ℕ) (x bottom : Label) → x ≡ label_at labels i → label_at labels 0 ≡ bottom → (b : Bool) → dominates x bottom ≡ b → dominates (label_at labels i) (label_at labels 0) ≡ b
at_bottom labels i x bottom e f b h = ap (λ (y : Label). dominates y (label_at labels 0)) (sym e) ∙ ap (dominates x) f ∙ h
