-- Replies that are filled in place by place.
use Rattle.std.proofs.Common.{◌≡◌, ◌⊎◌, ◌≢◌, ℕ, ◌+◌, ◌<◌, ◌≤◌, List, length, get_or, set, Option, Some, None, refl, sym, ap, subst, ◌∙◌, arith, inl, inr}
use Rattle.std.proofs.lemmas.List.{ext_get_or, get_or-set_same, get_or-set_other, length-set}
use Rattle.std.proofs.lemmas.Bool.{cases_eq}
use Rattle.lnfs_audit.specs.Filled.{IsBelow, AreFilled}

module _ (all : List (Option (List ℕ))) where
  pub none_filled : (replies : List (Option (List ℕ))) (P : ℕ → Type 0) → length replies ≡ length all → ((i : ℕ) → P i → ⊥) → AreFilled P all replies
  none_filled replies P count none = record { count = count; there = λ i within here. absurd (none i here) }

  module _ (P Q : ℕ → Type 0) (replies : List (Option (List ℕ))) (filled : AreFilled P all replies) where
    pub fewer : ((i : ℕ) → i < length all → Q i → P i) → AreFilled Q all replies
    fewer only = record { count = filled.count; there = λ i within here. filled.there i within (only i within here) }

    pub one_filled : (k : ℕ) (reply : Option (List ℕ)) → k < length all → get_or all k None ≡ reply → ((i : ℕ) → Q i → P i ⊎ (i ≡ k)) → AreFilled Q all (set replies k reply)
    one_filled k reply within is only =
        record {
          count = length-set replies k reply ∙ filled.count;
          there = λ i there here. at i there (only i here) (cases_eq i k);
        }
      where
        at : (i : ℕ) → i < length all → P i ⊎ (i ≡ k) → (i ≡ k) ⊎ (i ≢ k) → get_or (set replies k reply) i None ≡ get_or all i None
        at i there old (inl same) =
            let room : k < length replies = omega (arith, within, filled.count) in
            ap (λ (n : ℕ). get_or (set replies k reply) n None) same ∙ get_or-set_same replies k reply None room ∙ sym is ∙ ap (λ (n : ℕ). get_or all n None) (sym same)
        at i there (inl old) (inr other) = get_or-set_other replies k i reply None other ∙ filled.there i there old
        at i there (inr same) (inr other) = absurd (other same)

  pub all_filled : (P : ℕ → Type 0) (replies : List (Option (List ℕ))) → AreFilled P all replies → ((i : ℕ) → i < length all → P i) → replies ≡ all
  all_filled P replies filled each = ext_get_or None replies all filled.count (λ i within. let there : i < length all = omega (arith, within, filled.count) in filled.there i there (each i there))

-- ---- the places that are filled in the course of a loop

-- those without a level, before a place
abbrev pub IsStranger : (levels : ℕ → Option ℕ) → (index : ℕ) → ℕ → Type 0
IsStranger levels index i = (i < index) × (levels i ≡ None)

-- those without a level and of the levels below one, and those of this level before a place
abbrev pub IsServed : (levels : ℕ → Option ℕ) → (level index : ℕ) → ℕ → Type 0
IsServed levels level index i = IsBelow level (levels i) ⊎ ((i < index) × (levels i ≡ Some level))

module _ (levels : ℕ → Option ℕ) (all replies : List (Option (List ℕ))) where
  pub no_stranger : length replies ≡ length all → AreFilled (IsStranger levels 0) all replies
  no_stranger count = none_filled all replies (IsStranger levels 0) count (λ i here. absurd (omega (arith, here.0)))

  module _ (index : ℕ) (filled : AreFilled (IsStranger levels index) all replies) where
    pub one_stranger : (reply : Option (List ℕ)) → index < length all → get_or all index None ≡ reply → AreFilled (IsStranger levels (index + 1)) all (set replies index reply)
    one_stranger reply within is = one_filled all (IsStranger levels index) (IsStranger levels (index + 1)) replies filled index reply within is (λ i here. at i here (cases_eq i index))
      where
        at : (i : ℕ) → IsStranger levels (index + 1) i → (i ≡ index) ⊎ (i ≢ index) → IsStranger levels index i ⊎ (i ≡ index)
        at i here (inl same) = inr same
        at i here (inr other) = inl (omega (arith, here.0, other), here.1)

    pub not_stranger : (level : ℕ) → levels index ≡ Some level → AreFilled (IsStranger levels (index + 1)) all replies
    not_stranger level is = fewer all (IsStranger levels index) (IsStranger levels (index + 1)) replies filled (λ i within here. at i here (cases_eq i index))
      where
        at : (i : ℕ) → IsStranger levels (index + 1) i → (i ≡ index) ⊎ (i ≢ index) → IsStranger levels index i
        at i here (inl same) = let none : levels index ≡ None = ap levels (sym same) ∙ here.1 in absurd cc
        at i here (inr other) = (omega (arith, here.0, other), here.1)

    pub all_strangers : length all ≤ index → AreFilled (λ i. IsBelow 0 (levels i)) all replies
    all_strangers end = fewer all (IsStranger levels index) (λ i. IsBelow 0 (levels i)) replies filled (λ i within here. at i within (levels i) refl here)
      where
        at : (i : ℕ) → i < length all → (level : Option ℕ) → levels i ≡ level → IsBelow 0 level → IsStranger levels index i
        at i within None is here = (omega (arith, within, end), is)
        at i within (Some level) is here = absurd (omega (arith, here))

  module _ (level : ℕ) where
    pub none_of_level : AreFilled (λ i. IsBelow level (levels i)) all replies → AreFilled (IsServed levels level 0) all replies
    none_of_level filled = fewer all (λ i. IsBelow level (levels i)) (IsServed levels level 0) replies filled (λ i within here. at i here)
      where
        at : (i : ℕ) → IsServed levels level 0 i → IsBelow level (levels i)
        at i (inl below) = below
        at i (inr own) = absurd (omega (arith, own.0))

    module _ (index : ℕ) (filled : AreFilled (IsServed levels level index) all replies) where
      pub one_of_level : (reply : Option (List ℕ)) → index < length all → get_or all index None ≡ reply → AreFilled (IsServed levels level (index + 1)) all (set replies index reply)
      one_of_level reply within is = one_filled all (IsServed levels level index) (IsServed levels level (index + 1)) replies filled index reply within is (λ i here. at i here (cases_eq i index))
        where
          at : (i : ℕ) → IsServed levels level (index + 1) i → (i ≡ index) ⊎ (i ≢ index) → IsServed levels level index i ⊎ (i ≡ index)
          at i here (inl same) = inr same
          at i (inl below) (inr other) = inl (inl below)
          at i (inr own) (inr other) = inl (inr (omega (arith, own.0, other), own.1))

      pub not_of_level : (levels index ≡ Some level → ⊥) → AreFilled (IsServed levels level (index + 1)) all replies
      not_of_level not = fewer all (IsServed levels level index) (IsServed levels level (index + 1)) replies filled (λ i within here. at i here (cases_eq i index))
        where
          at : (i : ℕ) → IsServed levels level (index + 1) i → (i ≡ index) ⊎ (i ≢ index) → IsServed levels level index i
          at i (inl below) same = inl below
          at i (inr own) (inl same) = absurd (not (ap levels (sym same) ∙ own.1))
          at i (inr own) (inr other) = inr (omega (arith, own.0, other), own.1)

      pub all_of_level : length all ≤ index → AreFilled (λ i. IsBelow (level + 1) (levels i)) all replies
      all_of_level end = fewer all (IsServed levels level index) (λ i. IsBelow (level + 1) (levels i)) replies filled (λ i within here. at i within (levels i) refl here)
        where
          own : (i l : ℕ) → i < length all → levels i ≡ Some l → (l ≡ level) ⊎ (l ≢ level) → l < level + 1 → IsServed levels level index i
          own i l within is (inl same) less = inr (omega (arith, within, end), is ∙ ap Some same)
          own i l within is (inr other) less = inl (subst (IsBelow level) (sym is) (let below : l < level = omega (arith, less, other) in below))

          at : (i : ℕ) → i < length all → (l : Option ℕ) → levels i ≡ l → IsBelow (level + 1) l → IsServed levels level index i
          at i within None is here = inl (subst (IsBelow level) (sym is) tt)
          at i within (Some l) is here = own i l within is (cases_eq l level) here
