-- Sensitivity labels and their dominance (RFC 5570).
use Rattle.std.specs.Prelude.{◌≡◌, ◌==◌, ◌&&◌, ◌||◌, ◌<◌, ◌^◌, ℕ, Bool, true, List, [], length, filter, nat_le, nat_lt}
use Rattle.std.specs.List.{list_any, list_all, range_with_len, slice_index_or}
use Rattle.lnfs_calipso.specs.declared.bitmap.TheConstants.{COMPARTMENTS}

-- A label: the DOI under which it is read, the sensitivity, and the compartments, from 0 to 1,919, in
-- rising order.
pub record Label : Type 0 where
  pub doi : ℕ
  pub sens : ℕ
  pub comps : List ℕ

abbrev pub has_comp : List ℕ → ℕ → Bool
has_comp comps c = list_any (λ x. x == c) comps

-- the numbers below n that pass a test, in rising order
unfoldable pub numbers_below : ℕ → (ℕ → Bool) → List ℕ
numbers_below n test = filter test (range_with_len 0 n)

-- the compartments that pass a test
abbrev pub compartments : (ℕ → Bool) → List ℕ
compartments test = numbers_below COMPARTMENTS test

-- the label of a DOI, a sensitivity and the compartments of a list in any order
abbrev pub labelled : ℕ → ℕ → List ℕ → Label
labelled doi sens comps = record { doi = doi; sens = sens; comps = compartments (has_comp comps) }

-- a label with one more compartment
abbrev pub with_comp : Label → ℕ → Label
with_comp label comp = record label { comps = compartments (λ c. has_comp label.comps c || comp == c) }

-- What every label has: a DOI of 32 bits, a sensitivity of 8, and as its compartments those numbers
-- from 0 to 1,919 that are among them, in rising order and each once.
pub record IsLabel (label : Label) : Type 0 where
  pub doi : label.doi < 2 ^ 32
  pub sens : label.sens < 2 ^ 8
  pub comps : label.comps ≡ compartments (has_comp label.comps)

-- RFC 5570 section 2.4.2: the DOIs are equal, the sensitivity is at least the other's, and each
-- compartment of the other is one of its own.
abbrev pub dominates : Label → Label → Bool
dominates a b = a.doi == b.doi && nat_le b.sens a.sens && list_all (has_comp a.comps) b.comps

abbrev pub lowest : Label
lowest = record { doi = 0; sens = 0; comps = [] }

-- the label of a level, which is a place in the list; a number past the end counts as level 0
abbrev pub label_at : List Label → ℕ → Label
label_at labels level = slice_index_or labels level (slice_index_or labels 0 lowest)

-- Dominance of levels: each dominates level 0, which dominates itself alone; of two others the labels decide.
abbrev pub dom_of : List Label → ℕ → ℕ → Bool
dom_of labels a b = b == 0 || (nat_lt 0 a && dominates (label_at labels a) (label_at labels b))

-- Dominance of levels is a preorder, with level 0 below all of them.
pub record IsPreorderWithBottom (dom : ℕ → ℕ → Bool) : Type 0 where
  pub reflexive : (a : ℕ) → dom a a ≡ true
  pub transitive : (a b c : ℕ) → dom a b ≡ true → dom b c ≡ true → dom a c ≡ true
  pub bottom : (a : ℕ) → dom a 0 ≡ true

-- No two of the levels that a list has dominate one another.
abbrev pub IsAntisymmetric : List Label → (ℕ → ℕ → Bool) → Type 0
IsAntisymmetric labels dom =
    (a b : ℕ) → a < length labels → b < length labels → dom a b ≡ true → dom b a ≡ true → a ≡ b

-- Of the levels that a list has, those dominate that have labels which do (RFC 5570 section 2.4.2).
abbrev pub IsOfLabels : List Label → (ℕ → ℕ → Bool) → Type 0
IsOfLabels labels dom =
    (a b : ℕ) → a < length labels → b < length labels → dom a b ≡ dominates (label_at labels a) (label_at labels b)
